use Rattle.std.proofs.Common.{◌≡◌, ◌∙◌, sym, Bool, List, length, rules, tests}
use Rattle.std.specs.List.{zip, list_all}
use Rattle.std.proofs.lemmas.Iterator.{YieldsList-from_slice, YieldsList-from_zip}
use Rattle.std.proofs.lemmas.Iterator.Search.{all_from_yields_List}
use Rattle.money.specs.declared.units.Ticks.{Ticks}
use Rattle.money.specs.declared.units.CentsPerStart.{CentsPerStart}
use Rattle.money.specs.Units.{day_hours}
use Rattle.money.specs.Production.{amount_ok, no_ticks, no_start, hours_ok}
use Rattle.money.proofs.laws.UnitLaws.{every-pair}
use Rattle.money.proofs.laws.ProductionLaws.{day-of}
use Rattle.money.proofs.production.ReadyDay.new.Goals as goal

-- what the test of all answers
tested : (amounts : List Ticks) (starts : List CentsPerStart) {b : Bool} → b ≡ list_all (λ (x : Ticks × CentsPerStart). amount_ok x.0 x.1) (zip amounts starts)
    → length amounts ≡ day_hours → length starts ≡ day_hours → b ≡ hours_ok amounts starts
unfolding hours_ok
tested amounts starts e u v =
    e ∙ every-pair day_hours (λ (x : Ticks × CentsPerStart). amount_ok x.0 x.1) no_ticks no_start amounts starts u v

pub returns-then-not-all-clause-fault : goal.returns-then-not-all-clause-fault
returns-then-not-all-clause-fault c =
    let e : c.all.result ≡ list_all (λ (x : Ticks × CentsPerStart). amount_ok x.0 x.1) (zip c.args.amounts.now c.args.starts.now)
    = all_from_yields_List (λ (x : Ticks × CentsPerStart). amount_ok x.0 x.1) c.all.new.self _ c.all.result c.all.ensures.ran
    (YieldsList-from_zip (YieldsList-from_slice c.args.amounts.now cc) (YieldsList-from_slice c.args.starts.now cc))
    (λ x b q k. search (rules, tests)) in
    rw (sym (tested c.args.amounts.now c.args.starts.now e (search rules) (search rules)) ∙ c.if-not-all.true)

pub invariant_of-result : goal.invariant_of-result
invariant_of-result c =
    let e : c.all.result ≡ list_all (λ (x : Ticks × CentsPerStart). amount_ok x.0 x.1) (zip c.args.amounts.now c.args.starts.now)
    = all_from_yields_List (λ (x : Ticks × CentsPerStart). amount_ok x.0 x.1) c.all.new.self _ c.all.result c.all.ensures.ran
    (YieldsList-from_zip (YieldsList-from_slice c.args.amounts.now cc) (YieldsList-from_slice c.args.starts.now cc))
    (λ x b q k. search (rules, tests)) in
    record { ready = day-of _ _ (sym (tested c.args.amounts.now c.args.starts.now e (search rules) (search rules)) ∙ c.if-not-all.false) }

pub returns-clause-fault : goal.returns-clause-fault
returns-clause-fault c =
    let e : c.all.result ≡ list_all (λ (x : Ticks × CentsPerStart). amount_ok x.0 x.1) (zip c.args.amounts.now c.args.starts.now)
    = all_from_yields_List (λ (x : Ticks × CentsPerStart). amount_ok x.0 x.1) c.all.new.self _ c.all.result c.all.ensures.ran
    (YieldsList-from_zip (YieldsList-from_slice c.args.amounts.now cc) (YieldsList-from_slice c.args.starts.now cc))
    (λ x b q k. search (rules, tests)) in
    rw (sym (tested c.args.amounts.now c.args.starts.now e (search rules) (search rules)) ∙ c.if-not-all.false)
