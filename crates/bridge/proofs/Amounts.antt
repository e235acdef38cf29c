-- The prices of bytes that are a `PR`, in any spelling: they have them; and an amount that is refused.
use Rattle.std.specs.Prelude.{◌≡◌, refl, Bool, true, false, cond, is_some, List, ◌++◌, ℕ, ltb, length, drop, Result, Ok, Err}
use Rattle.std.specs.Bool.{then_some}
use Rattle.std.proofs.Common.{sym, ap, ◌∙◌, subst, arith}
use Rattle.money.specs.Answers.{answer_of, fault_in}
use Rattle.money.specs.declared.refusals.Refusal.{Refusal}
use Rattle.money.specs.declared.units.Ticks.{Ticks}
use Rattle.records.specs.Reading.{Res, bad, got}
use Rattle.records.specs.Marks.{mark_bytes, mark, mark_among}
use Rattle.records.specs.Layouts.{hour_prices}
use Rattle.records.specs.Changes.{Change, begins, head, change, body_for, Input, fine, fault, whole, parse}
use Rattle.records.specs.Views.{ahead, viewed}
use Rattle.records.specs.Answers.{input_of}
use Rattle.records.specs.declared.marks.Mark.{Mark}
use Rattle.records.specs.declared.marks.Mark.TheVariants.{Pr}
use Rattle.records.specs.declared.marks.Kind.TheVariants.{File}
use Rattle.records.specs.declared.marks.Wanted.TheVariants.{Only}
use Rattle.records.proofs.laws.BookLaws.{parse-fault}
use Rattle.records.proofs.laws.ChangeLaws.{begins-true, rest-parts}
use Rattle.records.proofs.laws.ReaderLaws.{taken-view}
use Rattle.records.proofs.laws.ViewLaws.{view-prices}
use Rattle.bridge.specs.Bridge.{fault_of, filing_fault, answer_fault}

filed-prices : (u : List ℕ) (c : Change) (t : List ℕ) → change (Only File) (mark_bytes Pr ++ u) ≡ got c t
    → {k : ℕ} → fault k ≡ input_of (viewed Pr hour_prices (mark_bytes Pr ++ u)) → ⊥
unfolding change head mark mark_among body_for ahead viewed
filed-prices u c t q {k} e =
    let p = rest-parts (record { kind = File; mark = Pr }) u c t q in
    let v = taken-view hour_prices view-prices.lawful p.after-name p.body t (sym (view-prices.same p.after-name) ∙ p.body_is) in
    let w : viewed Pr hour_prices (mark_bytes Pr ++ u) ≡ got v.what t = rw (p.hour-is, p.name-is, v.read) in
    let f : fault k ≡ fine v.what = e ∙ ap input_of w in
    let z : ◌≡◌ {A = ℕ} 0 1 = cc in
    omega (arith, z)

-- a filing without a fault, of a mark that stands there
filing-right : (short marked : Bool) (x : Input Change) → 0 ≡ cond short 1 (cond marked (fault_of x) 2) → (marked ≡ true) × (fault_of x ≡ 0)
filing-right true marked x z = absurd (omega (arith, z))
filing-right false false x z = absurd (omega (arith, z))
filing-right false true x z = (refl, sym z)

pub priced : (s : List ℕ) {marked : Bool} {k : ℕ} → marked ≡ begins (mark_bytes Pr) s → 0 ≡ filing_fault s marked
    → fault k ≡ input_of (viewed Pr hour_prices s) → ⊥
unfolding parse
priced s {marked} {k} m z f = go (change (Only File) s) refl right.1
  where
    right : (marked ≡ true) × (fault_of (parse (Only File) s) ≡ 0)
    right = filing-right (ltb (length s) 2) marked (parse (Only File) s) z

    front : s ≡ mark_bytes Pr ++ drop 2 s
    front = begins-true (mark_bytes Pr) s (sym m ∙ right.0)

    go : (r : Res Change) → change (Only File) s ≡ r → fault_of (whole r) ≡ 0 → ⊥
    go (bad j) q y = parse-fault (Only File) s j (ap whole q) y
    go (got c t) q y = filed-prices (drop 2 s) c t (subst (λ (x : List ℕ). change (Only File) x ≡ got c t) front q)
        (subst (λ (x : List ℕ). fault k ≡ input_of (viewed Pr hour_prices x)) front f)

-- whether a mark was found by a test
pub found_by : (b : Bool) (m : Mark) → is_some (then_some b m) ≡ b
found_by true m = refl
found_by false m = refl

-- the number of a refusal, as an answer has it
pub answered : (r : Result Ticks Refusal) → fault_in r ≡ answer_fault (answer_of r)
answered (Ok t) = refl
answered (Err e) = refl
