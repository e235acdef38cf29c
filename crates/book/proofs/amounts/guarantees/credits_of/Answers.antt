use Rattle.std.proofs.Common.{map, ap, ◌∙◌, arith, rules}
use Rattle.std.proofs.Math.Logic.{⊎_elim}
use Rattle.std.proofs.lemmas.List.{length-map}
use Rattle.book.specs.tables.Worked.{entry_credit}
use Rattle.book.proofs.amounts.guarantees.Pairing.{naming-start, naming-more, naming-room, naming-all, naming-rest, named-front}
use Rattle.book.proofs.amounts.guarantees.credits_of.Goals as goal

pub loop-spot-init : goal.loop-spot-init
loop-spot-init c =
    naming-start {all = c.args.places.now} {amounts = map entry_credit c.args.entries.now}
    (search rules) (ap (map entry_credit) (search rules)) c.new-credits.ensures

pub push-requires : goal.push-requires
push-requires c = omega arith

pub loop-spot-preserved : goal.loop-spot-preserved
loop-spot-preserved c =
    naming-more c.loop-spot.invariant c.in-Some.ensures.steps.0 (ap (map entry_credit) c.in-Some.ensures.steps.1)
    (c.push.ensures.items (naming-room c.loop-spot.invariant c.in-Some.ensures.steps.0 c.requires))

pub returns : goal.returns
returns c =
    let w = c.loop-spot.invariant in
    ⊎_elim (λ e. naming-all w e.1.0) (λ e. naming-rest w (length-map _ entry_credit ∙ e.1.0)) c.in-None.ensures.steps
    ∙ named-front entry_credit c.args.places.now c.args.entries.now
