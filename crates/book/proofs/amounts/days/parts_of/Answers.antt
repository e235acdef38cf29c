use Rattle.std.proofs.Common.{None, sym, ◌∙◌, inl, inr, rules}
use Rattle.std.proofs.Math.Logic.{⊎_elim}
use Rattle.book.proofs.amounts.days.Lemmas.{walked-start, walked-unit, walked-more, walked-all}
use Rattle.book.proofs.amounts.days.parts_of.Goals as goal

pub loop-h-init : goal.loop-h-init
loop-h-init c = walked-start (search rules) (search rules) (search rules) (search rules) (search rules)

pub part_at-p-requires : goal.part_at-p-requires
part_at-p-requires c = λ start e.
    let n = walked-unit c.loop-h.invariant (search rules) (search rules) c.in-Some.ensures.steps.0.0 in
    c.requires _ n.0 None start (sym n.1 ∙ e)

pub loop-h-preserved : goal.loop-h-preserved
loop-h-preserved c =
    let m = c.in-Some.ensures.steps in
    walked-more c.loop-h.invariant (search rules) (search rules) m.0.0 m.0.1 c.part_at-p.result c.part_at-p.ensures _ _ m.1 m.2

pub returns : goal.returns
returns c =
    walked-all c.loop-h.invariant (search rules) (search rules) (⊎_elim (λ e. inl e.1.0) (λ e. inr e.1.0) c.in-None.ensures.steps.0)
