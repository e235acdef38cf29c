use Rattle.std.proofs.Common.{◌≡◌, ℕ, ◌+◌, ◌<◌, ◌≤◌, ◌∙◌, List, length, drop, get_or, sym, ap, arith, add-one, drop-cons, drop_of_length-le}
use Rattle.money.specs.declared.imports.Import.{Import}
use Rattle.money.specs.declared.offset.Taken.{Taken}
use Rattle.money.specs.tables.Taken.{add_of, fold_of, finish_of}
use Rattle.money.proofs.laws.LentLaws.{whole}
use Rattle.money.proofs.offset.offset.Goals as goal

fold_step : (t : Taken) (ys : List Import) (i : ℕ) (d : Import) → i < length ys → fold_of t (drop i ys) ≡ fold_of (add_of t (get_or ys i d)) (drop (i + 1) ys)
unfolding fold_of
fold_step t ys i d h =
    ap (fold_of t) (drop-cons ys i d h) ∙ ap (λ (k : ℕ). fold_of (add_of t (get_or ys i d)) (drop k ys)) (sym (add-one i))

fold_end : (t : Taken) (ys : List Import) (i : ℕ) → length ys ≤ i → fold_of t (drop i ys) ≡ t
unfolding fold_of
fold_end t ys i h = rw (drop_of_length-le ys h)

pub loop-e-preserved : goal.loop-e-preserved
loop-e-preserved c =
    ap (λ (s : Taken). fold_of s (drop (c.loop-e.e-index + 1) c.args.entries.now)) c.add-t.ensures
    ∙ sym (fold_step c.loop-e.t c.args.entries.now c.loop-e.e-index _ (omega arith)) ∙ c.loop-e.invariant

pub returns : goal.returns
returns c =
    c.finish.ensures ∙ ap finish_of (sym (fold_end c.loop-e.t c.args.entries.now c.loop-e.e-index (omega arith)) ∙ c.loop-e.invariant
    ∙ ap (λ (s : Taken). fold_of s c.args.entries.now) c.start-t.ensures) ∙ whole c.args.entries.now c.args.prices c.args.totals
