use Rattle.std.proofs.Common.{◌≡◌, drop}
use Rattle.money.specs.tables.Taken.{fold_of}
use Rattle.money.proofs.offset.offset.Given as goal

-- the entries taken so far, and then the others, make what all entries make
abbrev pub invariant-loop-e : goal.invariant-loop-e
invariant-loop-e l = fold_of l.t (drop l.e-index l.entries) ≡ fold_of l.initial.t l.entries
