use Rattle.std.proofs.Common.{◌≤◌, length}
use Rattle.std.specs.List.{zip}
use Rattle.money.specs.Units.{no_price, no_quantity}
use Rattle.money.specs.Offers.{max_pairs}
use Rattle.records.specs.Numbers.{pair}
use Rattle.records.proofs.fields.Lemmas.{Filled}
use Rattle.records.proofs.lists.Lemmas.{Padded}
use Rattle.records.proofs.lists.pairs_at.Given as goal

abbrev pub invariant-loop-i : goal.invariant-loop-i
invariant-loop-i l = (l.next ≤ length l.s) × Padded no_price max_pairs l.prices l.i × Padded no_quantity max_pairs l.quantities l.i
    × Filled pair l.s l.n l.at (zip l.prices l.quantities) l.i l.next
