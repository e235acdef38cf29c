-- The loop that sums the exports at their places.
use Rattle.std.specs.Prelude.{ℕ, suc, ◌+◌, ◌≤◌, ◌<◌, ◌≡◌, refl, List, length, drop, get_or, replicate}
use Rattle.std.proofs.Common.{sym, ap, ◌∙◌, arith, drop-cons, drop_of_length-le}
use Rattle.book.specs.Layer.{Quantity, no_quantity, totals_more}
use Rattle.book.specs.declared.amounts.places.Spot.{Spot}
use Rattle.book.specs.tables.Worked.{totals_from, totals_in, no_spot}

-- the sum from the start is the sum so far, and the rest
pub record Totalling (s : List ℕ) (xs : List Spot) (sums : List Quantity) (i : ℕ) : Type 0 where
  pub whole : totals_in s xs ≡ totals_from sums s (drop i xs)

pub totalling_start : {s : List ℕ} {xs : List Spot} → Totalling s xs (replicate 12 no_quantity) 0
totalling_start = record { whole = refl }

pub totalling_more : {s : List ℕ} {xs : List Spot} {sums next : List Quantity} {i : ℕ} → Totalling s xs sums i → i < length xs
    → next ≡ totals_more (drop (get_or xs i no_spot).start s) sums → Totalling s xs next (i + 1)
unfolding totals_from
totalling_more {s} {xs} {sums} {next} {i} t h en =
    let one : suc i ≡ i + 1 = omega arith in
    record {
      whole = t.whole ∙ ap (totals_from sums s) (drop-cons xs i no_spot h)
          ∙ (λ j. totals_from (sym en j) s (drop (one j) xs));
    }

pub totalling-all : {s : List ℕ} {xs : List Spot} {sums : List Quantity} {i : ℕ} → Totalling s xs sums i → length xs ≤ i → sums ≡ totals_in s xs
unfolding totals_from
totalling-all {s} {xs} {sums} {i} t h = sym (t.whole ∙ ap (totals_from sums s) (drop_of_length-le xs {i = i} h))
