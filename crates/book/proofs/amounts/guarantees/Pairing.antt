-- The loops that put names to amounts.
use Rattle.std.proofs.Common.{ℕ, ◌+◌, ◌≤◌, ◌<◌, ◌≡◌, refl, sym, ap, ap₂, ◌∙◌, List, [], ◌∷◌, ◌++◌, map, arith, length, take, length-append, append-nil}
use Rattle.std.proofs.Math.Seq.{append_snoc}
use Rattle.book.specs.Layer.{Ticks}
use Rattle.book.specs.declared.answers.NamedAmount.{NamedAmount}
use Rattle.book.specs.declared.amounts.places.Spot.{Spot}
use Rattle.book.specs.tables.Worked.{named_of}

abbrev pub pair_of : Spot → Ticks → NamedAmount
pair_of x t = record { name = x.name; ticks = t }

-- the amounts of all n places are those so far, and those of the places that are left
pub record Naming (all : List NamedAmount) (n : ℕ) (done : List NamedAmount) (xs : List Spot) (ts : List Ticks) : Type 0 where
  pub whole : all ≡ done ++ named_of xs ts
  pub count : length done + length xs ≡ n

pub naming-start : {all xs : List Spot} {amounts ts : List Ticks} → xs ≡ all → ts ≡ amounts → {done : List NamedAmount} → done ≡ []
    → Naming (named_of all amounts) (length all) done xs ts
naming-start {all} {xs} {amounts} {ts} ex et {done} e = record {
  whole = λ i. sym e i ++ named_of (sym ex i) (sym et i);
  count = omega (arith, ap length ex, ap length e);
}

module _ {all : List NamedAmount} {n : ℕ} {done : List NamedAmount} {xs : List Spot} {ts : List Ticks} (w : Naming all n done xs ts) where
  module _ {x : Spot} {ys : List Spot} (ex : xs ≡ x ∷ ys) where
    pub naming-room : {size : ℕ} → n ≤ size → length done < size
    naming-room le = omega (arith, w.count, ap length ex)

    pub naming-more : {t : Ticks} {us : List Ticks} → ts ≡ t ∷ us → {next : List NamedAmount} → next ≡ done ++ pair_of x t ∷ [] → Naming all n next ys us
    unfolding named_of
    naming-more {t} {us} et {next} en = record {
      whole = w.whole ∙ ap₂ (λ (a : List Spot) (b : List Ticks). done ++ named_of a b) ex et ∙ sym (append_snoc done (pair_of x t) (named_of ys us))
          ∙ ap (λ (d : List NamedAmount). d ++ named_of ys us) (sym en);
      count = omega (arith, w.count, ap length ex, ap length en, length-append done (pair_of x t ∷ []));
    }

  naming-end : named_of xs ts ≡ [] → done ≡ all
  naming-end e = sym (w.whole ∙ ap (λ (d : List NamedAmount). done ++ d) e ∙ append-nil done)

  -- no place is left
  pub naming-all : length xs ≡ 0 → done ≡ all
  unfolding named_of
  naming-all z = naming-end (go xs ts z)
    where
      go : (xs : List Spot) (ts : List Ticks) → length xs ≡ 0 → named_of xs ts ≡ []
      go [] ts z = refl
      go (x ∷ xs) ts z = absurd (omega arith)

  -- or no amount
  pub naming-rest : length ts ≡ 0 → done ≡ all
  unfolding named_of
  naming-rest z = naming-end (go xs ts z)
    where
      go : (xs : List Spot) (ts : List Ticks) → length ts ≡ 0 → named_of xs ts ≡ []
      go [] ts z = refl
      go (x ∷ xs) [] z = refl
      go (x ∷ xs) (t ∷ ts) z = absurd (omega arith)

-- no more amounts are read than there are places
pub named-front : {A : Type 0} (f : A → Ticks) (xs : List Spot) (us : List A) → named_of xs (map f us) ≡ named_of xs (map f (take (length xs) us))
unfolding named_of
named-front f [] us = refl
named-front f (x ∷ xs) [] = refl
named-front f (x ∷ xs) (u ∷ us) = ap (λ (ys : List NamedAmount). pair_of x (f u) ∷ ys) (named-front f xs us)
