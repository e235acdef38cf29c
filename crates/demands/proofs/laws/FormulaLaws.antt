-- Demand 2: the definitions of the amounts are the formulas of 01.
use Rattle.std.specs.Prelude.{ℕ, ◌+◌, ◌-◌, min, ◌≡◌, refl, ℤ, pos, negsuc, ◌-ℤ◌}
use Rattle.std.proofs.Common.{sym, ap, ◌∙◌, arith}
use Rattle.laws.specs.Ints.{minℤ}
use Rattle.laws.specs.IntLaws.{P as above, dif, ints, pos-dif, dif-is, one_none}
use Rattle.money.specs.Offers.{cost, full_pairs}
use Rattle.money.specs.Guarantee.{profits}
use Rattle.money.specs.Offset.{precedes, up_to, counted, offset}
use Rattle.money.specs.Production.{C1, C2, C3, C4, shortfall, arranged, congestion, component4, hour_amount, interval}
use Rattle.money.specs.Failure.{charge as lesser}
use Rattle.records.specs.Amounts.{credit_ticks, unit_ticks}
use Rattle.book.specs.Amounts.{exported}
use Rattle.demands.specs.Formulas.{max0, Formulas}

-- ---- max(0, x) of a difference is a difference of quantities

max0-above : (z : ℤ) → max0 z ≡ above z
max0-above (pos n) = refl
max0-above (negsuc n) = refl

max0-dif : (a b : ℕ) → max0 (dif a b) ≡ a - b
max0-dif a b = max0-above (dif a b) ∙ (omega (arith, dif-is a b, one_none (dif a b)))

max0-less : (a b : ℕ) → max0 (pos a -ℤ pos b) ≡ a - b
max0-less a b = ap max0 ((λ i. pos-dif a i -ℤ pos-dif b i) ∙ less) ∙ max0-dif a b
  where
    less : dif a 0 -ℤ dif b 0 ≡ dif a b
    less = simp ints (omega arith)

-- the quantities of C4
q-one : (d u s : ℕ) → max0 (minℤ (pos d -ℤ pos u) (pos s)) ≡ min (d - u) s
q-one d u s = ap max0 ((λ i. minℤ (pos-dif d i -ℤ pos-dif u i) (pos-dif s i)) ∙ less) ∙ max0-dif (min d (s + u)) u ∙ omega arith
  where
    less : minℤ (dif d 0 -ℤ dif u 0) (dif s 0) ≡ dif (min d (s + u)) u
    less = simp ints (omega arith)

q-two : (d u a s : ℕ) → max0 (minℤ (pos d -ℤ pos u -ℤ pos a) (pos s)) ≡ min (d - u - a) s
q-two d u a s = ap max0 ((λ i. minℤ (pos-dif d i -ℤ pos-dif u i -ℤ pos-dif a i) (pos-dif s i)) ∙ less) ∙ max0-dif (min d (s + u + a)) (u + a) ∙ omega arith
  where
    less : minℤ (dif d 0 -ℤ dif u 0 -ℤ dif a 0) (dif s 0) ≡ dif (min d (s + u + a)) (u + a)
    less = simp ints (omega arith)

q-three : (d u a b s : ℕ) → max0 (minℤ (pos d -ℤ pos u -ℤ pos a -ℤ pos b) (pos s)) ≡ min (d - u - a - b) s
q-three d u a b s =
    ap max0 ((λ i. minℤ (pos-dif d i -ℤ pos-dif u i -ℤ pos-dif a i -ℤ pos-dif b i) (pos-dif s i)) ∙ less) ∙ max0-dif (min d (s + u + a + b)) (u + a + b) ∙ omega
    arith
  where
    less : minℤ (dif d 0 -ℤ dif u 0 -ℤ dif a 0 -ℤ dif b 0) (dif s 0) ≡ dif (min d (s + u + a + b)) (u + a + b)
    less = simp ints (omega arith)

-- ---- the formulas

pub formulas : Formulas
unfolding cost full_pairs credit_ticks profits precedes up_to counted exported offset C1 C2 C3 C4 shortfall arranged congestion component4 unit_ticks hour_amount
    interval lesser
formulas = record {
  costs = λ o q. refl;
  credit = λ r p. refl;
  order = λ a b. refl;
  including = λ a b. refl;
  adjusted = λ n es ts i k. ap (min _) (sym (max0-less _ _));
  exports = λ r rs k. (refl, refl);
  offsets = λ n es emp ts. refl;
  component1 = λ h emp k m e. rw e refl;
  component2 = λ h emp k a b f e. rw (e, f) refl;
  component3 = λ h emp k a b f e. rw (e, f) refl;
  component4 = λ h emp k q1 q2 q3 e1 e2 e3. rw (e1, q-one _ _ _, e2, q-two _ _ _ _, e3, q-three _ _ _ _ _) refl;
  unit-hour = λ r p. refl;
  reversed = λ total. refl;
  import-charge = λ f p dev e. rw (e, max0-less _ _) refl;
  export-charge = λ f p dev e. rw (e, max0-less _ _) refl;
}
