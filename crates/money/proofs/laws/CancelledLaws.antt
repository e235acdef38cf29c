-- In each interval the quantity cancelled is the lesser of total import and total export. Assumes nothing.
use Rattle.std.specs.Prelude.{◌≡◌, ◌⊎◌, Bool, true, false, not, List, ℕ, zero, suc, ◌+◌, ◌-◌, ◌≤◌, ◌<◌, min, eqb, pos, ◌-ℤ◌, ◌<ℤ◌, ◌≤ℤ◌}
use Rattle.std.proofs.Math.Path.{refl, sym, subst}
use Rattle.std.proofs.Common.{ap, ◌∙◌, arith, eq-eqb, eqb-true}
use Rattle.std.proofs.Math.Logic.{inl, inr, ⊎_elim}
use Rattle.std.proofs.Math.Bool.{cond}
use Rattle.std.proofs.Math.Decide.{dec_lt}
use Rattle.std.proofs.Math.IntN.{ℤ}
use Rattle.std.specs.Int.Signed.{lt_z, <ℤ_irrefl}
use Rattle.laws.specs.Ints.{minℤ, maxℤ}
use Rattle.laws.specs.IntLaws.{ints, dif, pos-dif, by₃, lt-true, lt-false, ≤ℤ-antisym}
use Rattle.laws.specs.Sums.{Σℕ}
use Rattle.laws.specs.SumLaws.{Σℕ-ext, Σℕ-cut, Σℕ-apart, last_or, never, on, every-at, or_cases, or_left, or_right, first_of-zero}
use Rattle.money.specs.declared.units.Price.{Price}
use Rattle.money.specs.declared.units.Quantity.{Quantity}
use Rattle.money.specs.declared.imports.Import.{Import}
use Rattle.money.specs.Units.{quantity_at, unless}
use Rattle.money.specs.Names.{decoded_bytes, name_before, same_name}
use Rattle.money.specs.Offset.{entry, mqsi, precedes, up_to, counted, adj, entry_fault, fresh_name, nth_fault, entries_fault}
use Rattle.money.proofs.laws.UnitLaws.{passes, neither}
use Rattle.money.proofs.laws.NameLaws.{name-trans, name-tri, name-self, same_of, same_names}

-- ---- an order of the numbers below n, quantities q, an export total t
module _ (n : ℕ) (q : ℕ → ℕ) (t : ℕ) (le : ℕ → ℕ → Bool)
    (self : (i : ℕ) → i < n → le i i ≡ true)
    (anti : (i j : ℕ) → i < n → j < n → le i j ≡ true → le j i ≡ true → i ≡ j)
    (tran : (i j k : ℕ) → i < n → j < n → k < n → le i j ≡ true → le j k ≡ true → le i k ≡ true)
    (tot : (i j : ℕ) → i < n → j < n → (le i j ≡ true) ⊎ (le j i ≡ true)) where
  abbrev S : (ℕ → Bool) → (ℕ → ℕ) → ℕ
  S p f = Σℕ n (λ i. cond (p i) (f i) 0)

  abbrev R : ℕ → ℕ
  R i = S (λ j. le j i) q

  abbrev c : ℕ → ℕ
  c i = q i - min (q i) (R i - t)

  record Top (p : ℕ → Bool) (k : ℕ) : Type 0 where
    m : ℕ
    below : m < k
    there : p m ≡ true
    above : (j : ℕ) → j < k → p j ≡ true → le j m ≡ true

  top : (p : ℕ → Bool) (k : ℕ) → k ≤ n → Top p k ⊎ ((j : ℕ) → j < k → p j ≡ false)
  top p zero l = inr (λ j h. absurd (omega arith))
  top p (suc k) l =
      on (p k)
      (λ e. ⊎_elim
      (λ u. ⊎_elim
      (λ x. inl (record {
        m = u.m;
        below = omega (arith, u.below);
        there = u.there;
        above = λ j h y. last_or j k h
            (λ z. subst (λ (i : ℕ). le i u.m ≡ true) (sym z) x) (λ z. u.above j z y);
      }))
      (λ x. inl (record {
        m = k;
        below = omega arith;
        there = e;
        above = λ j h y. last_or j k h
            (λ z. subst (λ (i : ℕ). le i k ≡ true) (sym z) (self k (omega arith)))
            (λ z. tran j u.m k (omega arith) (omega (arith, u.below)) (omega arith) (u.above j z y) x);
      }))
      (tot k u.m (omega arith) (omega (arith, u.below))))
      (λ f. inl (record {
        m = k;
        below = omega arith;
        there = e;
        above = λ j h y. last_or j k h
            (λ z. subst (λ (i : ℕ). le i k ≡ true) (sym z) (self k (omega arith))) (λ z. never (sym y ∙ f j z));
      }))
      (top p k (omega arith)))
      (λ e. ⊎_elim
      (λ u. inl (record {
        m = u.m;
        below = omega (arith, u.below);
        there = u.there;
        above = λ j h y. last_or j k h (λ z. never (sym y ∙ ap p z ∙ e))
            (λ z. u.above j z y);
      }))
      (λ f. inr (λ j h. last_or j k h (λ z. ap p z ∙ e) (f j)))
      (top p k (omega arith)))

  abbrev Closed : (ℕ → Bool) → Type 0
  Closed p = (i j : ℕ) → i < n → j < n → p i ≡ true → le j i ≡ true → p j ≡ true

  abbrev less : (ℕ → Bool) → ℕ → ℕ → Bool
  less p m i = cond (eqb i m) false (p i)

  apart : (p : ℕ → Bool) (m : ℕ) (f : ℕ → ℕ) → m < n → p m ≡ true → S p f ≡ S (less p m) f + f m
  apart p m f l e =
      let a = Σℕ-apart n m (λ i. cond (p i) (f i) 0) l in
      let b : cond (p m) (f m) 0 ≡ f m = rw e in
      let d : Σℕ n (λ i. cond (eqb i m) 0 (cond (p i) (f i) 0)) ≡ S (less p m) f = Σℕ-ext n _ _ (λ j h. each (eqb j m) (p j) (f j)) in
      omega arith
    where
      each : (x y : Bool) (z : ℕ) → cond x 0 (cond y z 0) ≡ cond (cond x false y) z 0
      each true y z = refl
      each false y z = refl

  none : (p : ℕ → Bool) (f : ℕ → ℕ) → ((j : ℕ) → j < n → p j ≡ false) → S p f ≡ 0
  unfolding Σℕ
  none p f h = Σℕ-cut n 0 (λ i. cond (p i) (f i) 0) (omega arith) (λ j a b. rw (h j b))

  module _ (p : ℕ → Bool) (cl : Closed p) (u : Top p n) where
    greatest : R u.m ≡ S p q
    greatest = Σℕ-ext n _ _ (λ j h. ap (λ (b : Bool). cond b (q j) 0) (same j h))
      where
        same : (j : ℕ) → j < n → le j u.m ≡ p j
        same j h = on (p j) (λ y. u.above j h y ∙ sym y)
            (λ y. on (le j u.m) (λ z. never (sym (cl u.m j u.below h u.there z) ∙ y)) (λ z. z ∙ sym y))

    closed : Closed (less p u.m)
    closed i j hi hj e k =
        on (eqb i u.m) (λ x. never (sym e ∙ ap (λ (b : Bool). cond b false (p i)) x))
        (λ x.
        let pi : p i ≡ true = sym (ap (λ (b : Bool). cond b false (p i)) x) ∙ e in
        on (eqb j u.m)
        (λ y.
        let z : j ≡ u.m = eqb-true j u.m y in
        let w : i ≡ u.m = anti i u.m hi u.below (u.above i hi pi) (subst (λ (a : ℕ). le a i ≡ true) z k) in
        never (sym (eq-eqb i u.m w) ∙ x))
        (λ y. ap (λ (b : Bool). cond b false (p j)) y ∙ cl i j hi hj pi k))

  cancels : (fuel : ℕ) (p : ℕ → Bool) → Closed p → S p (λ i. 1) ≤ fuel → S p c ≡ min (S p q) t
  cancels zero p cl l =
      ⊎_elim (λ u. let a = apart p u.m (λ i. 1) u.below u.there in absurd (omega arith))
      (λ f. let a = none p c f in let b = none p q f in omega arith) (top p n (omega arith))
  cancels (suc fuel) p cl l =
      ⊎_elim
      (λ u.
      let a = apart p u.m (λ i. 1) u.below u.there in
      let b = apart p u.m q u.below u.there in
      let d = apart p u.m c u.below u.there in
      let g = greatest p cl u in
      let r = cancels fuel (less p u.m) (closed p cl u) (omega arith) in
      omega arith)
      (λ f. let a = none p c f in let b = none p q f in omega arith) (top p n (omega arith))

  pub cancelled-all : Σℕ n c ≡ min (Σℕ n q) t
  cancelled-all = cancels (S (λ i. true) (λ i. 1)) (λ i. true) (λ i j hi hj e k. refl) (omega arith)

-- ---- the order of imports
lt-self : (x : ℤ) → lt_z x x ≡ false
lt-self x = on (lt_z x x) (λ e. absurd (<ℤ_irrefl (lt-true x x e))) (λ e. e)

lt_both : (x y z : ℤ) → x <ℤ y → y <ℤ z → x <ℤ z
lt_both = by₃ _ (λ a a' b b' c c'. simp ints (omega arith))

less-true : (x y : ℤ) → x <ℤ y → lt_z x y ≡ true
less-true x y h = on (lt_z x y) (λ e. e) (λ e. absurd (<ℤ_irrefl (back x y x h (lt-false x y e))))
  where
    back : (x y z : ℤ) → x <ℤ y → y ≤ℤ z → x <ℤ z
    back = by₃ _ (λ a a' b b' c c'. simp ints (omega arith))

module _ (a b : Import) where
  first-cases : precedes a b ≡ true → (a.credit.0 <ℤ b.credit.0) ⊎
      ((a.credit.0 ≡ b.credit.0) × (name_before (decoded_bytes a.name) (decoded_bytes b.name) ≡ true))
  unfolding precedes
  first-cases e = go (lt_z x y) (lt_z y x) refl refl e
    where
      x : ℤ
      x = a.credit.0

      y : ℤ
      y = b.credit.0

      r : Bool
      r = name_before (decoded_bytes a.name) (decoded_bytes b.name)

      go : (u v : Bool) → lt_z x y ≡ u → lt_z y x ≡ v → cond u true (cond v false r) ≡ true → (x <ℤ y) ⊎ ((x ≡ y) × (r ≡ true))
      go true v p q e = inl (lt-true x y p)
      go false true p q e = never (sym e)
      go false false p q e = inr (≤ℤ-antisym x y (lt-false y x q) (lt-false x y p), e)

  first-lt : a.credit.0 <ℤ b.credit.0 → precedes a b ≡ true
  unfolding precedes
  first-lt h = rw (less-true a.credit.0 b.credit.0 h)

  first-eq : a.credit.0 ≡ b.credit.0 → name_before (decoded_bytes a.name) (decoded_bytes b.name) ≡ true → precedes a b ≡ true
  unfolding precedes
  first-eq h k = rw (h, lt-self b.credit.0) k

first-trans : (a b c : Import) → precedes a b ≡ true → precedes b c ≡ true → precedes a c ≡ true
first-trans a b c e f =
    ⊎_elim
    (λ x. ⊎_elim (λ y. first-lt a c (lt_both _ _ _ x y)) (λ y. first-lt a c (subst (λ (z : ℤ). a.credit.0 <ℤ z) y.0 x)) (first-cases b c f))
    (λ x. ⊎_elim (λ y. first-lt a c (subst (λ (z : ℤ). z <ℤ c.credit.0) (sym x.0) y))
    (λ y. first-eq a c (x.0 ∙ y.0) (name-trans (decoded_bytes a.name) (decoded_bytes b.name) (decoded_bytes c.name) x.1 y.1))
    (first-cases b c f))
    (first-cases a b e)

first-self : (a : Import) → precedes a a ≡ true → ⊥
first-self a e = ⊎_elim (λ x. <ℤ_irrefl x) (λ x. name-self (decoded_bytes a.name) x.1) (first-cases a a e)

first-tri : (a b : Import) → (precedes a b ≡ true) ⊎ ((decoded_bytes a.name ≡ decoded_bytes b.name) ⊎ (precedes b a ≡ true))
first-tri a b =
    on (lt_z a.credit.0 b.credit.0) (λ e. inl (first-lt a b (lt-true _ _ e)))
    (λ e. on (lt_z b.credit.0 a.credit.0) (λ f. inr (inr (first-lt b a (lt-true _ _ f))))
    (λ f.
    let w : a.credit.0 ≡ b.credit.0 = ≤ℤ-antisym _ _ (lt-false _ _ f) (lt-false _ _ e) in
    ⊎_elim (λ r. inl (first-eq a b w r)) (λ r. ⊎_elim (λ z. inr (inl z)) (λ z. inr (inr (first-eq b a (sym w) z))) r)
    (name-tri (decoded_bytes a.name) (decoded_bytes b.name))))

-- ---- a list with distinct names
pub record Distinct (n : ℕ) (es : List Import) : Type 0 where
  pub differ : (i j : ℕ) → i < n → j < n → same_name (entry es i).name (entry es j).name ≡ true → i ≡ j

module _ (n : ℕ) (es : List Import) (d : Distinct n es) where
  abbrev E : ℕ → Import
  E i = entry es i

  abbrev le : ℕ → ℕ → Bool
  le j i = up_to (E j) (E i)

  by-case : {X : Type 0} (i j : ℕ) → le i j ≡ true → (precedes (E i) (E j) ≡ true → X) → (same_name (E i).name (E j).name ≡ true → X) → X
  unfolding up_to
  by-case i j e f g = ⊎_elim f g (or_cases (precedes (E i) (E j)) (same_name (E i).name (E j).name) e)

  le-first : (i j : ℕ) → precedes (E i) (E j) ≡ true → le i j ≡ true
  unfolding up_to
  le-first i j e = or_left (precedes (E i) (E j)) (same_name (E i).name (E j).name) e

  le_same : (i j : ℕ) → same_name (E i).name (E j).name ≡ true → le i j ≡ true
  unfolding up_to
  le_same i j e = or_right (precedes (E i) (E j)) (same_name (E i).name (E j).name) e

  pub cancelled : (ts : List Quantity) (k : ℕ) → Σℕ n (λ i. mqsi (E i) k - adj n es ts i k) ≡ min (Σℕ n (λ i. mqsi (E i) k)) (quantity_at ts k)
  unfolding counted
  cancelled ts k =
      cancelled-all n (λ i. mqsi (E i) k) (quantity_at ts k) le
      (λ i h. le_same i i (same_of (E i).name (E i).name refl))
      (λ i j hi hj e f. by-case i j e
      (λ x. by-case j i f (λ y. absurd (first-self (E i) (first-trans (E i) (E j) (E i) x y))) (λ y. sym (d.differ j i hj hi y))) (d.differ i j hi hj))
      (λ i j l hi hj hl e f. by-case i j e
      (λ x. by-case j l f (λ y. le-first i l (first-trans (E i) (E j) (E l) x y)) (λ y. subst (λ (m : ℕ). le i m ≡ true) (d.differ j l hj hl y) e))
      (λ x. subst (λ (m : ℕ). le m l ≡ true) (sym (d.differ i j hi hj x)) f))
      (λ i j hi hj. ⊎_elim (λ x. inl (le-first i j x)) (λ x. ⊎_elim (λ y. inl (le_same i j (same_of (E i).name (E j).name y))) (λ y. inr (le-first j i y)) x)
      (first-tri (E i) (E j)))

-- a list that is not refused has distinct names
pub distinct_of : (n : ℕ) (ps : List Price) (es : List Import) → entries_fault n ps es ≡ 0 → Distinct n es
unfolding entries_fault nth_fault fresh_name
distinct_of n ps es h = record { differ = λ i j hi hj e. by i j hi hj e (dec_lt i j) (dec_lt j i) }
  where
    fresh : (i j : ℕ) → i < n → j < i → same_name (entry es i).name (entry es j).name ≡ true → ⊥
    fresh i j hi l e =
        let f = every-at i (λ j. not (same_name (entry es i).name (entry es j).name))
        (passes (fresh_name es i) 9 0 (neither (entry_fault ps (entry es i)) (unless (fresh_name es i) 10 0) (first_of-zero n (nth_fault ps es) h i hi)).1).0 j
        l in
        never (sym f ∙ ap (λ (b : Bool). not b) e)

    back : (i j : ℕ) → same_name (entry es i).name (entry es j).name ≡ true → same_name (entry es j).name (entry es i).name ≡ true
    back i j e = same_of (entry es j).name (entry es i).name (sym (same_names (entry es i).name (entry es j).name e))

    by : (i j : ℕ) → i < n → j < n → same_name (entry es i).name (entry es j).name ≡ true → Dec (i < j) → Dec (j < i) → i ≡ j
    by i j hi hj e (yes a) b = absurd (fresh j i hj a (back i j e))
    by i j hi hj e (no a) (yes b) = absurd (fresh i j hi b e)
    by i j hi hj e (no a) (no b) = omega arith

-- adj as 01 writes it, over ℤ
adj-dif : (q r t : ℕ) → dif (min q (r - t)) 0 ≡ minℤ (dif q 0) (maxℤ (dif 0 0) (dif r 0 -ℤ dif t 0))
adj-dif q r t = simp ints (omega arith)

pub adj-is : (q r t : ℕ) → pos (min q (r - t)) ≡ minℤ (pos q) (maxℤ (pos 0) (pos r -ℤ pos t))
adj-is q r t = pos-dif _ ∙ adj-dif q r t ∙ sym (λ i. minℤ (pos-dif q i) (maxℤ (pos-dif 0 i) (pos-dif r i -ℤ pos-dif t i)))
