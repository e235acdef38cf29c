-- The walk over an offer's pairs gives the cost; what an offer's checks tell; sizes. Assumes nothing.
use Rattle.std.specs.Prelude.{◌≡◌, Bool, ◌&&◌, List, leb, ltb, ◌+ℤ◌, ◌*ℤ◌, length, get_or, set}
use Rattle.std.proofs.Common.{refl, true, false, cond, ℕ, zero, suc, ◌+◌, ◌-◌, ◌*◌, ◌≤◌, ◌<◌, zero-le, arith, sym, ap, ◌∙◌, subst, add-one, le-leb, lt-ltb, leb-true, ltb-true, length-set, get_or-set_same, get_or-set_other}
use Rattle.std.proofs.Math.Decide.{dec_lt, ℕ_discrete}
use Rattle.std.proofs.lemmas.Bool.{lt-leb}
use Rattle.std.proofs.Math.IntN.{ℤ, pos, nat_abs, +ℤ_idr, +ℤ_idl}
use Rattle.std.specs.Int.Signed.{le_z}
use Rattle.laws.specs.IntLaws.{ints, by₁, add-within, mul-within}
use Rattle.laws.specs.Sums.{Σℤ, Σℕ, every}
use Rattle.laws.specs.SumLaws.{Σℤ-ext, Σℤ-cut, Σℤ-more, Σℕ-cut, Σℕ-ones, Σℤ-within, last_or, below_step, every-at, and-true}
use Rattle.money.specs.declared.units.Ticks.{Ticks}
use Rattle.money.specs.declared.offers.Offer.{Offer}
use Rattle.money.specs.Units.{no_price, price_ok}
use Rattle.money.specs.Offers.{max_pairs, P, Q, before, last_q, count_ok, number_ok, numbers_ok, rises_at, order_ok, offer_fault, piece, part_pair, full_pairs, cost}
use Rattle.money.specs.tables.Numbers.{Moderate, ticks_at}
use Rattle.money.specs.tables.Ready.{Good}
use Rattle.money.proofs.laws.UnitLaws.{price-in, passes}

module _ (o : Offer) (good : Good o) where
  pub mono : (j i : ℕ) → i < o.count → j < i → Q o j < Q o i
  mono j zero l h = absurd (omega arith)
  mono j (suc i) l h =
      let r : Q o i < Q o (suc i) = good.rising (suc i) l in
      last_or j i h (λ e. subst (λ (k : ℕ). Q o k < Q o (suc i)) (sym e) r) (λ k. omega (arith, mono j i (omega arith) k))

  pub reach : (i : ℕ) → i < o.count → {last : ℕ} → last ≡ before o i → last ≤ Q o i
  reach i l e = omega (arith, good.rising i l)

module _ (o : Offer) where
  -- if the pairs below s are full, and the others not
  pub cost-cut : (q s : ℕ) → s ≤ o.count → ((j : ℕ) → j < s → Q o j ≤ q) → ((j : ℕ) → s ≤ j → j < o.count → q < Q o j)
      → cost o q ≡ Σℤ s (piece o) +ℤ part_pair o q s
  unfolding cost full_pairs
  cost-cut q s l full over =
      let f : ℕ → ℤ = λ i. cond (leb (Q o i) q) (piece o i) (pos 0) in
      let g : ℕ → ℕ = λ i. cond (leb (Q o i) q) 1 0 in
      let a : Σℤ o.count f ≡ Σℤ s (piece o) = Σℤ-cut o.count s f l (λ j h k. rw (lt-leb (Q o j) q (over j h k))) ∙ Σℤ-ext s f (piece o)
      (λ j h. rw (le-leb (Q o j) q (full j h))) in
      let b : Σℕ o.count g ≡ s = Σℕ-cut o.count s g l (λ j h k. rw (lt-leb (Q o j) q (over j h k))) ∙ Σℕ-ones s g
      (λ j h. rw (le-leb (Q o j) q (full j h))) in
      (λ i. a i +ℤ part_pair o q (b i))

-- ---- the walk: at pair i, with acc for the pairs before, which all stay below q
pub record Walk (o : Offer) (q : ℕ) (acc : ℤ) (last i : ℕ) : Type 0 where
  pub below : i < o.count
  pub from : last ≡ before o i
  pub past : (j : ℕ) → j < i → Q o j < q
  pub sum : acc ≡ Σℤ i (piece o)

times_none : (x : ℤ) → x *ℤ pos 0 ≡ pos 0
times_none = by₁ _ (λ a a'. simp ints (omega arith))

-- the cost of nothing is 0, of an empty list too
pub cost-none : (o : Offer) → ((j : ℕ) → j < o.count → 0 < Q o j) → cost o 0 ≡ pos 0
unfolding Σℤ
cost-none o h = cost-cut o 0 0 zero-le (λ j l. absurd (omega arith)) (λ j m l. h j l) ∙ +ℤ_idl _ ∙ part (ltb 0 o.count)
  where
    part : (t : Bool) → cond t (P o 0 *ℤ pos (0 - 0)) (pos 0) ≡ pos 0
    part true = times_none (P o 0)
    part false = refl

module _ (o : Offer) (q : ℕ) (good : Good o) (within : q ≤ last_q o) where
  pub starts : Walk o q (pos 0) 0 0
  unfolding Σℤ
  starts = record { below = good.some; from = refl; past = λ j h. absurd (omega arith); sum = refl }

  more : (i : ℕ) → Q o i < q → i < o.count → i + 1 < o.count
  more i h b = by (dec_lt (i + 1) o.count)
    where
      by : Dec (i + 1 < o.count) → i + 1 < o.count
      by (yes p) = p
      by (no n) =
          let e : o.count ≡ suc i = omega arith in
          let w : q ≤ Q o i = subst (λ (k : ℕ). q ≤ before o k) e within in
          absurd (omega arith)

  module _ (acc : ℤ) (last i : ℕ) (w : Walk o q acc last i) where
    pub short : last ≤ q
    short = go i w.from w.past
      where
        go : (i : ℕ) → last ≡ before o i → ((j : ℕ) → j < i → Q o j < q) → last ≤ q
        go zero e h = omega arith
        go (suc i) e h = omega (arith, h i (omega arith))

    pub next : (r : ℤ) → Q o i < q → r ≡ acc +ℤ P o i *ℤ pos (Q o i - last) → Walk o q r (Q o i) (i + 1)
    next r h e = record {
      below = more i h w.below;
      from = rw add-one;
      past = below_step {Q = λ j. Q o j < q} i w.past h;
      sum = rw (Σℤ-more, ← w.sum, ← w.from) e;
    }

    rest : (x : ℤ) (n m : ℕ) → q ≡ m → cond (ltb n o.count) (x *ℤ pos (q - m)) (pos 0) ≡ pos 0
    rest x n m y = go (ltb n o.count)
      where
        go : (t : Bool) → cond t (x *ℤ pos (q - m)) (pos 0) ≡ pos 0
        go true = let z : q - m ≡ 0 = omega arith in rw z (times_none x)
        go false = refl

    pub ends : (r : ℤ) → q ≤ Q o i → r ≡ acc +ℤ P o i *ℤ pos (q - last) → r ≡ cost o q
    unfolding Σℤ
    ends r h e = by (ℕ_discrete q (Q o i))
      where
        here : r ≡ Σℤ i (piece o) +ℤ P o i *ℤ pos (q - before o i)
        here = rw (← w.sum, ← w.from) e

        by : Dec (q ≡ Q o i) → r ≡ cost o q
        by (no n) =
            let c = cost-cut o q i (omega (arith, w.below)) (λ j k. omega (arith, w.past j k))
            (λ j k l. last_or i j (omega arith) (λ x. subst (λ (y : ℕ). q < Q o y) x (omega arith)) (λ x. omega (arith, mono o good i j l x))) in
            here ∙ sym (c ∙ rw (lt-ltb i o.count w.below))
        by (yes y) =
            let c = cost-cut o q (suc i) w.below (λ j k. last_or j i k (λ x. rw x (omega arith)) (λ x. omega (arith, w.past j x)))
            (λ j k l. omega (arith, mono o good i j l k)) in
            let z : r ≡ Σℤ i (piece o) +ℤ piece o i = here ∙ (λ k. Σℤ i (piece o) +ℤ P o i *ℤ pos (y k - before o i)) in
            z ∙ sym (c ∙ rw (rest (P o (suc i)) (suc i) (Q o i) y) (+ℤ_idr _))

-- ---- sizes
pub abs-mul-pos : (x : ℤ) (n : ℕ) {A B : ℕ} → nat_abs x ≤ A → n ≤ B → nat_abs (x *ℤ pos n) ≤ A * B
abs-mul-pos x n h k = mul-within x (pos n) h k

module _ (o : Offer) (good : Good o) where
  pub piece-size : (i : ℕ) → i < o.count → nat_abs (piece o i) ≤ 20000000000
  piece-size i l = abs-mul-pos (P o i) (Q o i - before o i) {A = 200000} {B = 100000} (good.prices-in i l) (omega (arith, good.quantities-in i l))

  pub pieces-size : (i : ℕ) → i < o.count → nat_abs (Σℤ i (piece o)) ≤ 400000000000
  pieces-size i l = omega (arith, good.most, Σℤ-within 20000000000 i (piece o) (λ j k. piece-size j (omega arith)))

  pub pieces_room : (i : ℕ) → i < o.count → {acc : ℤ} → acc ≡ Σℤ i (piece o) → Moderate acc
  pieces_room i l e = rw e (omega (arith, pieces-size i l))

  pub part-size : (q s : ℕ) → q ≤ 100000 → nat_abs (part_pair o q s) ≤ 20000000000
  part-size q s h = go (ltb s o.count) refl
    where
      go : (t : Bool) → ltb s o.count ≡ t → nat_abs (cond t (P o s *ℤ pos (q - before o s)) (pos 0)) ≤ 20000000000
      go true e = abs-mul-pos (P o s) (q - before o s) {A = 200000} {B = 100000} (good.prices-in s (ltb-true _ _ e)) (omega arith)
      go false e = omega arith

  pub cost-size : (q : ℕ) → q ≤ 100000 → nat_abs (cost o q) ≤ 420000000000
  unfolding cost
  cost-size q h =
      let f : ℕ → ℤ = λ i. cond (leb (Q o i) q) (piece o i) (pos 0) in
      let a = Σℤ-within 20000000000 o.count f (λ j k. each (leb (Q o j) q) j k) in
      let b : nat_abs (Σℤ o.count f) ≤ 400000000000 = omega (arith, good.most) in
      add-within (Σℤ o.count f) (part_pair o q (full_pairs o q)) b (part-size q (full_pairs o q) h)
    where
      each : (t : Bool) (j : ℕ) → j < o.count → nat_abs (cond t (piece o j) (pos 0)) ≤ 20000000000
      each true j k = piece-size j k
      each false j k = omega arith

  pub last-size : last_q o ≤ 100000
  last-size = go o.count refl
    where
      go : (n : ℕ) → o.count ≡ n → before o n ≤ 100000
      go zero e = omega arith
      go (suc n) e = good.quantities-in n (omega arith)

-- ---- the cost of a quantity within an offer
module _ (o : Offer) (q : ℕ) (good : Good o) (within : q ≤ last_q o) where
  pub in-range : q ≤ 100000
  in-range = omega (arith, last-size o good)

  pub spends : nat_abs (cost o q) ≤ 420000000000
  spends = cost-size o good q in-range

  pub spent-within : {c : ℤ} → c ≡ cost o q → nat_abs c ≤ 420000000000
  spent-within e = rw e spends

  pub spent-room : {c : ℤ} → c ≡ cost o q → Moderate c
  spent-room e = rw e (omega (arith, spends))

-- ---- the walk, as loops cite it
module _ {o : Offer} {q : ℕ} (good : Good o) (within : q ≤ last_q o) {acc : ℤ} {last i : ℕ} (w : Walk o q acc last i) where
  pub walked_on : {t r : ℤ} → Q o i < q → t ≡ P o i *ℤ pos (Q o i - last) → r ≡ acc +ℤ t → Walk o q r (Q o i) (i + 1)
  walked_on h e k = next o q good within acc last i w _ h (k ∙ ap (λ (z : ℤ). acc +ℤ z) e)

  pub walked : {t r : ℤ} → q ≤ Q o i → t ≡ P o i *ℤ pos (q - last) → r ≡ acc +ℤ t → r ≡ cost o q
  walked h e k = ends o q good within acc last i w _ h (k ∙ ap (λ (z : ℤ). acc +ℤ z) e)

pub record Costed (o : Offer) (costs : List Ticks) (acc : ℤ) (last i : ℕ) : Type 0 where
  pub upto : i ≤ o.count
  pub long : length costs ≡ max_pairs
  pub from : last ≡ before o i
  pub sum : acc ≡ Σℤ i (piece o)
  pub so_far : (j : ℕ) → j < i → ticks_at costs j ≡ Σℤ j (piece o)

pub costed-none : (o : Offer) (costs : List Ticks) → length costs ≡ max_pairs → Costed o costs (pos 0) 0 0
unfolding Σℤ
costed-none o costs h = record { upto = zero-le; long = h; from = refl; sum = refl; so_far = λ j l. absurd (omega arith) }

module _ {o : Offer} {costs : List Ticks} {acc : ℤ} {last i : ℕ} (good : Good o) (s : Costed o costs acc last i) (l : i < o.count) where
  pub costed-more : {v : Ticks} {t r : ℤ} → v.0 ≡ acc → t ≡ P o i *ℤ pos (Q o i - last) → r ≡ acc +ℤ t → Costed o (set costs i v) r (Q o i) (i + 1)
  costed-more {v} f e k = record {
    upto = omega arith;
    long = simp length-set s.long;
    from = rw add-one;
    sum = rw (Σℤ-more, ← s.sum, ← s.from) (k ∙ ap (λ (z : ℤ). acc +ℤ z) e);
    so_far = λ j h. last_or j i (omega arith)
        (λ q. subst (λ (n : ℕ). ticks_at (set costs i v) n ≡ Σℤ n (piece o)) (sym q)
        (ap (λ (x : Ticks). x.0) (get_or-set_same costs i v (record { 0 = pos 0 }) (omega (arith, s.long, good.most))) ∙ f ∙ s.sum))
        (λ q. ap (λ (x : Ticks). x.0) (get_or-set_other costs i j v (record { 0 = pos 0 }) (λ z. omega arith)) ∙ s.so_far j q);
  }

-- the walk that finds a pair, with what the pairs before it cost
module _ {o : Offer} {q : ℕ} (good : Good o) (within : q ≤ last_q o) {last i : ℕ} (w : Walk o q (Σℤ i (piece o)) last i) where
  pub found-on : Q o i < q → Walk o q (Σℤ (i + 1) (piece o)) (Q o i) (i + 1)
  found-on h = next o q good within (Σℤ i (piece o)) last i w (Σℤ (i + 1) (piece o)) h
      (Σℤ-more i (piece o) ∙ (λ k. Σℤ i (piece o) +ℤ P o i *ℤ pos (Q o i - sym w.from k)))

  pub found : {b t r : ℤ} → b ≡ Σℤ i (piece o) → q ≤ Q o i → t ≡ P o i *ℤ pos (q - last) → r ≡ b +ℤ t → r ≡ cost o q
  found {t = t} d h e k = walked good within w h e (k ∙ ap (λ (z : ℤ). z +ℤ t) d)

-- ---- an offer
pub good_of : (o : Offer) → offer_fault o ≡ 0 → Good o
unfolding offer_fault numbers_ok order_ok
good_of o e =
    let c = passes (count_ok o) 5 _ e in
    let n = passes (every o.count (number_ok o)) 4 _ c.1 in
    let r = passes (leb 1 (Q o 0) && every (o.count - 1) (rises_at o)) 5 0 n.1 in
    let k = and-true (leb 1 o.count) (leb o.count max_pairs) c.0 in
    let s = and-true (leb 1 (Q o 0)) (every (o.count - 1) (rises_at o)) r.0 in
    record {
      some = leb-true _ _ k.0;
      most = leb-true _ _ k.1;
      prices-in = λ i l. price-in (get_or o.prices i no_price) (number i (every-at o.count (number_ok o) n.0 i l)).0;
      quantities-in = λ i l. leb-true _ _ (number i (every-at o.count (number_ok o) n.0 i l)).1;
      rising = λ i l. up i l (leb-true _ _ s.0) s.1;
    }
  where
    number : (i : ℕ) → number_ok o i ≡ true → (price_ok (get_or o.prices i no_price) ≡ true) × (leb (Q o i) 100000 ≡ true)
    number i e = and-true (price_ok (get_or o.prices i no_price)) (leb (Q o i) 100000) e

    up : (i : ℕ) → i < o.count → 1 ≤ Q o 0 → every (o.count - 1) (rises_at o) ≡ true → before o i < Q o i
    up zero l h a = h
    up (suc i) l h a =
        let x = and-true (le_z (P o i) (P o (i + 1))) (ltb (Q o i) (Q o (i + 1))) (every-at (o.count - 1) (rises_at o) a i (omega arith)) in
        let y = ltb-true (Q o i) (Q o (i + 1)) x.1 in
        subst (λ (j : ℕ). Q o i < Q o j) (add-one i) y

pub last-is : (o : Offer) → 1 ≤ o.count → Q o (o.count - 1) ≡ last_q o
last-is o h = go o.count h
  where
    go : (n : ℕ) → 1 ≤ n → Q o (n - 1) ≡ before o n
    go zero h = absurd (omega arith)
    go (suc n) h = let e : suc n - 1 ≡ n = omega arith in rw e
