-- What the checks of a unit's hour tell, its components and sums, and their sizes. Assumes nothing.
use Rattle.std.specs.Prelude.{◌≡◌, Bool, ◌&&◌, List, ltb, ℤ, neg_ℤ, nat_abs, ◌+ℤ◌, ◌-ℤ◌, ◌*ℤ◌, ◌≤ℤ◌, get_or}
use Rattle.std.proofs.Common.{length, ◌∷◌, refl, sym, ap, ◌∙◌, true, false, cond, ℕ, zero, suc, ◌+◌, ◌-◌, ◌*◌, ◌≤◌, ◌<◌, zero-le, min, max, arith, leb-true, ltb-true, le-leb, lt-ltb, le-ltb, leb, pos}
use Rattle.std.proofs.Math.Decide.{dec_lt}
use Rattle.std.specs.Int.Signed.{le_z}
use Rattle.laws.specs.Ints.{minℤ, maxℤ}
use Rattle.laws.specs.IntLaws.{ints, dif, pos-dif, by₁, by₃, by₄, by₅, le-true, true-le, min-max-neg, add-within, sub_within}
use Rattle.laws.specs.Sums.{Σℤ, or_else}
use Rattle.laws.specs.SumLaws.{Σℤ-ext, Σℤ-cut, Σℤ-sub, Σℤ-within, Summed, every-at, every-yes, and-true}
use Rattle.money.specs.declared.units.Price.{Price}
use Rattle.money.specs.declared.units.Ticks.{Ticks}
use Rattle.money.specs.Answers.{Amount}
use Rattle.money.specs.declared.units.CentsPerStart.{CentsPerStart}
use Rattle.money.specs.declared.offers.Offer.{Offer}
use Rattle.money.specs.declared.production.Reserve.{Reserve}
use Rattle.money.specs.declared.production.UnitHour.{UnitHour}
use Rattle.money.specs.Answers.{Day}
use Rattle.money.specs.Units.{intervals, day_hours, ticks_per_cent, noload_ticks, max_cents, price_at, prices_ok, quantities_ok, within_ok, unless, answer}
use Rattle.money.specs.Offers.{max_pairs, before, last_q, offer_fault, cost}
use Rattle.money.specs.Guarantee.{profit, profits}
use Rattle.money.specs.Production.{component1, shortfall, component2, arranged, component3, congestion, reserve_net, component4, S, D, R, U, A, K, C1, C2, C3, C4, interval, hour_amount, reserve_fault, reserve_numbers_ok, reserves_numbers_ok, numbers_fine, within_fine, lists_fault, unit_fault, interval_fault, no_ticks, no_start, hour_part, max_hour, day_sum, amount_ok, hours_ok, reversal, day_answer, hour_answer}
use Rattle.money.specs.tables.Numbers.{Moderate, running}
use Rattle.money.specs.tables.Ready.{Good, Ready, Usable, ListsGood, UnitReady, DayReady}
use Rattle.money.proofs.laws.UnitLaws.{Paired, paired-in, first-is, second-is, paired-more, prices-of, within-at, passes, neither}
use Rattle.money.proofs.laws.OfferLaws.{good_of, cost-none, abs-mul-pos, in-range, spends}
use Rattle.money.proofs.laws.GuaranteeLaws.{profit-size, profits-size}

-- ---- amounts that code holds, by what they are
-- a cost, a profit or a component of one interval
abbrev pub Small : ℤ → Type 0
Small z = nat_abs z ≤ 2000000000000

pub room : {x c : ℤ} → x ≡ c → Small c → Moderate x
room e h = rw e (omega arith)

pub two-room : {x y s c d : ℤ} → x ≡ c → y ≡ d → Small c → Small d → s ≡ x +ℤ y → Moderate s
two-room {c = c} {d = d} e f h k g = rw (g ∙ (λ i. e i +ℤ f i)) (omega (arith, add-within c d h k))

-- the lesser of two is within what the first is within
pub lesser-in : (a b : ℕ) {q last : ℕ} → q ≡ min a b → a ≤ last → q ≤ last
lesser-in a b e h = omega arith

pub second-in : (a b : ℕ) {q : ℕ} → q ≡ min a b → q ≤ b
second-in a b e = omega arith

-- ---- a cost less a price's value
pub loss-is : (o : Offer) (q : ℕ) (p : ℤ) {c v l : ℤ} → c ≡ cost o q → v ≡ p *ℤ pos q → l ≡ c -ℤ v → l ≡ cost o q -ℤ p *ℤ pos q
loss-is o q p e f g = g ∙ (λ i. e i -ℤ f i)

loss-size : (o : Offer) (q : ℕ) → Good o → q ≤ last_q o → (p : ℤ) → nat_abs p ≤ 200000 → nat_abs (cost o q -ℤ p *ℤ pos q) ≤ 440000000000
loss-size o q good within p rate =
    sub_within (cost o q) (p *ℤ pos q) (spends o q good within) (abs-mul-pos p q {A = 200000} {B = 100000} rate (in-range o q good within))

module _ (o : Offer) (q : ℕ) (good : Good o) (within : q ≤ last_q o) (p : ℤ) (rate : nat_abs p ≤ 200000) where
  module _ {c v l : ℤ} (e : c ≡ cost o q) (f : v ≡ p *ℤ pos q) (g : l ≡ c -ℤ v) where
    pub loss-room : Moderate l
    loss-room = room (loss-is o q p e f g) (omega (arith, loss-size o q good within p rate))

-- ---- C1
pub running_none : (noload q : ℕ) → q < 1 → pos 0 ≡ running noload q
running_none noload q h = rw (le-ltb 0 q (omega arith)) refl

pub running-some : (noload q : ℕ) {t : ℤ} → 1 ≤ q → t ≡ pos (noload * noload_ticks) → t ≡ running noload q
running-some noload q h e = e ∙ rw (lt-ltb 0 q (omega arith)) refl

running-size : (noload q : ℕ) → noload ≤ 100000000 → nat_abs (running noload q) ≤ 1000000000
running-size noload q small = go (ltb 0 q)
  where
    go : (t : Bool) → nat_abs (cond t (pos (noload * noload_ticks)) (pos 0)) ≤ 1000000000
    go true = omega arith
    go false = omega arith

pub running-room : (noload q : ℕ) {t : ℤ} → noload ≤ 100000000 → t ≡ running noload q → Moderate t
running-room noload q small e = rw e (omega (arith, running-size noload q small))

pub shortfall-is : (o : Offer) (p : ℤ) (noload q : ℕ) {l t r : ℤ} → l ≡ cost o q -ℤ p *ℤ pos q → t ≡ running noload q → r ≡ l +ℤ t → r ≡ shortfall o p noload q
unfolding shortfall
shortfall-is o p noload q e f g = g ∙ (λ i. e i +ℤ f i)

shortfall-size : (o : Offer) (p : ℤ) (noload q : ℕ) → Good o → q ≤ last_q o → nat_abs p ≤ 200000 → noload ≤ 100000000
    → nat_abs (shortfall o p noload q) ≤ 441000000000
unfolding shortfall
shortfall-size o p noload q good within rate small = add-within (cost o q -ℤ p *ℤ pos q) (running noload q) (loss-size o q good within p rate)
    (running-size noload q small)

-- ---- C2: the cost between two quantities, in two offers
pub step_is : (o : Offer) (b a : ℕ) {c d x : ℤ} → c ≡ cost o b → d ≡ cost o a → x ≡ c -ℤ d → x ≡ cost o b -ℤ cost o a
step_is o b a e f g = g ∙ (λ i. e i -ℤ f i)

step-size : (o : Offer) (b a : ℕ) → Good o → b ≤ last_q o → a ≤ last_q o → nat_abs (cost o b -ℤ cost o a) ≤ 840000000000
step-size o b a good upper lower = sub_within (cost o b) (cost o a) (spends o b good upper) (spends o a good lower)

module _ (o : Offer) (b a : ℕ) (good : Good o) (upper : b ≤ last_q o) (lower : a ≤ last_q o) where
  module _ {c d x : ℤ} (e : c ≡ cost o b) (f : d ≡ cost o a) (g : x ≡ c -ℤ d) where
    pub step_room : Moderate x
    step_room = room (step_is o b a e f g) (omega (arith, step-size o b a good upper lower))

pub arranged_is : (da rt : Offer) (b a : ℕ) {x y r : ℤ} → x ≡ cost da b -ℤ cost da a → y ≡ cost rt b -ℤ cost rt a → r ≡ x -ℤ y → r ≡ arranged da rt b a
unfolding arranged
arranged_is da rt b a e f g = g ∙ (λ i. e i -ℤ f i)

arranged-size : (da rt : Offer) (b a : ℕ) → Good da → Good rt → b ≤ last_q da → a ≤ last_q da → b ≤ last_q rt → a ≤ last_q rt
    → nat_abs (arranged da rt b a) ≤ 1680000000000
unfolding arranged
arranged-size da rt b a g g' h k h' k' = sub_within (cost da b -ℤ cost da a) (cost rt b -ℤ cost rt a) (step-size da b a g h k) (step-size rt b a g' h' k')

-- ---- C3
apart : (x y p b a : ℤ) → (x -ℤ p *ℤ b) -ℤ (y -ℤ p *ℤ a) ≡ x -ℤ y -ℤ p *ℤ (b -ℤ a)
apart = by₅ _ (λ a a' b b' c c' d d' e e'. simp ints (omega arith))

module _ (o : Offer) (p : ℤ) (b a : ℕ) where
  pub congestion-is : {x y r : ℤ} → x ≡ cost o b -ℤ p *ℤ pos b → y ≡ cost o a -ℤ p *ℤ pos a → r ≡ x -ℤ y → r ≡ congestion o p b a
  unfolding congestion
  congestion-is e f g = g ∙ (λ i. e i -ℤ f i) ∙ apart (cost o b) (cost o a) p (pos b) (pos a)

  congestion-size : Good o → b ≤ last_q o → a ≤ last_q o → nat_abs p ≤ 200000 → nat_abs (congestion o p b a) ≤ 880000000000
  unfolding congestion
  congestion-size g h k r = rw (← apart (cost o b) (cost o a) p (pos b) (pos a))
      (sub_within (cost o b -ℤ p *ℤ pos b) (cost o a -ℤ p *ℤ pos a) (loss-size o b g h p r) (loss-size o a g k p r))

-- ---- C4
pub last_none : (o : Offer) → o.count < 1 → last_q o ≡ 0
last_none o h = go o.count h
  where
    go : (n : ℕ) → n < 1 → before o n ≡ 0
    go zero l = refl
    go (suc n) l = absurd (omega arith)

module _ {s : Reserve} (u : Usable s) where
  -- a list of which something is taken is not empty
  pub offered : (q : ℕ) → 1 ≤ q → q ≤ last_q s.offer → Good s.offer
  offered q h k = by (dec_lt 0 s.offer.count)
    where
      by : Dec (0 < s.offer.count) → Good s.offer
      by (yes l) = u.good l
      by (no n) = absurd (omega (arith, last_none s.offer (omega arith)))

  -- nothing for nothing
  pub idle : (k q : ℕ) → q < 1 → pos 0 ≡ reserve_net s k q
  idle k q h =
      let z : q ≡ 0 = omega arith in
      let c = cost-none s.offer (λ j l. omega (arith, (u.good (omega arith)).rising j l)) in
      rw (z, c) (none (price_at s.prices k))
    where
      none : (p : ℤ) → pos 0 ≡ p *ℤ pos 0 -ℤ pos 0
      none = by₁ _ (λ a a'. simp ints (omega arith))

  net-size : (k q : ℕ) → k < intervals → q ≤ last_q s.offer → nat_abs (reserve_net s k q) ≤ 440000000000
  net-size k q l w = by (dec_lt q 1)
    where
      by : Dec (q < 1) → nat_abs (reserve_net s k q) ≤ 440000000000
      by (yes h) = rw (← idle k q h) (omega arith)
      by (no h) = profit-size s.offer s.prices (λ j. q) (record { good = offered q (omega arith) w; prices = u.rates; within = λ j m. w }) k l

  -- as much of the schedule as is left
  module _ (left k : ℕ) {q : ℕ} (l : k < intervals) (e : q ≡ min left (S s k)) where
    pub net-within : q ≤ last_q s.offer
    net-within = omega (arith, u.within k l)

    pub net-small : Small (reserve_net s k q)
    net-small = omega (arith, net-size k q l net-within)

-- what the calls returned: the sum of three such
pub component4-is : (r1 r2 r3 : Reserve) (k d u : ℕ) {l1 l2 l3 q1 q2 q3 : ℕ} {x y z s r : ℤ} → l1 ≡ d - u → l2 ≡ l1 - S r1 k → l3 ≡ l2 - S r2 k
    → q1 ≡ min l1 (S r1 k) → q2 ≡ min l2 (S r2 k) → q3 ≡ min l3 (S r3 k) → x ≡ reserve_net r1 k q1 → y ≡ reserve_net r2 k q2 → z ≡ reserve_net r3 k q3
    → s ≡ x +ℤ y → r ≡ s +ℤ z → r ≡ component4 r1 r2 r3 k d u
unfolding component4
component4-is r1 r2 r3 k d u {q1 = q1} {q2 = q2} {q3 = q3} a b c a' b' c' e f g h m =
    let b'' = b ∙ ap (λ (n : ℕ). n - S r1 k) a in
    let c'' = c ∙ ap (λ (n : ℕ). n - S r2 k) b'' in
    let p : q1 ≡ min (d - u) (S r1 k) = a' ∙ ap (λ (n : ℕ). min n (S r1 k)) a in
    let q : q2 ≡ min (d - u - S r1 k) (S r2 k) = b' ∙ ap (λ (n : ℕ). min n (S r2 k)) b'' in
    let t : q3 ≡ min (d - u - S r1 k - S r2 k) (S r3 k) = c' ∙ ap (λ (n : ℕ). min n (S r3 k)) c'' in
    m ∙ (λ i. h i +ℤ g i) ∙ (λ i. e i +ℤ f i +ℤ reserve_net r3 k q3) ∙ (λ i. reserve_net r1 k (p i) +ℤ reserve_net r2 k (q i) +ℤ reserve_net r3 k (t i))

pub component4-as : (r1 r2 r3 : Reserve) (k d u : ℕ) {l1 l2 l3 : ℕ} {x y z s r : ℤ} → l1 ≡ d - u → l2 ≡ l1 - S r1 k → l3 ≡ l2 - S r2 k
    → x ≡ reserve_net r1 k (min l1 (S r1 k)) → y ≡ reserve_net r2 k (min l2 (S r2 k)) → z ≡ reserve_net r3 k (min l3 (S r3 k))
    → s ≡ x +ℤ y → r ≡ s +ℤ z → r ≡ component4 r1 r2 r3 k d u
component4-as r1 r2 r3 k d u a b c e f g h m = component4-is r1 r2 r3 k d u a b c refl refl refl e f g h m

-- ---- an interval and an hour
module _ {h : UnitHour} {ps : List Price} (ready : UnitReady h ps) where
  module _ (k : ℕ) (l : k < intervals) where
    pub C1-small : Small (C1 h ps k)
    unfolding C1
    C1-small =
        let w = ready.ahead_within k l in
        omega (
          arith,
          shortfall-size h.aheadoffer (price_at ps k) h.noload.0 (min (D h k) (min (R h k) (A h k))) ready.ahead (omega arith)
              (ready.rates k l) ready.noload,
        )

    pub C2-small : Small (C2 h ps k)
    unfolding C2
    C2-small =
        let w = ready.ahead_within k l in
        let v = ready.real-within k l in
        let b = min (D h k) (K h k) in
        omega (
          arith,
          arranged-size h.aheadoffer h.realoffer b (min b (max (R h k) (A h k))) ready.ahead ready.real (omega arith) (omega arith)
              (omega arith) (omega arith),
        )

    pub C3-small : Small (C3 h ps k)
    unfolding C3
    C3-small =
        let w = ready.real-within k l in
        omega (
          arith,
          congestion-size h.realoffer (price_at ps k) (min (R h k) (D h k)) (min (U h k) (D h k)) ready.real (omega arith) (omega arith)
              (ready.rates k l),
        )

    pub C4-small : Small (C4 h ps k)
    unfolding C4 component4
    C4-small =
        let s = S h.spinning k in
        let n = S h.nonspinning k in
        let t = S h.thirty k in
        let d = D h k - U h k in
        let x = reserve_net h.spinning k (min d s) in
        let y = reserve_net h.nonspinning k (min (d - s) n) in
        let z = reserve_net h.thirty k (min (d - s - n) t) in
        let e = net-size ready.spinning k (min d s) l (omega (arith, ready.spinning.within k l)) in
        let f = net-size ready.nonspinning k (min (d - s) n) l (omega (arith, ready.nonspinning.within k l)) in
        let g = net-size ready.thirty k (min (d - s - n) t) l (omega (arith, ready.thirty.within k l)) in
        omega (arith, add-within (x +ℤ y) z (add-within x y e f) g)

    interval-size : nat_abs (interval h ps k) ≤ 8000000000000
    unfolding interval
    interval-size =
        sub_within (C1 h ps k +ℤ C2 h ps k -ℤ C3 h ps k) (C4 h ps k)
        (sub_within (C1 h ps k +ℤ C2 h ps k) (C3 h ps k) (add-within (C1 h ps k) (C2 h ps k) C1-small C2-small) C3-small)
        C4-small

  some_size : (n : ℕ) → n ≤ intervals → nat_abs (Σℤ n (interval h ps)) ≤ 100000000000000
  some_size n l = omega (arith, Σℤ-within 8000000000000 n (interval h ps) (λ j m. interval-size j (omega arith)))

  -- no hour comes to more than `max_hour`
  pub hour-size : nat_abs (hour_amount h ps) ≤ 100000000000000
  unfolding hour_amount
  hour-size = some_size intervals (omega arith)

-- ---- twelve intervals at a time
Σℤ-add : (n : ℕ) (f g : ℕ → ℤ) → Σℤ n (λ j. f j +ℤ g j) ≡ Σℤ n f +ℤ Σℤ n g
unfolding Σℤ
Σℤ-add zero f g = refl
Σℤ-add (suc n) f g = (λ i. Σℤ-add n f g i +ℤ (f n +ℤ g n)) ∙ swap (Σℤ n f) (Σℤ n g) (f n) (g n)
  where
    swap : (x y z w : ℤ) → x +ℤ y +ℤ (z +ℤ w) ≡ x +ℤ z +ℤ (y +ℤ w)
    swap = by₄ _ (λ a a' b b' c c' d d'. simp ints (omega arith))

-- quantities that are no larger
pub ready-less : {o : Offer} {ps : List Price} {q q' : ℕ → ℕ} → Ready o ps q → ((k : ℕ) → k < intervals → q' k ≤ q k) → Ready o ps q'
ready-less r h = record { good = r.good; prices = r.prices; within = λ k l. omega (arith, h k l, r.within k l) }

pub profits-moderate : {o : Offer} {ps : List Price} {q : ℕ → ℕ} → Ready o ps q → {x : ℤ} → x ≡ profits o ps q → Moderate x
profits-moderate {o} {ps} {q} r e = rw e (omega (arith, profits-size o ps q r))

-- the difference of two
pub two-profits : {o : Offer} {ps : List Price} {q q' : ℕ → ℕ} → Ready o ps q → Ready o ps q' → {x y z : ℤ} → x ≡ profits o ps q → y ≡ profits o ps q'
    → z ≡ x -ℤ y → Moderate z
two-profits {o} {ps} {q} {q'} r r' e f g = rw (g ∙ (λ i. e i -ℤ f i))
    (omega (arith, sub_within (profits o ps q) (profits o ps q') (profits-size o ps q r) (profits-size o ps q' r')))

-- quantities no larger than the schedules
module _ {h : UnitHour} {ps : List Price} (ready : UnitReady h ps) {q : ℕ → ℕ} (less : (k : ℕ) → k < intervals → q k ≤ D h k) where
  pub ahead-reaches : (k : ℕ) → k < intervals → q k ≤ last_q h.aheadoffer
  ahead-reaches k l = omega (arith, less k l, ready.ahead_within k l)

  pub real-reaches : (k : ℕ) → k < intervals → q k ≤ last_q h.realoffer
  real-reaches k l = omega (arith, less k l, ready.real-within k l)

-- speed no-load
pub runs-room : (noload : ℕ) (m : ℕ → ℕ) → noload ≤ 100000000 → {sum : ℤ} {k : ℕ} → Summed intervals (λ j. running noload (m j)) sum k → Moderate sum
runs-room noload m small {k = k} u = rw u.so_far
    (omega (arith, u.upto, Σℤ-within 1000000000 k (λ j. running noload (m j)) (λ j l. running-size noload (m j) small)))

pub runs-size : (noload : ℕ) (m : ℕ → ℕ) → noload ≤ 100000000 → nat_abs (Σℤ intervals (λ j. running noload (m j))) ≤ 12000000000
runs-size noload m small = Σℤ-within 1000000000 intervals (λ j. running noload (m j)) (λ j l. running-size noload (m j) small)

pub runs-moderate : (noload : ℕ) (m : ℕ → ℕ) → noload ≤ 100000000 → {x : ℤ} → x ≡ Σℤ intervals (λ j. running noload (m j)) → Moderate x
runs-moderate noload m small e = runs-room noload m small (record { upto = omega arith; so_far = e })

turned : (n v c : ℤ) → n -ℤ (v -ℤ c) ≡ c -ℤ v +ℤ n
turned = by₃ _ (λ a a' b b' c c'. simp ints (omega arith))

-- C1 is the speed no-load less the profits
pub sum1-is : (da : Offer) (ps : List Price) (noload : ℕ) (d r a m : ℕ → ℕ) → ((k : ℕ) → k < intervals → m k ≡ min (d k) (min (r k) (a k))) → {n p x : ℤ}
    → n ≡ Σℤ intervals (λ k. running noload (m k)) → p ≡ profits da ps m → x ≡ n -ℤ p
    → x ≡ Σℤ intervals (λ k. component1 da (price_at ps k) noload (d k) (r k) (a k))
unfolding profits shortfall
sum1-is da ps noload d r a m h e f g =
    g ∙ (λ i. e i -ℤ f i) ∙ sym (Σℤ-sub intervals (λ k. running noload (m k)) (λ k. profit da (price_at ps k) (m k)))
    ∙ Σℤ-ext intervals (λ k. running noload (m k) -ℤ profit da (price_at ps k) (m k)) (λ k. component1 da (price_at ps k) noload (d k) (r k) (a k))
    (λ k l. turned (running noload (m k)) (price_at ps k *ℤ pos (m k)) (cost da (m k)) ∙ ap (λ (q : ℕ). shortfall da (price_at ps k) noload q) (h k l))

crossed : (v c w d : ℤ) → (v -ℤ c) -ℤ (w -ℤ d) ≡ (d -ℤ c) -ℤ (w -ℤ v)
crossed = by₄ _ (λ a a' b b' c c' d d'. simp ints (omega arith))

dropped : (x y z : ℤ) → (x -ℤ z) -ℤ (y -ℤ z) ≡ x -ℤ y
dropped = by₃ _ (λ a a' b b' c c'. simp ints (omega arith))

-- C2 is what the profits of two offers differ by, between the same two quantities at the same prices
arranged-by : (da rt : Offer) (p : ℤ) (b a : ℕ) → (profit da p a -ℤ profit da p b) -ℤ (profit rt p a -ℤ profit rt p b) ≡ arranged da rt b a
unfolding arranged
arranged-by da rt p b a =
    let v = p *ℤ pos a in
    let w = p *ℤ pos b in
    (λ i. crossed v (cost da a) w (cost da b) i -ℤ crossed v (cost rt a) w (cost rt b) i) ∙ dropped (cost da b -ℤ cost da a) (cost rt b -ℤ cost rt a) (w -ℤ v)

-- what one offer's profits differ by, over the twelve
profits-differ : (o : Offer) (ps : List Price) (from to : ℕ → ℕ) {x y s : ℤ} → x ≡ profits o ps from → y ≡ profits o ps to → s ≡ x -ℤ y
    → s ≡ Σℤ intervals (λ k. profit o (price_at ps k) (from k) -ℤ profit o (price_at ps k) (to k))
unfolding profits
profits-differ o ps from to e f g = g ∙ (λ i. e i -ℤ f i) ∙ sym (Σℤ-sub intervals (λ k. profit o (price_at ps k) (from k)) (λ k. profit o (price_at ps k) (to k)))

pub sum2-is : (da rt : Offer) (ps : List Price) (d r a c to from : ℕ → ℕ) → ((k : ℕ) → k < intervals → to k ≡ min (d k) (c k))
    → ((k : ℕ) → k < intervals → from k ≡ min (to k) (max (r k) (a k)))
    → {x y z w s t n : ℤ} → x ≡ profits da ps from → y ≡ profits da ps to → z ≡ profits rt ps from → w ≡ profits rt ps to → s ≡ x -ℤ y → t ≡ z -ℤ w → n ≡ s -ℤ t
    → n ≡ Σℤ intervals (λ k. component2 da rt (d k) (r k) (a k) (c k))
sum2-is da rt ps d r a c to from h h' e f e' f' g g' m =
    let one : Offer → ℕ → ℤ = λ o k. profit o (price_at ps k) (from k) -ℤ profit o (price_at ps k) (to k) in
    m ∙ (λ i. profits-differ da ps from to e f g i -ℤ profits-differ rt ps from to e' f' g' i) ∙ sym (Σℤ-sub intervals (one da) (one rt))
    ∙ Σℤ-ext intervals (λ k. one da k -ℤ one rt k) (λ k. component2 da rt (d k) (r k) (a k) (c k))
    (λ k l. arranged-by da rt (price_at ps k) (to k) (from k) ∙ (λ i. arranged da rt (h k l i) ((h' k l ∙ ap (λ (n : ℕ). min n (max (r k) (a k))) (h k l)) i)))

-- C3 is what the profits of one offer differ by
congestion-by : (rt : Offer) (p : ℤ) (b a : ℕ) → profit rt p a -ℤ profit rt p b ≡ congestion rt p b a
unfolding congestion
congestion-by rt p b a = swap (p *ℤ pos a) (cost rt a) (p *ℤ pos b) (cost rt b) ∙ apart (cost rt b) (cost rt a) p (pos b) (pos a)
  where
    swap : (v c w d : ℤ) → (v -ℤ c) -ℤ (w -ℤ d) ≡ (d -ℤ w) -ℤ (c -ℤ v)
    swap = by₄ _ (λ a a' b b' c c' d d'. simp ints (omega arith))

pub sum3-is : (rt : Offer) (ps : List Price) (d r u to from : ℕ → ℕ) → ((k : ℕ) → k < intervals → to k ≡ min (r k) (d k))
    → ((k : ℕ) → k < intervals → from k ≡ min (u k) (d k))
    → {x y n : ℤ} → x ≡ profits rt ps from → y ≡ profits rt ps to → n ≡ x -ℤ y → n ≡ Σℤ intervals (λ k. component3 rt (price_at ps k) (d k) (r k) (u k))
sum3-is rt ps d r u to from h h' e f g =
    profits-differ rt ps from to e f g
    ∙ Σℤ-ext intervals (λ k. profit rt (price_at ps k) (from k) -ℤ profit rt (price_at ps k) (to k)) (λ k. component3 rt (price_at ps k) (d k) (r k) (u k))
    (λ k l. congestion-by rt (price_at ps k) (to k) (from k) ∙ (λ i. congestion rt (price_at ps k) (h k l i) (h' k l i)))

-- C4: one reserve, of as much of its schedules as is left
abbrev reserved : Reserve → (ℕ → ℕ) → ℕ → ℤ
reserved s left k = reserve_net s k (min (left k) (S s k))

module _ {s : Reserve} (u : Usable s) (left : ℕ → ℕ) where
  pub reserve-none : s.offer.count < 1 → pos 0 ≡ Σℤ intervals (reserved s left)
  unfolding Σℤ
  reserve-none h = sym
      (Σℤ-cut intervals 0 (reserved s left) zero-le (λ k a l. sym (idle u k (min (left k) (S s k)) (omega (arith, u.within k l, last_none s.offer h)))))

  module _ (q : ℕ → ℕ) (series : (k : ℕ) → k < intervals → q k ≡ min (left k) (S s k)) where
    pub reserve-reaches : (k : ℕ) → k < intervals → q k ≤ last_q s.offer
    reserve-reaches k l = omega (arith, series k l, u.within k l)

    pub reserve-ready : 1 ≤ s.offer.count → Ready s.offer s.prices q
    reserve-ready h = record { good = u.good h; prices = u.rates; within = λ k l. omega (arith, series k l, u.within k l) }

    pub reserve-is : {x : ℤ} → x ≡ profits s.offer s.prices q → x ≡ Σℤ intervals (reserved s left)
    unfolding profits
    reserve-is e = e ∙ Σℤ-ext intervals (λ k. profit s.offer (price_at s.prices k) (q k)) (reserved s left)
        (λ k l. ap (λ (n : ℕ). reserve_net s k n) (series k l))

  reserve-size : nat_abs (Σℤ intervals (reserved s left)) ≤ 5280000000000
  reserve-size = Σℤ-within 440000000000 intervals (reserved s left) (λ k l. net-size u k (min (left k) (S s k)) l (omega (arith, u.within k l)))

  pub reserve-room : {x : ℤ} → x ≡ Σℤ intervals (reserved s left) → Moderate x
  reserve-room e = rw e (omega (arith, reserve-size))

pub two-reserves : {s s' : Reserve} → Usable s → Usable s' → (left left' : ℕ → ℕ) {x y z : ℤ} → x ≡ Σℤ intervals (reserved s left)
    → y ≡ Σℤ intervals (reserved s' left') → z ≡ x +ℤ y → Moderate z
two-reserves {s} {s'} u u' left left' e f g = rw (g ∙ (λ i. e i +ℤ f i))
    (omega (arith, add-within (Σℤ intervals (reserved s left)) (Σℤ intervals (reserved s' left')) (reserve-size u left) (reserve-size u' left')))

pub sum4-is : (r1 r2 r3 : Reserve) (d u l1 l2 l3 : ℕ → ℕ) → ((k : ℕ) → k < intervals → l1 k ≡ d k - u k) → ((k : ℕ) → k < intervals → l2 k ≡ l1 k - S r1 k)
    → ((k : ℕ) → k < intervals → l3 k ≡ l2 k - S r2 k)
    → {x y z s n : ℤ} → x ≡ Σℤ intervals (reserved r1 l1) → y ≡ Σℤ intervals (reserved r2 l2) → z ≡ Σℤ intervals (reserved r3 l3) → s ≡ x +ℤ y → n ≡ s +ℤ z
    → n ≡ Σℤ intervals (λ k. component4 r1 r2 r3 k (d k) (u k))
sum4-is r1 r2 r3 d u l1 l2 l3 a b c e f g h m =
    m ∙ (λ i. h i +ℤ g i) ∙ (λ i. e i +ℤ f i +ℤ Σℤ intervals (reserved r3 l3)) ∙
    (λ i. sym (Σℤ-add intervals (reserved r1 l1) (reserved r2 l2)) i +ℤ Σℤ intervals (reserved r3 l3))
    ∙ sym (Σℤ-add intervals (λ k. reserved r1 l1 k +ℤ reserved r2 l2 k) (reserved r3 l3))
    ∙ Σℤ-ext intervals (λ k. reserved r1 l1 k +ℤ reserved r2 l2 k +ℤ reserved r3 l3 k) (λ k. component4 r1 r2 r3 k (d k) (u k))
    (λ k l. component4-as r1 r2 r3 k (d k) (u k) (a k l) (b k l) (c k l) refl refl refl refl refl)

-- ---- the four together
parts : (x y z w : ℤ) → (x +ℤ y) -ℤ (z +ℤ w) ≡ x +ℤ y -ℤ z -ℤ w
parts = by₄ _ (λ a a' b b' c c' d d'. simp ints (omega arith))

sum-size : (f : ℕ → ℤ) → ((k : ℕ) → k < intervals → Small (f k)) → nat_abs (Σℤ intervals f) ≤ 24000000000000
sum-size f h = Σℤ-within 2000000000000 intervals f h

pub sum_room : (f : ℕ → ℤ) {x : ℤ} → ((k : ℕ) → k < intervals → Small (f k)) → x ≡ Σℤ intervals f → Moderate x
sum_room f h e = rw e (omega (arith, sum-size f h))

pub two-sums : (f g : ℕ → ℤ) {x y s : ℤ} → ((k : ℕ) → k < intervals → Small (f k)) → ((k : ℕ) → k < intervals → Small (g k)) → x ≡ Σℤ intervals f
    → y ≡ Σℤ intervals g → s ≡ x +ℤ y → Moderate s
two-sums f g h k e e' m = rw (m ∙ (λ i. e i +ℤ e' i)) (omega (arith, add-within (Σℤ intervals f) (Σℤ intervals g) (sum-size f h) (sum-size g k)))

pub hour-is : (h : UnitHour) (ps : List Price) {x y z w s t n : ℤ} → x ≡ Σℤ intervals (C1 h ps) → y ≡ Σℤ intervals (C2 h ps) → z ≡ Σℤ intervals (C3 h ps)
    → w ≡ Σℤ intervals (C4 h ps)
    → s ≡ x +ℤ y → t ≡ z +ℤ w → n ≡ s -ℤ t → n ≡ hour_amount h ps
unfolding hour_amount interval
hour-is h ps a b c d e f g =
    g ∙ (λ i. e i -ℤ f i) ∙ (λ i. (a i +ℤ b i) -ℤ (c i +ℤ d i)) ∙
    (λ i. sym (Σℤ-add intervals (C1 h ps) (C2 h ps)) i -ℤ sym (Σℤ-add intervals (C3 h ps) (C4 h ps)) i)
    ∙ sym (Σℤ-sub intervals (λ k. C1 h ps k +ℤ C2 h ps k) (λ k. C3 h ps k +ℤ C4 h ps k))
    ∙ Σℤ-ext intervals (λ k. (C1 h ps k +ℤ C2 h ps k) -ℤ (C3 h ps k +ℤ C4 h ps k)) (interval h ps)
    (λ k l. parts (C1 h ps k) (C2 h ps k) (C3 h ps k) (C4 h ps k))

-- ---- what the checks tell
module _ (s : Reserve) (e : reserve_fault s ≡ 0) where
  -- a list that passed is empty or keeps its rule
  by-list : {X : Type 0} → (s.offer.count ≤ 0 → X) → (Good s.offer → X) → X
  unfolding reserve_fault
  by-list {X} f g = go (leb s.offer.count 0) (within_ok s.schedules 0) refl e
    where
      go : (a b : Bool) → leb s.offer.count 0 ≡ a → cond (a && b) 0 (offer_fault s.offer) ≡ 0 → X
      go true true p q = f (leb-true _ _ p)
      go true false p q = g (good_of s.offer q)
      go false b p q = g (good_of s.offer q)

  list-most : s.offer.count ≤ max_pairs
  list-most = by-list (λ z. omega arith) (λ g. g.most)

  usable-of : reserve_numbers_ok s ≡ true → within_ok s.schedules (last_q s.offer) ≡ true → Usable s
  usable-of n w = record {
    rates = prices-of s.prices (and-true (prices_ok s.prices) (quantities_ok s.schedules) n).0;
    most = list-most;
    good = λ l. by-list (λ z. absurd (omega arith)) (λ g. g);
    within = within-at s.schedules (last_q s.offer) w;
  }

pub lists_of : (h : UnitHour) → lists_fault h ≡ 0 → ListsGood h
unfolding lists_fault
lists_of h e =
    let a = neither (offer_fault h.aheadoffer) _ e in
    let b = neither (offer_fault h.realoffer) _ a.1 in
    let c = neither (reserve_fault h.spinning) _ b.1 in
    let d = neither (reserve_fault h.nonspinning) _ c.1 in
    record {
      ahead = good_of h.aheadoffer a.0;
      real = good_of h.realoffer b.0;
      spinning = list-most h.spinning c.0;
      nonspinning = list-most h.nonspinning d.0;
      thirty = list-most h.thirty d.1;
    }

-- the numbers that a component reads, and the reserves'
record Numbers (h : UnitHour) : Type 0 where
  pub noload : h.noload.0 ≤ 100000000
  pub spinning : reserve_numbers_ok h.spinning ≡ true
  pub nonspinning : reserve_numbers_ok h.nonspinning ≡ true
  pub thirty : reserve_numbers_ok h.thirty ≡ true

numbers_of : (h : UnitHour) → numbers_fine h ≡ true → Numbers h
unfolding numbers_fine reserves_numbers_ok
numbers_of h e =
    let a = (and-true (leb h.startup.0 max_cents) _ e).1 in
    let b = and-true (leb h.noload.0 max_cents) _ a in
    let c = (and-true (quantities_ok h.ahead) _ b.1).1 in
    let d = (and-true (quantities_ok h.constrained) _ c).1 in
    let f = (and-true (quantities_ok h.unconstrained) _ d).1 in
    let g = (and-true (quantities_ok h.metered) _ f).1 in
    let r = (and-true (quantities_ok h.capacity) _ g).1 in
    let s = and-true (reserve_numbers_ok h.spinning) (reserve_numbers_ok h.nonspinning && reserve_numbers_ok h.thirty) r in
    let n = and-true (reserve_numbers_ok h.nonspinning) (reserve_numbers_ok h.thirty) s.1 in
    record { noload = leb-true _ _ b.0; spinning = s.0; nonspinning = n.0; thirty = n.1 }

pub unit-of : (h : UnitHour) (ps : List Price) → unit_fault h ps ≡ 0 → UnitReady h ps
unfolding unit_fault lists_fault within_fine
unit-of h ps e =
    let p = passes (prices_ok ps) 4 _ e in
    let n = passes (numbers_fine h) 4 _ p.1 in
    let o = neither (lists_fault h) (unless (within_fine h) 7 0) n.1 in
    let numbers = numbers_of h n.0 in
    let b = neither (offer_fault h.realoffer) _ (neither (offer_fault h.aheadoffer) _ o.0).1 in
    let c = neither (reserve_fault h.spinning) _ b.1 in
    let d = neither (reserve_fault h.nonspinning) _ c.1 in
    let w = and-true (within_ok h.ahead (last_q h.aheadoffer)) _ (passes (within_fine h) 6 0 o.1).0 in
    let v = and-true (within_ok h.ahead (last_q h.realoffer)) _ w.1 in
    let x = and-true (within_ok h.spinning.schedules (last_q h.spinning.offer)) _ v.1 in
    let y = and-true (within_ok h.nonspinning.schedules (last_q h.nonspinning.offer)) (within_ok h.thirty.schedules (last_q h.thirty.offer))
    x.1 in
    let lists = lists_of h o.0 in
    record {
      rates = prices-of ps p.0;
      noload = numbers.noload;
      ahead = lists.ahead;
      real = lists.real;
      ahead_within = within-at h.ahead (last_q h.aheadoffer) w.0;
      real-within = within-at h.ahead (last_q h.realoffer) v.0;
      spinning = usable-of h.spinning c.0 numbers.spinning x.0;
      nonspinning = usable-of h.nonspinning d.0 numbers.nonspinning y.0;
      thirty = usable-of h.thirty d.1 numbers.thirty y.1;
    }

startup-of : (h : UnitHour) (ps : List Price) → unit_fault h ps ≡ 0 → h.startup.0 ≤ 100000000
unfolding unit_fault numbers_fine
startup-of h ps e = leb-true _ _ (and-true (leb h.startup.0 max_cents) _ (passes (numbers_fine h) 4 _ (passes (prices_ok ps) 4 _ e).1).0).0

pub interval-of : (h : UnitHour) (ps : List Price) (k : ℕ) → interval_fault h ps k ≡ 0 → UnitReady h ps × (k < intervals)
unfolding interval_fault
interval-of h ps k e =
    let a = neither (unit_fault h ps) (unless (ltb k intervals) 5 0) e in
    (unit-of h ps a.0, ltb-true _ _ (passes (ltb k intervals) 4 0 a.1).0)

-- ---- and the other way: parts in order pass
pub reserve-full : (s : Reserve) → offer_fault s.offer ≡ 0 → reserve_fault s ≡ 0
unfolding reserve_fault
reserve-full s e = go (leb s.offer.count 0 && within_ok s.schedules 0)
  where
    go : (b : Bool) → cond b 0 (offer_fault s.offer) ≡ 0
    go true = refl
    go false = e

pub reserve-empty : (s : Reserve) → s.offer.count ≡ 0 → within_ok s.schedules (last_q s.offer) ≡ true → reserve_fault s ≡ 0
unfolding reserve_fault
reserve-empty s e w =
    let z : within_ok s.schedules 0 ≡ true = ap (within_ok s.schedules) (sym (last_none s.offer (omega arith))) ∙ w in
    rw (le-leb s.offer.count 0 (omega arith), z)

module _ (h : UnitHour) where
  pub numbers-fine : h.startup.0 ≤ max_cents → h.noload.0 ≤ max_cents
      → quantities_ok h.ahead ≡ true → quantities_ok h.constrained ≡ true → quantities_ok h.unconstrained ≡ true → quantities_ok h.metered ≡ true →
      quantities_ok h.capacity ≡ true
      → reserve_numbers_ok h.spinning ≡ true → reserve_numbers_ok h.nonspinning ≡ true → reserve_numbers_ok h.thirty ≡ true → numbers_fine h ≡ true
  unfolding numbers_fine reserves_numbers_ok
  numbers-fine a b c d e f g x y z =
      (λ i. le-leb h.startup.0 max_cents a i && (le-leb h.noload.0 max_cents b i && (c i && (d i && (e i && (f i && (g i && (x i && (y i && z i)))))))))

  pub lists-fine : offer_fault h.aheadoffer ≡ 0 → offer_fault h.realoffer ≡ 0 → reserve_fault h.spinning ≡ 0 → reserve_fault h.nonspinning ≡ 0
      → reserve_fault h.thirty ≡ 0 → lists_fault h ≡ 0
  unfolding lists_fault
  lists-fine a b c d e = (λ i. or_else (a i) (or_else (b i) (or_else (c i) (or_else (d i) (e i)))))

  pub within-fine : within_ok h.ahead (last_q h.aheadoffer) ≡ true → within_ok h.ahead (last_q h.realoffer) ≡ true
      → within_ok h.spinning.schedules (last_q h.spinning.offer) ≡ true
      → within_ok h.nonspinning.schedules (last_q h.nonspinning.offer) ≡ true → within_ok h.thirty.schedules (last_q h.thirty.offer) ≡ true →
      within_fine h ≡ true
  unfolding within_fine
  within-fine a b c d e = (λ i. a i && (b i && (c i && (d i && e i))))

  pub unit-fine : (ps : List Price) → prices_ok ps ≡ true → numbers_fine h ≡ true → lists_fault h ≡ 0 → within_fine h ≡ true → unit_fault h ps ≡ 0
  unfolding unit_fault
  unit-fine ps a b c d = (λ i. unless (a i) 5 (unless (b i) 5 (or_else (c i) (unless (d i) 7 0))))

-- an hour's amount that no check refuses
pub hour-given : (h : UnitHour) (ps : List Price) → unit_fault h ps ≡ 0 → hour_answer h ps ≡ Amount (record { 0 = hour_amount h ps })
hour-given h ps e = ap (λ (n : ℕ). answer n (hour_amount h ps)) e

-- ---- a day
pub amount-in : (t : Ticks) (s : CentsPerStart) → amount_ok t s ≡ true → (nat_abs t.0 ≤ 100000000000000) × (s.0 ≤ 100000000)
amount-in t s e =
    let a = and-true (le_z (neg_ℤ (pos max_hour)) t.0) (le_z t.0 (pos max_hour) && leb s.0 max_cents) e in
    let b = and-true (le_z t.0 (pos max_hour)) (leb s.0 max_cents) a.1 in
    (both t.0 (le-true _ _ a.0) (le-true _ _ b.0), leb-true _ _ b.1)
  where
    both : (z : ℤ) → neg_ℤ (pos 100000000000000) ≤ℤ z → z ≤ℤ pos 100000000000000 → nat_abs z ≤ 100000000000000
    both = by₁ _ (λ a a'. simp ints (omega arith))

-- an hour's amount is one that a day takes
pub amount-ok : (t : Ticks) (s : CentsPerStart) → nat_abs t.0 ≤ 100000000000000 → s.0 ≤ 100000000 → amount_ok t s ≡ true
amount-ok t s h k = rw (true-le _ _ (above t.0 h), true-le _ _ (below t.0 h), le-leb s.0 max_cents k)
  where
    above : (z : ℤ) → nat_abs z ≤ 100000000000000 → neg_ℤ (pos 100000000000000) ≤ℤ z
    above = by₁ _ (λ a a'. simp ints (omega arith))

    below : (z : ℤ) → nat_abs z ≤ 100000000000000 → z ≤ℤ pos 100000000000000
    below = by₁ _ (λ a a'. simp ints (omega arith))

pub hour-taken : (h : UnitHour) (ps : List Price) → unit_fault h ps ≡ 0 → amount_ok (record { 0 = hour_amount h ps }) h.startup ≡ true
hour-taken h ps e = amount-ok (record { 0 = hour_amount h ps }) h.startup (hour-size (unit-of h ps e)) (startup-of h ps e)

pub day-of : (ts : List Ticks) (ss : List CentsPerStart) → hours_ok ts ss ≡ true → DayReady ts ss
unfolding hours_ok
day-of ts ss e =
    let at : (i : ℕ) → i < day_hours → (nat_abs (get_or ts i no_ticks).0 ≤ 100000000000000) × ((get_or ss i no_start).0 ≤ 100000000)
    = λ i l. amount-in (get_or ts i no_ticks) (get_or ss i no_start) (every-at day_hours (λ i. amount_ok (get_or ts i no_ticks) (get_or ss i no_start)) e i l) in
    record { amounts = λ i l. (at i l).0; starts = λ i l. (at i l).1 }

-- an hour's amount with its start-up
pub part-within : (t : Ticks) (s : CentsPerStart) → nat_abs t.0 ≤ max_hour → s.0 ≤ max_cents
    → nat_abs (t.0 +ℤ pos (s.0 * ticks_per_cent)) ≤ max_hour + max_cents * ticks_per_cent
part-within t s h k = add-within t.0 (pos (s.0 * ticks_per_cent)) {B = max_cents * ticks_per_cent} h (omega arith)

module _ {ts : List Ticks} {ss : List CentsPerStart} (ready : DayReady ts ss) where
  part-size : (j : ℕ) → j < day_hours → nat_abs (hour_part ts ss j) ≤ 100012000000000
  part-size j l = part-within (get_or ts j no_ticks) (get_or ss j no_start) (ready.amounts j l) (ready.starts j l)

  pub day-room : {sum : ℤ} {i : ℕ} → Summed day_hours (hour_part ts ss) sum i → Moderate sum
  day-room {i = i} u = rw u.so_far (omega (arith, u.upto, Σℤ-within 100012000000000 i (hour_part ts ss) (λ j m. part-size j (omega (arith, u.upto)))))

  pub start-room : (i : ℕ) → i < day_hours → {x : ℤ} → x ≡ pos ((get_or ss i no_start).0 * ticks_per_cent) → Moderate x
  start-room i l e = rw e (omega (arith, ready.starts i l))

  -- what the calls of a turn returned: the start-up's ticks, and the hour's part
  module _ (i : ℕ) (l : i < day_hours) {x p : ℤ} (e : x ≡ pos ((get_or ss i no_start).0 * ticks_per_cent)) (f : p ≡ (get_or ts i no_ticks).0 +ℤ x) where
    pub part-is : p ≡ hour_part ts ss i
    part-is = f ∙ ap (λ (z : ℤ). (get_or ts i no_ticks).0 +ℤ z) e

    pub part_room : Moderate p
    part_room = rw part-is (omega (arith, part-size i l))

-- a turn over both lists adds an hour's part
module _ {ts : List Ticks} {ss : List CentsPerStart} (ready : DayReady ts ss) (full : length ts ≡ day_hours) (same : length ss ≡ day_hours) {sum : ℤ}
    {xs us : List Ticks} {ys vs : List CentsPerStart} (w : Paired day_hours (hour_part ts ss) ts ss sum xs ys) {a : Ticks} (ex : xs ≡ a ∷ us)
    {s : CentsPerStart} (ey : ys ≡ s ∷ vs) where
  pub part-more : {x p r : ℤ} → x ≡ pos (s.0 * ticks_per_cent) → p ≡ a.0 +ℤ x → r ≡ sum +ℤ p → Paired day_hours (hour_part ts ss) ts ss r us vs
  part-more {x} e f g =
      paired-more w full same ex ey g
      (part-is ready w.upto (paired-in w full same ex ey) (e ∙ ap (λ (t : CentsPerStart). pos (t.0 * ticks_per_cent)) (second-is w full same ex ey no_start))
      (f ∙ ap (λ (t : Ticks). t.0 +ℤ x) (first-is w full same ex ey no_ticks)))

pub day-amount : (ts : List Ticks) (ss : List CentsPerStart) → ((i : ℕ) → i < day_hours → amount_ok (get_or ts i no_ticks) (get_or ss i no_start) ≡ true)
    → day_answer ts ss ≡ Day (record { 0 = day_sum ts ss }) (record { 0 = reversal (day_sum ts ss) })
unfolding day_answer hours_ok
day-amount ts ss h = rw (every-yes day_hours (λ i. amount_ok (get_or ts i no_ticks) (get_or ss i no_start)) h)

-- the reversal as code has it, -min(0, total)
pub reversal-is : {s t r : ℤ} → t ≡ s → r ≡ neg_ℤ (minℤ (pos 0) t) → r ≡ reversal s
reversal-is {s = s} e f = f ∙ ap (λ (z : ℤ). neg_ℤ (minℤ (pos 0) z)) e ∙ min-max-neg (pos 0) s

-- ---- C4's quantities as 01 writes them, over ℤ
module _ (d u s t v : ℕ) where
  first-dif : dif (min (d - u) s) 0 ≡ maxℤ (dif 0 0) (minℤ (dif d 0 -ℤ dif u 0) (dif s 0))
  first-dif = simp ints (omega arith)

  second-dif : dif (min (d - u - s) t) 0 ≡ maxℤ (dif 0 0) (minℤ (dif d 0 -ℤ dif u 0 -ℤ dif s 0) (dif t 0))
  second-dif = simp ints (omega arith)

  third-dif : dif (min (d - u - s - t) v) 0 ≡ maxℤ (dif 0 0) (minℤ (dif d 0 -ℤ dif u 0 -ℤ dif s 0 -ℤ dif t 0) (dif v 0))
  third-dif = simp ints (omega arith)

  pub net-quantities : (pos (min (d - u) s) ≡ maxℤ (pos 0) (minℤ (pos d -ℤ pos u) (pos s)))
      × (pos (min (d - u - s) t) ≡ maxℤ (pos 0) (minℤ (pos d -ℤ pos u -ℤ pos s) (pos t)))
      × (pos (min (d - u - s - t) v) ≡ maxℤ (pos 0) (minℤ (pos d -ℤ pos u -ℤ pos s -ℤ pos t) (pos v)))
  net-quantities = (
    pos-dif _ ∙ first-dif ∙ sym (λ i. maxℤ (pos-dif 0 i) (minℤ (pos-dif d i -ℤ pos-dif u i) (pos-dif s i))),
    pos-dif _ ∙ second-dif ∙ sym (λ i. maxℤ (pos-dif 0 i) (minℤ (pos-dif d i -ℤ pos-dif u i -ℤ pos-dif s i) (pos-dif t i))),
    pos-dif _ ∙ third-dif ∙ sym (λ i. maxℤ (pos-dif 0 i) (minℤ (pos-dif d i -ℤ pos-dif u i -ℤ pos-dif s i -ℤ pos-dif t i) (pos-dif v i))),
  )

-- a day's sum, hour by hour
pub day-sum : (ts : List Ticks) (ss : List CentsPerStart) → day_sum ts ss ≡ Σℤ day_hours (hour_part ts ss)
unfolding day_sum
day-sum ts ss = refl
