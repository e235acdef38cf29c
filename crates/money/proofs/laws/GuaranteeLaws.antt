-- Sums of profits, credits and their sizes. Assumes nothing.
use Rattle.std.specs.Prelude.{◌≡◌, Bool, true, List, ◌∷◌, length, ◌+ℤ◌, ℕ, ◌≤◌, ◌<◌, ℤ, pos, neg_ℤ, nat_abs, ◌-ℤ◌, ◌*ℤ◌}
use Rattle.std.proofs.Common.{sym, subst, ap, ◌∙◌, arith}
use Rattle.laws.specs.Ints.{minℤ}
use Rattle.laws.specs.IntLaws.{ints, by₁, sub_within}
use Rattle.laws.specs.Sums.{Σℤ, or_else}
use Rattle.laws.specs.SumLaws.{Σℤ-ext, Σℤ-within, Summed, summed-all}
use Rattle.money.specs.declared.units.Price.{Price}
use Rattle.money.specs.declared.units.Quantity.{Quantity}
use Rattle.money.specs.Answers.{Amount}
use Rattle.money.specs.declared.offers.Offer.{Offer}
use Rattle.money.specs.Units.{intervals, no_price, no_quantity, price_at, quantity_at, prices_ok, quantities_ok, within_ok, unless, answer}
use Rattle.money.specs.Offers.{last_q, offer_fault, cost}
use Rattle.money.specs.Guarantee.{profit, profits, credit, credit_answer}
use Rattle.money.specs.tables.Numbers.{Moderate}
use Rattle.money.specs.tables.Ready.{Good, Rates, Ready}
use Rattle.money.proofs.laws.UnitLaws.{Paired, paired-in, first-is, second-is, paired-more, within-at}
use Rattle.money.proofs.laws.OfferLaws.{good_of, abs-mul-pos, in-range, spends}

module _ (o : Offer) (ps : List Price) (q : ℕ → ℕ) (r : Ready o ps q) where
  pub profit-size : (k : ℕ) → k < intervals → nat_abs (profit o (price_at ps k) (q k)) ≤ 440000000000
  profit-size k l =
      let w = r.within k l in
      sub_within (price_at ps k *ℤ pos (q k)) (cost o (q k))
      (abs-mul-pos (price_at ps k) (q k) {A = 200000} {B = 100000} (r.prices k l) (in-range o (q k) r.good w)) (spends o (q k) r.good w)

  pub some_size : (n : ℕ) → n ≤ intervals → nat_abs (Σℤ n (λ k. profit o (price_at ps k) (q k))) ≤ 5280000000000
  some_size n l = omega (arith, Σℤ-within 440000000000 n (λ k. profit o (price_at ps k) (q k)) (λ j k. profit-size j (omega arith)))

  pub profits-size : nat_abs (profits o ps q) ≤ 5280000000000
  unfolding profits
  profits-size = some_size intervals (omega arith)

  pub credit-size : nat_abs (credit o ps q) ≤ 5280000000000
  credit-size = lesser (profits o ps q) profits-size
    where
      lesser : (x : ℤ) → nat_abs x ≤ 5280000000000 → nat_abs (neg_ℤ (minℤ (pos 0) x)) ≤ 5280000000000
      lesser = by₁ _ (λ a a'. simp ints (omega arith))

pub ready-by : {o : Offer} {ps : List Price} {q : ℕ → ℕ} → Good o → Rates ps → ((k : ℕ) → k < intervals → q k ≤ last_q o) → Ready o ps q
ready-by g r w = record { good = g; prices = r; within = w }

pub ready_of : (ps : List Price) (o : Offer) (qs : List Quantity) → Rates ps → offer_fault o ≡ 0 → within_ok qs (last_q o) ≡ true → Ready o ps (quantity_at qs)
ready_of ps o qs r g w = ready-by (good_of o g) r (within-at qs (last_q o) w)

-- an offer that is kept reaches what it reached
pub reaches : {g o : Offer} (qs : List Quantity) → g ≡ o → within_ok qs (last_q o) ≡ true → (k : ℕ) → k < intervals → quantity_at qs k ≤ last_q g
reaches {o = o} qs e w k l = let P : Offer → Type 0 = λ x. quantity_at qs k ≤ last_q x in subst P (sym e) (within-at qs (last_q o) w k l)

pub within-is : (o : Offer) (qs : List Quantity) {l : ℕ} {r t : Bool} → l ≡ last_q o → r ≡ within_ok qs l → r ≡ t → within_ok qs (last_q o) ≡ t
within-is o qs p q k = ap (λ (n : ℕ). within_ok qs n) (sym p) ∙ sym q ∙ k

-- the sum over the intervals, as a loop has it
abbrev pub interval-profit : Offer → List Price → (ℕ → ℕ) → ℕ → ℤ
interval-profit o ps q k = profit o (price_at ps k) (q k)

-- what the calls returned: price × q less the cost
pub profit-is : (o : Offer) (p : ℤ) (q : ℕ) {c v r : ℤ} → v ≡ p *ℤ pos q → c ≡ cost o q → r ≡ v -ℤ c → r ≡ profit o p q
profit-is o p q e f g = g ∙ (λ i. e i -ℤ f i)

module _ {o : Offer} {ps : List Price} {q : ℕ → ℕ} (ready : Ready o ps q) where
  pub profit-room : (k : ℕ) → k < intervals → {d : ℤ} → d ≡ profit o (price_at ps k) (q k) → Moderate d
  profit-room k l e = rw e (omega (arith, profit-size o ps q ready k l))

  pub profits-room : {sum : ℤ} {k : ℕ} → Summed intervals (interval-profit o ps q) sum k → Moderate sum
  profits-room {k = k} u = rw u.so_far (omega (arith, some_size o ps q ready k u.upto))

pub profits-all : (o : Offer) (ps : List Price) (q : ℕ → ℕ) {sum : ℤ} {k : ℕ} → Summed intervals (interval-profit o ps q) sum k → intervals ≤ k
    → sum ≡ profits o ps q
unfolding profits
profits-all o ps q u h = summed-all u h

-- an interval of a walk over both lists: its quantity lies within the offer, and it adds its profit
module _ (o : Offer) {ps : List Price} {qs : List Quantity} (full : length ps ≡ intervals) (same : length qs ≡ intervals) {sum : ℤ} {xs us : List Price}
    {ys vs : List Quantity} (w : Paired intervals (interval-profit o ps (quantity_at qs)) ps qs sum xs ys) {p : Price} (ex : xs ≡ p ∷ us) {q : Quantity}
    (ey : ys ≡ q ∷ vs) where
  pub turn-within : ((k : ℕ) → k < intervals → quantity_at qs k ≤ last_q o) → q.0 ≤ last_q o
  turn-within h = rw (second-is w full same ex ey no_quantity) (h w.upto (paired-in w full same ex ey))

  turn-profit : profit o p.0 q.0 ≡ interval-profit o ps (quantity_at qs) w.upto
  turn-profit =
      ap (λ (x : Price). profit o x.0 q.0) (first-is w full same ex ey no_price)
      ∙ ap (λ (x : Quantity). profit o (price_at ps w.upto) x.0) (second-is w full same ex ey no_quantity)

  pub turn-room : Ready o ps (quantity_at qs) → {d : ℤ} → d ≡ profit o p.0 q.0 → Moderate d
  turn-room r e = profit-room r w.upto (paired-in w full same ex ey) (e ∙ turn-profit)

  pub turn-more : {d r : ℤ} → d ≡ profit o p.0 q.0 → r ≡ sum +ℤ d
      → Paired intervals (interval-profit o ps (quantity_at qs)) ps qs r us vs
  turn-more e g = paired-more w full same ex ey g (e ∙ turn-profit)

pub credit-room : {o : Offer} {ps : List Price} {q : ℕ → ℕ} → Ready o ps q → {x : ℤ} → x ≡ credit o ps q → Moderate x
credit-room {o = o} {ps = ps} {q = q} r e = rw e (omega (arith, credit-size o ps q r))

pub credit-ext : (o : Offer) (ps : List Price) (q q' : ℕ → ℕ) → ((k : ℕ) → k < intervals → q k ≡ q' k) → credit o ps q ≡ credit o ps q'
unfolding profits
credit-ext o ps q q' h = ap (λ (z : ℤ). neg_ℤ (minℤ (pos 0) z)) (Σℤ-ext intervals _ _ (λ k l. ap (λ (x : ℕ). profit o (price_at ps k) x) (h k l)))

-- a credit that no check refuses
pub credit-given : (o : Offer) (ps : List Price) (qs : List Quantity) → prices_ok ps ≡ true → quantities_ok qs ≡ true → offer_fault o ≡ 0
    → within_ok qs (last_q o) ≡ true
    → credit_answer o ps qs ≡ Amount (record { 0 = credit o ps (quantity_at qs) })
unfolding credit_answer
credit-given o ps qs a b c d = ap (λ (n : ℕ). answer n (credit o ps (quantity_at qs))) none
  where
    none : unless (prices_ok ps) 5 (unless (quantities_ok qs) 5 (or_else (offer_fault o) (unless (within_ok qs (last_q o)) 7 0))) ≡ 0
    none = rw (a, b, c, d)
