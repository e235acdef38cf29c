-- Lists of imports, what their checks tell, and the loops over them. Assumes nothing.
use Rattle.std.specs.Prelude.{◌≡◌, refl, Bool, true, false, cond, not, List, ℕ, ◌+◌, ◌-◌, ◌≤◌, ◌<◌, min, ℤ, nat_abs, ◌-ℤ◌, get_or}
use Rattle.std.proofs.Common.{ap, ◌∙◌, zero-le, arith, le-leb}
use Rattle.laws.specs.IntLaws.{sub_within}
use Rattle.laws.specs.Sums.{Σℕ, or_else}
use Rattle.laws.specs.SumLaws.{Summed, summed-all, Σℕ-more, Σℤ-sub, Σℤ-within, Σℕ-within, every-at, every-yes, and-true, first_of-zero, first_of-none}
use Rattle.money.specs.declared.units.Price.{Price}
use Rattle.money.specs.declared.units.Quantity.{Quantity}
use Rattle.money.specs.Answers.{Amount, Refused}
use Rattle.money.specs.declared.imports.Import.{Import}
use Rattle.money.specs.Units.{intervals, no_price, no_quantity, quantity_at, series_of, price_ok, prices_ok, quantities_ok, within_ok, sameℤ, unless, answer}
use Rattle.money.specs.Offers.{last_q, offer_fault}
use Rattle.money.specs.Guarantee.{credit}
use Rattle.money.specs.Names.{name_ok, same_name}
use Rattle.money.specs.Offset.{max_total, max_imports, entry, mqsi, up_to, counted, adj, offset, entry_fault, fresh_name, nth_fault, entries_fault, total_ok, totals_with, rate_ok, rates_ok, offset_answer}
use Rattle.money.specs.tables.Numbers.{Moderate, Fits}
use Rattle.money.specs.tables.Ready.{Rates, Ready, Sound, Listed}
use Rattle.money.proofs.laws.UnitLaws.{price-in, passes, neither, same-is, same_true, series-same}
use Rattle.money.proofs.laws.OfferLaws.{last-size}
use Rattle.money.proofs.laws.GuaranteeLaws.{ready_of, credit-size, credit-ext}

-- ---- the sum up to and including import i
pub counted-size : (a e : Import) (k : ℕ) → Sound a → k < intervals → counted a e k ≤ 100000
unfolding counted
counted-size a e k s l = go (up_to a e)
  where
    go : (t : Bool) → cond t (mqsi a k) 0 ≤ 100000
    go true = omega (arith, s.within k l, last-size a.offer s.good)
    go false = omega arith

-- what an import adds, by the test
pub counted-yes : (a e : Import) (k : ℕ) → up_to a e ≡ true → counted a e k ≡ mqsi a k
unfolding counted
counted-yes a e k h = rw h

pub counted-no : (a e : Import) (k : ℕ) → up_to a e ≡ false → counted a e k ≡ 0
unfolding counted
counted-no a e k h = rw h

-- twelve sums, after j imports
pub record Reached (n : ℕ) (es : List Import) (e : Import) (sums : List Quantity) (j : ℕ) : Type 0 where
  pub upto : j ≤ n
  pub so_far : (k : ℕ) → k < intervals → quantity_at sums k ≡ Σℕ j (λ a. counted (entry es a) e k)

pub reached-none : (n : ℕ) (es : List Import) (e : Import) (sums : List Quantity) → ((k : ℕ) → k < intervals → quantity_at sums k ≡ 0) → Reached n es e sums 0
unfolding Σℕ
reached-none n es e sums h = record { upto = zero-le; so_far = h }

module _ {n : ℕ} {es : List Import} {e : Import} {sums : List Quantity} {j : ℕ} (r : Reached n es e sums j) (l : j < n) where
  pub reached-room : Listed n es → (k : ℕ) → k < intervals → Fits (quantity_at sums k + mqsi (entry es j) k)
  reached-room s k m =
      omega (
        arith,
        r.so_far k m,
        s.most,
        (s.each j l).within k m,
        last-size (entry es j).offer (s.each j l).good,
        Σℕ-within 100000 j (λ a. counted (entry es a) e k) (λ a h. counted-size (entry es a) e k (s.each a (omega arith)) m),
      )

  pub reached-more : {series : List Quantity} → ((k : ℕ) → k < intervals → quantity_at series k ≡ quantity_at sums k + counted (entry es j) e k)
      → Reached n es e series (j + 1)
  reached-more g = record { upto = omega arith; so_far = λ k m. omega (arith, g k m, r.so_far k m, Σℕ-more j (λ a. counted (entry es a) e k)) }

pub reached-all : {n : ℕ} {es : List Import} {e : Import} {sums : List Quantity} {j : ℕ} → Reached n es e sums j → n ≤ j → (k : ℕ) → k < intervals
    → quantity_at sums k ≡ Σℕ n (λ a. counted (entry es a) e k)
reached-all {n = n} {es = es} {e = e} {j = j} r h k m = let eq : j ≡ n = omega (arith, r.upto) in
    r.so_far k m ∙ ap (λ (b : ℕ). Σℕ b (λ a. counted (entry es a) e k)) eq

-- ---- the offset
-- what import i gives
abbrev pub gives : ℕ → List Import → List Price → List Quantity → ℕ → ℤ
gives n es ps ts i = (entry es i).credit.0 -ℤ credit (entry es i).offer ps (adj n es ts i)

-- the adjusted quantities of an import that stands in the list
abbrev pub adj_of : ℕ → List Import → List Quantity → Import → ℕ → ℕ
adj_of n es ts e k = min (mqsi e k) (Σℕ n (λ j. counted (entry es j) e k) - quantity_at ts k)

module _ (ps : List Price) (ts : List Quantity) {n : ℕ} {es : List Import} (s : Listed n es) (rates : Rates ps) where
  pub adj-ready : {q : ℕ → ℕ} {i : ℕ} {e : Import} → i < n → e ≡ entry es i → ((k : ℕ) → k < intervals → q k ≡ adj_of n es ts e k) → Ready e.offer ps q
  adj-ready {q = q} {i = i} l at h =
      let r : (k : ℕ) → k < intervals → q k ≡ adj_of n es ts (entry es i) k = rw (← at) h in
      rw at (record { good = (s.each i l).good; prices = rates; within = λ k m. omega (arith, r k m, (s.each i l).within k m) })

  pub gives_size : (i : ℕ) → i < n → nat_abs (gives n es ps ts i) ≤ 10560000000000
  gives_size i l = sub_within (entry es i).credit.0 (credit (entry es i).offer ps (adj n es ts i)) (s.each i l).small
      (credit-size _ _ _ (adj-ready {q = adj n es ts i} {i = i} l refl (λ k m. refl)))

  module _ {sum : ℤ} {i : ℕ} (r : Summed n (gives n es ps ts) sum i) where
    pub offsets-room : Moderate sum
    offsets-room = rw r.so_far
        (omega (arith, r.upto, s.most, Σℤ-within 10560000000000 i (gives n es ps ts) (λ j h. gives_size j (omega (arith, r.upto)))))

    module _ {q : ℕ → ℕ} {x d : ℤ} {e : Import} (l : i < n) (at : e ≡ entry es i) (series : (k : ℕ) → k < intervals → q k ≡ adj_of n es ts e k)
        (worked : x ≡ credit e.offer ps q) (g : d ≡ e.credit.0 -ℤ x) where
      pub gives-is : d ≡ gives n es ps ts i
      gives-is = g ∙ ap (λ (z : ℤ). e.credit.0 -ℤ z) (worked ∙ credit-ext e.offer ps q (adj_of n es ts e) series)
          ∙ ap (λ (a : Import). a.credit.0 -ℤ credit a.offer ps (adj_of n es ts a)) at

      pub gives-room : Moderate d
      gives-room = rw gives-is (omega (arith, gives_size i l))

pub offsets-all : (n : ℕ) (es : List Import) (ps : List Price) (ts : List Quantity) {sum : ℤ} {i : ℕ} → Summed n (gives n es ps ts) sum i → n ≤ i
    → sum ≡ offset n es ps ts
unfolding offset
offsets-all n es ps ts r h = summed-all r h ∙ Σℤ-sub n (λ j. (entry es j).credit.0) (λ j. credit (entry es j).offer ps (adj n es ts j))

-- ---- what the checks tell
pub sound-of : (ps : List Price) (e : Import) → Rates ps → entry_fault ps e ≡ 0 → Sound e
unfolding entry_fault
sound-of ps e r h =
    let a = passes (name_ok e.name) 3 _ h in
    let b = passes (quantities_ok e.quantities) 4 _ a.1 in
    let c = neither (offer_fault e.offer) _ b.1 in
    let d = passes (within_ok e.quantities (last_q e.offer)) 6 _ c.1 in
    let f = passes (sameℤ e.credit.0 (credit e.offer ps (mqsi e))) 4 0 d.1 in
    let y = ready_of ps e.offer e.quantities r c.0 d.0 in
    record { good = y.good; within = y.within; small = rw (same-is e.credit.0 (credit e.offer ps (mqsi e)) f.0) (credit-size _ _ _ y) }

pub listed_of : (n : ℕ) (ps : List Price) (es : List Import) → n ≤ max_imports → Rates ps → entries_fault n ps es ≡ 0 → Listed n es
unfolding entries_fault nth_fault
listed_of n ps es m r h = record { most = m; each = λ i l. sound-of ps (entry es i) r (neither _ _ (first_of-zero n (nth_fault ps es) h i l)).0 }

pub rates-of : (ps : List Price) (ts : List Quantity) → rates_ok ps ts ≡ true → Rates ps
unfolding rates_ok
rates-of ps ts h = λ k l. price-in (get_or ps k no_price)
    (and-true (price_ok (get_or ps k no_price)) (total_ok (get_or ts k no_quantity)) (every-at intervals (rate_ok ps ts) h k l)).0

-- ---- totals, and a list that no check refuses
-- a series more, where no total comes to more than it may
pub totals-more : (ts ms : List Quantity) (f : ℕ → ℕ) → ((k : ℕ) → k < intervals → quantity_at ts k ≡ f k)
    → ((k : ℕ) → k < intervals → f k + quantity_at ms k ≤ max_total)
    → totals_with ts ms ≡ series_of 0 intervals (λ (k : ℕ). f k + quantity_at ms k)
unfolding totals_with
totals-more ts ms f h m =
    series-same intervals (λ (k : ℕ). min (quantity_at ts k + quantity_at ms k) (max_total + 1)) (λ (k : ℕ). f k + quantity_at ms k)
    (λ k l. omega (arith, h k l, m k l))

pub rates-ok : (ps : List Price) (ts : List Quantity) → prices_ok ps ≡ true → ((k : ℕ) → k < intervals → quantity_at ts k ≤ max_total) → rates_ok ps ts ≡ true
unfolding rates_ok prices_ok
rates-ok ps ts h m = every-yes intervals (rate_ok ps ts)
    (λ k l. rw (every-at intervals (λ k. price_ok (get_or ps k no_price)) h k l, le-leb (quantity_at ts k) max_total (m k l)))

-- an entry of which each part is in order
pub entry-fine : (ps : List Price) (e : Import) → name_ok e.name ≡ true → quantities_ok e.quantities ≡ true → offer_fault e.offer ≡ 0
    → within_ok e.quantities (last_q e.offer) ≡ true → e.credit.0 ≡ credit e.offer ps (mqsi e) → entry_fault ps e ≡ 0
unfolding entry_fault
entry-fine ps e a b c d f = rw (a, b, c, d, same_true e.credit.0 (credit e.offer ps (mqsi e)) f)

-- entries in order, each of its own name
pub offset-amount : (n : ℕ) (es : List Import) (ps : List Price) (ts : List Quantity) → n ≤ max_imports → rates_ok ps ts ≡ true
    → ((i : ℕ) → i < n → entry_fault ps (entry es i) ≡ 0)
    → ((i j : ℕ) → i < n → j < i → same_name (entry es i).name (entry es j).name ≡ false)
    → offset_answer n es ps ts ≡ Amount (record { 0 = offset n es ps ts })
unfolding offset_answer entries_fault nth_fault fresh_name
offset-amount n es ps ts m r h d =
    let fresh : (i : ℕ) → i < n → fresh_name es i ≡ true
    = λ i l. every-yes i (λ j. not (same_name (entry es i).name (entry es j).name)) (λ j k. ap not (d i j l k)) in
    let none : entries_fault n ps es ≡ 0
    = first_of-none n (nth_fault ps es) (λ i l. (λ x. or_else (h i l x) (unless (fresh i l x) 10 0))) in
    (λ x. cond (le-leb n max_imports m x) (cond (r x) (answer (none x) (offset n es ps ts)) (Refused 5)) (Refused 12))
