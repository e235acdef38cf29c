-- Demand 2: the formulas of 01, each written out on the right-hand side of an equation. Proved in `FormulaLaws.antt`.
-- The letters are those of the definitions: P, Q and `before` (Q of the pair before) of an offer in `money/specs/Offers.antt`, `mqsi` and `entry` of a list of imports in `Offset.antt`,
-- D, R, U, A, K of a unit's hour and S of a reserve in `Production.antt`. Pairs, imports and intervals are counted from 0; `Σℤ n f` is the sum of f i over i < n.
use Rattle.std.specs.Prelude.{ℕ, ◌+◌, ◌-◌, ◌*◌, min, max, ◌≡◌, List, [], ◌∷◌, true, false, cond, ◌||◌, ℤ, pos, negsuc, neg_ℤ, ◌+ℤ◌, ◌-ℤ◌, ◌*ℤ◌, leb, ltb}
use Rattle.std.specs.Int.Signed.{lt_z}
use Rattle.laws.specs.Ints.{minℤ, maxℤ}
use Rattle.laws.specs.Sums.{Σℤ, Σℕ}
use Rattle.money.specs.Units.{price_at, intervals}
use Rattle.money.specs.Offers.{P, Q, before, cost}
use Rattle.money.specs.Names.{same_name}
use Rattle.money.specs.Offset.{mqsi, precedes, up_to, adj}
use Rattle.money.specs.Production.{D, R, U, A, K, S, C1, C2, C3, C4}
use Rattle.money.specs.declared.units.Price.{Price}
use Rattle.money.specs.declared.offers.Offer.{Offer}
use Rattle.money.specs.declared.production.Reserve.{Reserve}
use Rattle.money.specs.declared.production.UnitHour.{UnitHour}
use Rattle.money.specs.declared.failure.Failure.{Failure}
use Rattle.money.specs.Failure.{day_ahead_quantity, pre_dispatch_quantity, day_ahead_price, pre_dispatch_price}
use Rattle.records.specs.Views.{import_of}
use Rattle.records.specs.Amounts.{charge_ticks_for}
use Rattle.book.specs.Layer.{Rec, HourPrices, Quantity, Import, Fi, Fe, quantity_at, entry, offset, credit_ticks, unit_hour_of, export_of, reversal, decoded_bytes, name_before}
use Rattle.book.specs.Amounts.{is, priced, exported, hour_ticks}

-- ---- the letters that 01 sets by themselves

-- max(0, x), as a quantity
abbrev pub max0 : ℤ → ℕ
max0 (pos n) = n
max0 (negsuc n) = 0

-- "the pairs with Q_i <= Q": how many these are, as Q rises
abbrev pub full : Offer → ℕ → ℕ
full o q = Σℕ o.count (λ (i : ℕ). cond (leb (Q o i) q) 1 0)

-- "(Q - Q_s) × P_(s+1) for the part pair": the one behind s full ones, if there is one
abbrev pub part : Offer → ℕ → ℕ → ℤ
part o q s = cond (ltb s o.count) (P o s *ℤ pos (q - before o s)) (pos 0)

-- "-min(0, sum of OP over 12 intervals)" with "Profit OP = EMP × Q - C(Q)", q k being the quantity in interval k
abbrev pub credit_over : Offer → List Price → (ℕ → ℕ) → ℤ
credit_over o emp q = neg_ℤ (minℤ (pos 0) (Σℤ intervals (λ (k : ℕ). price_at emp k *ℤ pos (q k) -ℤ cost o (q k))))

-- "price × q - cost(q)" of a reserve in interval k
abbrev pub net : Reserve → ℕ → ℕ → ℤ
net s k q = price_at s.prices k *ℤ pos q -ℤ cost s.offer q

-- ---- the formulas

-- "the formulas of the market rules as 01 sets them out"
pub record Formulas : Type 0 where
  -- "Cost C(Q) is the sum of P_i × (Q_i - Q_(i-1)) over the pairs with Q_i <= Q, with Q_0 = 0, plus (Q - Q_s) × P_(s+1) for the part pair, s being the last full pair"
  pub costs : (o : Offer) (q : ℕ)
      → cost o q ≡ Σℤ o.count (λ (i : ℕ). cond (leb (Q o i) q) (P o i *ℤ pos (Q o i - before o i)) (pos 0)) +ℤ part o q (full o q)
  -- "An import's credit for an hour is -min(0, sum of OP over 12 intervals)"
  pub credit : (r : Rec) (p : HourPrices) → credit_ticks r p ≡ credit_over (import_of r).offer p.emp (quantity_at (import_of r).mqsi)
  -- "Order: credit ascending, then decoded name in byte order, a prefix first"
  pub order : (a b : Import)
      → precedes a b ≡ cond (lt_z a.credit.0 b.credit.0) true
      (cond (lt_z b.credit.0 a.credit.0) false (name_before (decoded_bytes a.name) (decoded_bytes b.name)))
  -- "up to and including it": names stand once in an hour
  pub including : (a b : Import) → up_to a b ≡ (precedes a b || same_name a.name b.name)
  -- "In each interval, adj of an import = min(MQSI, max(0, sum of MQSI up to and including it - sum of all MQSW))"
  pub adjusted : (n : ℕ) (es : List Import) (ts : List Quantity) (i k : ℕ)
      → adj n es ts i k ≡ min (mqsi (entry es i) k)
      (max0 (pos (Σℕ n (λ (j : ℕ). cond (up_to (entry es j) (entry es i)) (mqsi (entry es j) k) 0)) -ℤ pos (quantity_at ts k)))
  -- "sum of all MQSW" of some exports in interval k
  pub exports : (r : Rec) (rs : List Rec) (k : ℕ) → (exported [] k ≡ 0) × (exported (r ∷ rs) k ≡ quantity_at (export_of r).mqsw k + exported rs k)
  -- "Offset = sum of credits - sum of credits worked again with adj"
  pub offsets : (n : ℕ) (es : List Import) (emp : List Price) (ts : List Quantity)
      → offset n es emp ts ≡ Σℤ n (λ (i : ℕ). (entry es i).credit.0) -ℤ Σℤ n (λ (i : ℕ). credit_over (entry es i).offer emp (adj n es ts i))
  -- "m = min(D, R, A)"; "C1 = DA(m) - EMP × m, plus speed no-load (cents per hour) × 10 ticks where m > 0"
  pub component1 : (h : UnitHour) (emp : List Price) (k m : ℕ) → m ≡ min (D h k) (min (R h k) (A h k))
      → C1 h emp k ≡ cost h.aheadoffer m -ℤ price_at emp k *ℤ pos m +ℤ cond (ltb 0 m) (pos (h.noload.0 * 10)) (pos 0)
  -- "C2, with b = min(D, K) and a = min(b, max(R, A)) = (DA(b) - DA(a)) - (RT(b) - RT(a))"
  pub component2 : (h : UnitHour) (emp : List Price) (k a b : ℕ) → b ≡ min (D h k) (K h k) → a ≡ min b (max (R h k) (A h k))
      → C2 h emp k ≡ (cost h.aheadoffer b -ℤ cost h.aheadoffer a) -ℤ (cost h.realoffer b -ℤ cost h.realoffer a)
  -- "C3, with b = min(R, D) and a = min(U, D) = RT(b) - RT(a) - EMP × (b - a)"
  pub component3 : (h : UnitHour) (emp : List Price) (k a b : ℕ) → b ≡ min (R h k) (D h k) → a ≡ min (U h k) (D h k)
      → C3 h emp k ≡ cost h.realoffer b -ℤ cost h.realoffer a -ℤ price_at emp k *ℤ (pos b -ℤ pos a)
  -- "C4: q1 = max(0, min(D - U, S1)), q2 = max(0, min(D - U - S1, S2)), q3 = max(0, min(D - U - S1 - S2, S3)) ..; the sum of price × q - cost(q)"
  pub component4 : (h : UnitHour) (emp : List Price) (k q1 q2 q3 : ℕ)
      → q1 ≡ max0 (minℤ (pos (D h k) -ℤ pos (U h k)) (pos (S h.spinning k)))
      → q2 ≡ max0 (minℤ (pos (D h k) -ℤ pos (U h k) -ℤ pos (S h.spinning k)) (pos (S h.nonspinning k)))
      → q3 ≡ max0 (minℤ (pos (D h k) -ℤ pos (U h k) -ℤ pos (S h.spinning k) -ℤ pos (S h.nonspinning k)) (pos (S h.thirty k)))
      → C4 h emp k ≡ net h.spinning k q1 +ℤ net h.nonspinning k q2 +ℤ net h.thirty k q3
  -- an hour of "C1 + C2 - C3 - C4 over all its intervals, plus its start-up amounts (120 ticks a cent)"
  pub unit-hour : (r : Rec) (p : HourPrices)
      → hour_ticks (is r) (priced p)
      ≡ Σℤ intervals (λ (k : ℕ). C1 (unit_hour_of r) p.emp k +ℤ C2 (unit_hour_of r) p.emp k -ℤ C3 (unit_hour_of r) p.emp k -ℤ C4 (unit_hour_of r) p.emp k)
      +ℤ pos ((unit_hour_of r).startup.0 * 120)
  -- "The reversal is max(0, -total)"
  pub reversed : (total : ℤ) → reversal total ≡ maxℤ (pos 0) (neg_ℤ total)
  -- "dev = max(0, day-ahead quantity - pre-dispatch quantity)";
  -- "Import: min(max(0, PD market price - DA offer), max(0, PD offer - DA offer)) × dev × 12 ticks"
  pub import-charge : (f : Failure) (p : HourPrices) (dev : ℕ) → dev ≡ max0 (pos (day_ahead_quantity f) -ℤ pos (pre_dispatch_quantity f))
      → charge_ticks_for Fi f p ≡ minℤ (maxℤ (pos 0) (p.pd.0 -ℤ day_ahead_price f)) (maxℤ (pos 0) (pre_dispatch_price f -ℤ day_ahead_price f))
      *ℤ pos dev *ℤ pos 12
  -- "Export: the same with (DA bid - PD market price) and (DA bid - PD bid)"
  pub export-charge : (f : Failure) (p : HourPrices) (dev : ℕ) → dev ≡ max0 (pos (day_ahead_quantity f) -ℤ pos (pre_dispatch_quantity f))
      → charge_ticks_for Fe f p ≡ minℤ (maxℤ (pos 0) (day_ahead_price f -ℤ p.pd.0)) (maxℤ (pos 0) (day_ahead_price f -ℤ pre_dispatch_price f))
      *ℤ pos dev *ℤ pos 12
