-- What the checks of a failure tell, and its charge by the tests that code makes. Assumes nothing.
use Rattle.std.specs.Prelude.{◌≡◌, Bool, ◌&&◌, true, ℕ, ◌-◌, ◌≤◌, ℤ, pos, nat_abs, ◌-ℤ◌, ◌*ℤ◌, ◌≤ℤ◌, ◌<ℤ◌}
use Rattle.std.proofs.Common.{sym, ap, ◌∙◌, arith, leb-true}
use Rattle.laws.specs.Ints.{minℤ, maxℤ}
use Rattle.laws.specs.IntLaws.{ints, dif, pos-dif, by₂}
use Rattle.laws.specs.SumLaws.{and-true}
use Rattle.money.specs.declared.units.Price.{Price}
use Rattle.money.specs.Answers.{Amount}
use Rattle.money.specs.declared.failure.Failure.{Failure}
use Rattle.money.specs.Units.{intervals, max_gap, price_ok, quantity_ok, unless, answer}
use Rattle.money.proofs.laws.UnitLaws.{price-in}
use Rattle.money.specs.Failure.{day_ahead_quantity, pre_dispatch_quantity, day_ahead_price, pre_dispatch_price, dev, charge, import_charge, export_charge, failure_ok, import_charge_answer, export_charge_answer}

-- a failure that passed its checks, and the hour's pre-dispatch price
pub record Sound (f : Failure) (pd : Price) : Type 0 where
  pub market : nat_abs pd.0 ≤ 200000
  pub day-ahead-quantity : day_ahead_quantity f ≤ 100000
  pub day-ahead-price : nat_abs (day_ahead_price f) ≤ 200000
  pub pre-dispatch-price : nat_abs (pre_dispatch_price f) ≤ 200000

pub sound-of : (f : Failure) (pd : Price) → failure_ok f pd ≡ true → Sound f pd
unfolding failure_ok
sound-of f pd e =
    let a = and-true (price_ok pd) _ e in
    let ahead = f.day_ahead_price in
    let later = f.pre_dispatch_price in
    let b = and-true (quantity_ok f.day_ahead_quantity) _ a.1 in
    let c = and-true (quantity_ok f.pre_dispatch_quantity) (price_ok ahead && price_ok later) b.1 in
    let d = and-true (price_ok ahead) (price_ok later) c.1 in
    record {
      market = price-in pd a.0;
      day-ahead-quantity = leb-true _ _ b.0;
      day-ahead-price = price-in ahead d.0;
      pre-dispatch-price = price-in later
          d.1;
    }

-- and the other way: parts in range pass
pub failure-fine : (f : Failure) (pd : Price) → price_ok pd ≡ true → quantity_ok f.day_ahead_quantity ≡ true → quantity_ok f.pre_dispatch_quantity ≡ true
    → price_ok f.day_ahead_price ≡ true → price_ok f.pre_dispatch_price ≡ true → failure_ok f pd ≡ true
unfolding failure_ok
failure-fine f pd a b c d e = rw (a, b, c, d, e)

module _ (f : Failure) (pd : Price) (ok : failure_ok f pd ≡ true) where
  pub import-charged : import_charge_answer f pd ≡ Amount (record { 0 = import_charge f pd })
  import-charged = ap (λ (b : Bool). answer (unless b 5 0) (import_charge f pd)) ok

  pub export-charged : export_charge_answer f pd ≡ Amount (record { 0 = export_charge f pd })
  export-charged = ap (λ (b : Bool). answer (unless b 5 0) (export_charge f pd)) ok

-- max(0, high - low)
pub gap-none : (high low : ℤ) → high <ℤ low → pos 0 ≡ maxℤ (pos 0) (high -ℤ low)
gap-none = by₂ _ (λ a a' b b'. simp ints (omega arith))

pub gap-some : (high low : ℤ) → low ≤ℤ high → high -ℤ low ≡ maxℤ (pos 0) (high -ℤ low)
gap-some = by₂ _ (λ a a' b b'. simp ints (omega arith))

gap_within : (high low : ℤ) → nat_abs high ≤ 200000 → nat_abs low ≤ 200000 → nat_abs (maxℤ (pos 0) (high -ℤ low)) ≤ max_gap
gap_within = by₂ _ (λ a a' b b'. simp ints (omega arith))

pub gap-size : (high low : ℤ) → nat_abs high ≤ 200000 → nat_abs low ≤ 200000 → {r : ℤ} → r ≡ maxℤ (pos 0) (high -ℤ low) → nat_abs r ≤ max_gap
gap-size high low h k e = rw e (gap_within high low h k)

pub lesser-size : (a b : ℤ) → nat_abs a ≤ max_gap → nat_abs b ≤ max_gap → {r : ℤ} → r ≡ minℤ a b → nat_abs r ≤ max_gap
lesser-size a b h k e = rw e (least a b h k)
  where
    least : (a b : ℤ) → nat_abs a ≤ max_gap → nat_abs b ≤ max_gap → nat_abs (minℤ a b) ≤ max_gap
    least = by₂ _ (λ a a' b b'. simp ints (omega arith))

-- what the calls returned: two differences, a quantity, and the charge
pub charge-is : (x y : ℤ) (n : ℕ) {a b r : ℤ} {m : ℕ} → a ≡ maxℤ (pos 0) x → b ≡ maxℤ (pos 0) y → m ≡ n → r ≡ minℤ a b *ℤ pos m *ℤ pos intervals → r ≡ charge x y n
unfolding charge
charge-is x y n e f k g = g ∙ (λ i. minℤ (e i) (f i) *ℤ pos (k i) *ℤ pos intervals)

-- dev as 01 writes it, over ℤ
dev-dif : (n m : ℕ) → dif (n - m) 0 ≡ maxℤ (dif 0 0) (dif n 0 -ℤ dif m 0)
dev-dif n m = simp ints (omega arith)

pub dev-is : (f : Failure) → pos (dev f) ≡ maxℤ (pos 0) (pos (day_ahead_quantity f) -ℤ pos (pre_dispatch_quantity f))
dev-is f =
    let a = day_ahead_quantity f in
    let b = pre_dispatch_quantity f in
    pos-dif _ ∙ dev-dif a b ∙ sym (λ i. maxℤ (pos-dif 0 i) (pos-dif a i -ℤ pos-dif b i))
