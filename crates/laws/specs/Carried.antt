-- What a signed local of the machine holds. Code on signed numbers reads back what it wrote, `to_z w (of_z w z)`, which is z where z fits the width.
-- `Carried m z B` says that the machine's m is the number z, of magnitude at most B. Sums, differences and products of carried numbers are carried.
-- That one fits an `i64` is `B < 2 ^ 63`: `lit< tt` or `omega arith`.
-- std has no name for `hbits`, the bits of a width below its sign.
-- Assumes nothing.
use Rattle.std.specs.Prelude.{◌≡◌, refl, Bool, ℕ, ◌+◌, ◌*◌, ◌^◌, ◌≤◌, ◌<◌, T, ℤ, pos, negsuc, neg_ℤ, nat_abs, ◌+ℤ◌, ◌-ℤ◌, ◌*ℤ◌, ◌≤ℤ◌}
use Rattle.std.proofs.Common.{sym, ap, ◌∙◌, subst, le_refl, lt_of_le_of_lt, arith, Fits, SFits, to_z, of_z, to_z-of_z}
use Rattle.std.proofs.Math.IntN.{+ℤ_idl}
use Rattle.std.specs.Int.Signed.{mag, lt_z, le_z, non_neg, yes_non_neg}
use Rattle.std.specs.Int.{Width, w32, w64}
use mir.Val.{hbits}
use Rattle.std.proofs.Math.Facts.{to_z_pos, Fits-nat_abs}
use Rattle.laws.specs.IntLaws.{add-within, sub_within, mul-within, abs_neg}

mag-le : (z : ℤ) → mag z ≤ nat_abs z
mag-le (pos n) = le_refl n
mag-le (negsuc n) = omega arith

pub sfits-lt : {w : Width} (z : ℤ) → nat_abs z < 2 ^ hbits w → SFits w z
sfits-lt z h = record { sfits = lt_of_le_of_lt (mag-le z) h }

pub record Carried (m z : ℤ) (B : ℕ) : Type 0 where
  pub same : m ≡ z
  pub within : nat_abs z ≤ B

-- the bound, of what the machine has
pub size : {m z : ℤ} {B : ℕ} → Carried m z B → nat_abs m ≤ B
size {B = B} k = subst (λ (y : ℤ). nat_abs y ≤ B) (sym k.same) k.within

-- ---- where numbers come from
-- a number as it is: a literal, an element of an array before it is read, a loop's variable, `to_z w64 sum`
pub num : (z : ℤ) {B : ℕ} → nat_abs z ≤ B → Carried z z B
num z h = record { same = refl; within = h }

pub lit : (z : ℤ) → Carried z z (nat_abs z)
lit z = num z (le_refl (nat_abs z))

-- a parameter or a call's result, with a bound and with none
pub carried : {w : Width} {z : ℤ} {B : ℕ} → SFits w z → nat_abs z ≤ B → Carried (to_z w (of_z w z)) z B
carried f h = record { same = to_z-of_z f; within = h }

pub plain : {w : Width} {z : ℤ} → SFits w z → Carried (to_z w (of_z w z)) z (nat_abs z)
plain {w} {z} f = carried f (le_refl (nat_abs z))

-- an `i32` and an `i64` by the bound alone
pub num32 : (z : ℤ) {B : ℕ} → nat_abs z ≤ B → B < 2 ^ 31 → Carried (to_z w32 (of_z w32 z)) z B
num32 z h t = carried {w = w32} (sfits-lt z (lt_of_le_of_lt h t)) h

pub num64 : (z : ℤ) {B : ℕ} → nat_abs z ≤ B → B < 2 ^ 63 → Carried (to_z w64 (of_z w64 z)) z B
num64 z h t = carried {w = w64} (sfits-lt z (lt_of_le_of_lt h t)) h

-- an unsigned number that was cast to an `i64`
pub nat : {n B : ℕ} → n ≤ B → B < 2 ^ 63 → Carried (to_z w64 n) (pos n) B
nat h t = record { same = to_z_pos w64 (lt_of_le_of_lt h t); within = h }

-- ---- what is asked of them
-- it fits an `i64`
pub fits : {m z : ℤ} {B : ℕ} → Carried m z B → B < 2 ^ 63 → SFits w64 m
fits {m} k t = sfits-lt m (lt_of_le_of_lt (size k) t)

-- it is stored in an `i64` and read back
pub back : {m z : ℤ} {B : ℕ} → Carried m z B → B < 2 ^ 63 → Carried (to_z w64 (of_z w64 m)) z B
back k t = record { same = to_z-of_z (fits k t) ∙ k.same; within = k.within }

module _ {m z m' z' : ℤ} {B B' : ℕ} (h : Carried m z B) (k : Carried m' z' B') where
  pub add : Carried (m +ℤ m') (z +ℤ z') (B + B')
  add = record { same = λ i. h.same i +ℤ k.same i; within = add-within z z' h.within k.within }

  pub sub : Carried (m -ℤ m') (z -ℤ z') (B + B')
  sub = record { same = λ i. h.same i -ℤ k.same i; within = sub_within z z' h.within k.within }

  pub mul : Carried (m *ℤ m') (z *ℤ z') (B * B')
  mul = record { same = λ i. h.same i *ℤ k.same i; within = mul-within z z' h.within k.within }

  -- the outcome of a test, of the numbers themselves
  pub test-lt : {t : Bool} → lt_z m m' ≡ t → lt_z z z' ≡ t
  test-lt e = (λ i. lt_z (sym h.same i) (sym k.same i)) ∙ e

  pub test-le : {t : Bool} → le_z m m' ≡ t → le_z z z' ≡ t
  test-le e = (λ i. le_z (sym h.same i) (sym k.same i)) ∙ e

-- `a == b` compares the bits
pub same_bits : {w : Width} {x y : ℤ} → SFits w x → SFits w y → of_z w x ≡ of_z w y → x ≡ y
same_bits {w} f g e = sym (to_z-of_z f) ∙ ap (to_z w) e ∙ to_z-of_z g

-- `-x` is lowered to `0 - x`
pub neg : {m z : ℤ} {B : ℕ} → Carried m z B → Carried (pos 0 -ℤ m) (neg_ℤ z) B
neg {m} {z} {B} k = record { same = (λ i. pos 0 -ℤ k.same i) ∙ +ℤ_idl (neg_ℤ z); within = subst (λ (n : ℕ). n ≤ B) (sym (abs_neg z)) k.within }

-- ---- casts
-- to `u64` of a number that is not negative
pub to-nat : {m z : ℤ} {B : ℕ} → Carried m z B → pos 0 ≤ℤ z → B < 2 ^ 64 → T (non_neg m) × Fits w64 (nat_abs m)
to-nat k p t = (subst (λ (y : ℤ). T (non_neg y)) (sym k.same) (yes_non_neg p), record { fits = lt_of_le_of_lt (size k) t })

-- the magnitude of what an `i64` holds
pub abs-fits : {z : ℤ} → SFits w64 z → nat_abs z < 2 ^ 64
abs-fits f = (Fits-nat_abs {w' = w64} tt f).fits
