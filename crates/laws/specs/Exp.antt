-- An expression of `i64`s as code computes it, for a proof to name: what it is in ℤ (`value`), what the machine computes (`raw`) and reads back
-- (`read`), a bound of its magnitude (`bound`), and what has to hold for all of it to fit (`Ok`), which `omega arith` proves.
-- A leaf has a number and a bound of its magnitude. `var` is a literal or a loop's variable, `to_z w64 x`; `i64` a parameter, an element or a call's
-- result; `i32` and `u32` such a one that is cast to `i64`; `got` any number that `Carried` knows, as a call's result by its `ensures`.
-- Assumes nothing.
use Rattle.std.specs.Prelude.{◌≡◌, ℕ, ◌+◌, ◌*◌, ◌^◌, ◌≤◌, ◌<◌, ℤ, pos, neg_ℤ, nat_abs, ◌+ℤ◌, ◌-ℤ◌, ◌*ℤ◌}
use Rattle.std.proofs.Common.{arith, SFits, to_z, of_z}
use Rattle.std.specs.Int.{w32, w64}
use Rattle.laws.specs.Carried as H
use Rattle.laws.specs.Carried.{Carried}

infixl 6 ◌⊕◌ ◌⊖◌
infixl 7 ◌⊗◌
pub data Exp : Type 0 where
  var i64 i32 : ℤ → ℕ → Exp
  u32 : ℕ → ℕ → Exp
  got : (m z : ℤ) (B : ℕ) → Carried m z B → Exp
  ◌⊕◌ ◌⊖◌ ◌⊗◌ : Exp → Exp → Exp
  neg : Exp → Exp

abbrev pub value : Exp → ℤ
value (var z B) = z
value (i64 z B) = z
value (i32 z B) = z
value (u32 n B) = pos n
value (got m z B h) = z
value (a ⊕ b) = value a +ℤ value b
value (a ⊖ b) = value a -ℤ value b
value (a ⊗ b) = value a *ℤ value b
value (neg a) = neg_ℤ (value a)

abbrev pub bound : Exp → ℕ
bound (var z B) = B
bound (i64 z B) = B
bound (i32 z B) = B
bound (u32 n B) = B
bound (got m z B h) = B
bound (a ⊕ b) = bound a + bound b
bound (a ⊖ b) = bound a + bound b
bound (a ⊗ b) = bound a * bound b
bound (neg a) = bound a

abbrev pub read : Exp → ℤ
read (var z B) = z
read (i64 z B) = to_z w64 (of_z w64 z)
read (i32 z B) = to_z w64 (of_z w64 (to_z w32 (of_z w32 z)))
read (u32 n B) = to_z w64 n
read (got m z B h) = m
read (a ⊕ b) = to_z w64 (of_z w64 (read a +ℤ read b))
read (a ⊖ b) = to_z w64 (of_z w64 (read a -ℤ read b))
read (a ⊗ b) = to_z w64 (of_z w64 (read a *ℤ read b))
read (neg a) = to_z w64 (of_z w64 (pos 0 -ℤ read a))

abbrev pub raw : Exp → ℤ
raw (var z B) = z
raw (i64 z B) = z
raw (i32 z B) = to_z w32 (of_z w32 z)
raw (u32 n B) = pos n
raw (got m z B h) = m
raw (a ⊕ b) = read a +ℤ read b
raw (a ⊖ b) = read a -ℤ read b
raw (a ⊗ b) = read a *ℤ read b
raw (neg a) = pos 0 -ℤ read a

abbrev pub Ok : Exp → Type 0
Ok (var z B) = (nat_abs z ≤ B) × (B < 2 ^ 63)
Ok (i64 z B) = (nat_abs z ≤ B) × (B < 2 ^ 63)
Ok (i32 z B) = (nat_abs z ≤ B) × (B < 2 ^ 31)
Ok (u32 n B) = (n ≤ B) × (B < 2 ^ 63)
Ok (got m z B h) = B < 2 ^ 63
Ok (a ⊕ b) = Ok a × Ok b × (bound a + bound b < 2 ^ 63)
Ok (a ⊖ b) = Ok a × Ok b × (bound a + bound b < 2 ^ 63)
Ok (a ⊗ b) = Ok a × Ok b × (bound a * bound b < 2 ^ 63)
Ok (neg a) = Ok a

small : (e : Exp) → Ok e → bound e < 2 ^ 63
small (var z B) k = k.1
small (i64 z B) k = k.1
small (i32 z B) k = let h = k.1 in omega arith
small (u32 n B) k = k.1
small (got m z B h) k = k
small (a ⊕ b) k = k.2
small (a ⊖ b) k = k.2
small (a ⊗ b) k = k.2
small (neg a) k = small a k

-- what is read back is the value, within the bound: `(carried e k).same : read e ≡ value e`
pub carried : (e : Exp) → Ok e → Carried (read e) (value e) (bound e)
carried (var z B) k = H.num z k.0
carried (i64 z B) k = H.num64 z k.0 k.1
carried (i32 z B) k = H.back (H.num32 z k.0 k.1) (small (i32 z B) k)
carried (u32 n B) k = H.nat k.0 k.1
carried (got m z B h) k = h
carried (a ⊕ b) k = H.back (H.add (carried a k.0) (carried b k.1)) k.2
carried (a ⊖ b) k = H.back (H.sub (carried a k.0) (carried b k.1)) k.2
carried (a ⊗ b) k = H.back (H.mul (carried a k.0) (carried b k.1)) k.2
carried (neg a) k = H.back (H.neg (carried a k)) (small a k)

pub raw_carried : (e : Exp) → Ok e → Carried (raw e) (value e) (bound e)
raw_carried (var z B) k = H.num z k.0
raw_carried (i64 z B) k = H.num z k.0
raw_carried (i32 z B) k = H.num32 z k.0 k.1
raw_carried (u32 n B) k = H.num (pos n) k.0
raw_carried (got m z B h) k = h
raw_carried (a ⊕ b) k = H.add (carried a k.0) (carried b k.1)
raw_carried (a ⊖ b) k = H.sub (carried a k.0) (carried b k.1)
raw_carried (a ⊗ b) k = H.mul (carried a k.0) (carried b k.1)
raw_carried (neg a) k = H.neg (carried a k)

pub fits : (e : Exp) → Ok e → SFits w64 (raw e)
fits e k = H.fits (raw_carried e k) (small e k)

pub same : (e : Exp) → Ok e → read e ≡ value e
same e k = (carried e k).same

pub size : (e : Exp) → Ok e → nat_abs (read e) ≤ bound e
size e k = H.size (carried e k)
