-- Readers at a place of a list.
use Rattle.std.proofs.Common.{◌≡◌, refl, sym, ap, ◌∙◌, List, [], ◌∷◌, ◌++◌, ℕ, suc, ◌+◌, ◌-◌, ◌≤◌, ◌<◌, arith, add-one, length, take, drop, get_or, set, length-drop, drop-cons, take-suc-set, take_all, drop_of_length-le, append_assoc, append-nil}
use Rattle.std.proofs.Math.Numerals.{towards_suc}
use Rattle.records.specs.Reading.{Res, Reader, bad, got, ◌>>=◌, byte, from, many}
use Rattle.records.specs.Numbers.{word, le32}

word-short : (l : List ℕ) → length l < 4 → word l ≡ bad 1
unfolding word
word-short [] h = refl
word-short (a ∷ []) h = refl
word-short (a ∷ b ∷ []) h = refl
word-short (a ∷ b ∷ c ∷ []) h = refl
word-short (a ∷ b ∷ c ∷ d ∷ l) h = absurd (omega arith)

pub word-ends : (s : List ℕ) (at : ℕ) → length s - at < 4 → word (from s at) ≡ bad 1
unfolding from
word-ends s at h = word-short (drop at s) (rw length-drop h)

pub byte_past : (s : List ℕ) (at : ℕ) → length s ≤ at → byte (from s at) ≡ bad 1
unfolding from byte
byte_past s at h = rw (drop_of_length-le s {i = at} h)

pub byte_at : (s : List ℕ) (at : ℕ) → at < length s → byte (from s at) ≡ got (get_or s at 0) (from s (at + 1))
unfolding from byte
byte_at s at h = rw (add-one, drop-cons s at 0 h)

pub word_at : (s : List ℕ) (at : ℕ) → at ≤ length s → 4 ≤ length s - at
    → word (from s at) ≡ got (le32 (get_or s at 0) (get_or s (at + 1) 0) (get_or s (at + 2) 0) (get_or s (at + 3) 0)) (from s (at + 4))
unfolding from word
word_at s at h k =
    simp towards_suc
    (rw (
      drop-cons s at 0 (omega arith),
      drop-cons s (suc at) 0 (omega arith),
      drop-cons s (suc (suc at)) 0 (omega arith),
      drop-cons s (suc (suc (suc at))) 0
          (omega arith),
    ))

-- values already read, in front of what is still to be read
abbrev pub before : {A : Type 0} → List A → Res (List A) → Res (List A)
before vs r = r >>= λ ws t. got (vs ++ ws) t

pub before-before : {A : Type 0} (vs : List A) (v : A) (r : Res (List A)) → before vs (r >>= λ ws t. got (v ∷ ws) t) ≡ before (vs ++ (v ∷ [])) r
before-before vs v (bad k) = refl
before-before vs v (got ws t) = ap (λ l. got l t) (sym (append_assoc vs (v ∷ []) ws))

pub before-none : {A : Type 0} (r : Res (List A)) → before [] r ≡ r
before-none (bad k) = refl
before-none (got ws t) = refl

-- a loop that reads n values into an array xs: when the first i are in and the place is at, what is left is n - i of them
pub record Filled {A : Type 0} (f : Reader A) (s : List ℕ) (n at₀ : ℕ) (xs : List A) (i at : ℕ) : Type 0 where
  pub so_far : many n f (from s at₀) ≡ before (take i xs) (many (n - i) f (from s at))

module _ {A : Type 0} {f : Reader A} {s : List ℕ} where
  pub filled_more : {n at₀ i at at₁ : ℕ} {xs : List A} {v : A} → Filled f s n at₀ xs i at → i < n → i < length xs
      → f (from s at) ≡ got v (from s at₁) → Filled f s n at₀ (set xs i v) (i + 1) at₁
  unfolding many
  filled_more {n} {at₀} {i} {at} {at₁} {xs} {v} h l k e =
      let d : n - i ≡ suc (n - (i + 1)) = omega arith in
      record { so_far = h.so_far ∙ rw (d, e, add-one, take-suc-set xs i v k) (before-before (take i xs) v (many (n - suc i) f (from s at₁))) }

  pub filled-bad : {n at₀ i at k : ℕ} {xs : List A} → Filled f s n at₀ xs i at → i < n → f (from s at) ≡ bad k → bad k ≡ many n f (from s at₀)
  unfolding many
  filled-bad {n} {at₀} {i} {at} {k} {xs} h l e =
      let d : n - i ≡ suc (n - (i + 1)) = omega arith in
      sym (h.so_far ∙ rw (d, e))

  pub filled-all : {n at₀ i at : ℕ} {xs : List A} → Filled f s n at₀ xs i at → i ≤ n → n ≤ i → length xs ≡ n → got xs (from s at) ≡ many n f (from s at₀)
  unfolding many
  filled-all {n} {at₀} {i} {at} {xs} h l m e =
      let d : n - i ≡ 0 = omega arith in
      let z : length xs ≤ i = omega arith in
      sym (h.so_far ∙ rw (d, append-nil, take_all i xs z))

  -- of a longer array, the first n
  pub filled-first : {n at₀ i at : ℕ} {xs : List A} → Filled f s n at₀ xs i at → i ≤ n → n ≤ i → got (take n xs) (from s at) ≡ many n f (from s at₀)
  unfolding many
  filled-first {n} {at₀} {i} {at} {xs} h l m =
      let d : n - i ≡ 0 = omega arith in
      let e : i ≡ n = omega arith in
      sym (h.so_far ∙ rw (d, append-nil, e))
