-- Names at a place of a list: one byte, plain or escaped, and a loop that decodes them.
use Rattle.records.proofs.fields.Step.{read_out}
use Rattle.std.proofs.Common.{◌≡◌, refl, sym, ap, ◌∙◌, List, [], ◌∷◌, Bool, true, false, cond, Some, None, ℕ, zero, suc, ◌+◌, ◌*◌, ◌-◌, ◌≤◌, ◌<◌, ltb, arith, le-leb, add-one, length, take, drop, get_or, set, append-nil, length-drop, drop_of_length-le, drop-cons, drop-drop, take-suc-set, length-take-le}
use Rattle.std.proofs.Math.Nat.{sub-zero, add-sub_cancel_left}
use Rattle.std.proofs.lemmas.Bool.{lt-leb}
use Rattle.std.specs.Char.{is_ascii_graphic}
use Rattle.money.specs.Refusals.{ends_early, name_fault}
use Rattle.money.specs.Names.{max_name}
use Rattle.money.specs.declared.names.Name.{Name}
use Rattle.records.specs.Reading.{Res, bad, got, ◌>>=◌, check, byte, some, from}
use Rattle.records.specs.Names.{max_spelling, hex_val, hex_digit, visible, escaped, one, up_to, decode_name, name_field, name_from, stored_name}
use Rattle.records.proofs.laws.ReaderLaws.{bad-got}
use Rattle.records.proofs.lists.Lemmas.{Padded}
use Rattle.records.proofs.fields.Lemmas.{before, before-before, before-none}

pub at-end : (s : List ℕ) (at : ℕ) → length s ≤ at → from s at ≡ []
unfolding from
at-end s at h = drop_of_length-le s {i = at} h

pub at_next : (s : List ℕ) (at : ℕ) → at < length s → from s at ≡ get_or s at 0 ∷ from s (at + 1)
unfolding from
at_next s at h = rw (add-one) (drop-cons s at 0 h)

at-two : (s : List ℕ) (at : ℕ) → at < length s → 2 ≤ length s - at → from s at ≡ get_or s at 0 ∷ get_or s (at + 1) 0 ∷ from s (at + 2)
at-two s at h k =
    let e : at + 1 + 1 ≡ at + 2 = omega arith in
    at_next s at h ∙ ap (λ (l : List ℕ). get_or s at 0 ∷ l) (at_next s (at + 1) (omega arith) ∙ ap (λ (n : ℕ). get_or s (at + 1) 0 ∷ from s n) e)

-- ---- an escaped byte

hex-none : (x : ℕ) → hex_digit x ≡ None → ltb (hex_val x) 16 ≡ false
hex-none x = go (ltb (hex_val x) 16)
  where
    go : (b : Bool) → cond b (Some (hex_val x)) None ≡ None → b ≡ false
    go true e = cc
    go false e = refl

hex-some : (x v : ℕ) → hex_digit x ≡ Some v → (ltb (hex_val x) 16 ≡ true) × (hex_val x ≡ v)
hex-some x v = go (ltb (hex_val x) 16)
  where
    go : (b : Bool) → cond b (Some (hex_val x)) None ≡ Some v → (b ≡ true) × (hex_val x ≡ v)
    go true e = (refl, cc)
    go false e = cc

escaped-early : (s : List ℕ) → length s < 2 → bad name_fault ≡ escaped s
unfolding escaped
escaped-early [] h = refl
escaped-early (a ∷ []) h = refl
escaped-early (a ∷ b ∷ s) h = absurd (omega arith)

module _ (s : List ℕ) (at : ℕ) where
  pub escaped-short : length s - at < 2 → bad name_fault ≡ escaped (from s at)
  unfolding from
  escaped-short h = escaped-early (drop at s) (rw length-drop h)

  pub escaped-high : 2 ≤ length s - at → hex_digit (get_or s at 0) ≡ None → bad name_fault ≡ escaped (from s at)
  unfolding escaped
  escaped-high h e = rw (at-two s at (omega arith) h, hex-none (get_or s at 0) e)

  module _ {high : ℕ} (h : 2 ≤ length s - at) (e : hex_digit (get_or s at 0) ≡ Some high) where
    pub escaped-low : hex_digit (get_or s (at + 1) 0) ≡ None → bad name_fault ≡ escaped (from s at)
    unfolding escaped
    escaped-low f = rw (at-two s at (omega arith) h, (hex-some (get_or s at 0) high e).0, hex-none (get_or s (at + 1) 0) f)

    module _ {low : ℕ} (f : hex_digit (get_or s (at + 1) 0) ≡ Some low) where
      both : {b : Bool} → is_ascii_graphic (16 * high + low) ≡ b → check b name_fault (got (16 * high + low) (from s (at + 2))) ≡ escaped (from s at)
      unfolding escaped visible
      both k =
          let p = hex-some (get_or s at 0) high e in
          let q = hex-some (get_or s (at + 1) 0) low f in
          rw (at-two s at (omega arith) h, p.0, p.1, q.0, q.1, k)

      pub escaped-seen : is_ascii_graphic (16 * high + low) ≡ true → got (16 * high + low) (from s (at + 2)) ≡ escaped (from s at)
      escaped-seen k = both k

      pub escaped-unseen : is_ascii_graphic (16 * high + low) ≡ false → bad name_fault ≡ escaped (from s at)
      escaped-unseen k = both k

-- ---- a loop over the bytes

up_to-nil : (n : ℕ) → up_to n [] ≡ got [] []
unfolding up_to
up_to-nil zero = refl
up_to-nil (suc n) = refl

-- a loop that reads up to n bytes into an array xs: i of them are in, and the place is at
pub record Spelled (s : List ℕ) (n at₀ : ℕ) (xs : List ℕ) (i at : ℕ) : Type 0 where
  pub so_far : up_to n (from s at₀) ≡ before (take i xs) (up_to (n - i) (from s at))

pub spelled_none : {s : List ℕ} {n at : ℕ} {xs : List ℕ} → Spelled s n at xs 0 at
spelled_none {s} {n} {at} {xs} = record { so_far = rw sub-zero (sym (before-none (up_to n (from s at)))) }

module _ {s : List ℕ} {n at₀ i at : ℕ} {xs : List ℕ} (h : Spelled s n at₀ xs i at) where
  pub spelled-more : {at₁ v : ℕ} → at < length s → i < n → i < length xs → one (from s at) ≡ got v (from s at₁) → Spelled s n at₀ (set xs i v) (i + 1) at₁
  unfolding up_to
  spelled-more {at₁} {v} a l k e =
      let d : n - i ≡ suc (n - (i + 1)) = omega arith in
      let f : one (get_or s at 0 ∷ from s (at + 1)) ≡ got v (from s at₁) = rw (← at_next s at a) e in
      record { so_far = h.so_far ∙ rw (d, at_next s at a, f, add-one, take-suc-set xs i v k) (before-before (take i xs) v (up_to (n - suc i) (from s at₁))) }

  pub spelled-bad : {k : ℕ} → at < length s → i < n → one (from s at) ≡ bad k → bad k ≡ up_to n (from s at₀)
  unfolding up_to
  spelled-bad {k} a l e =
      let d : n - i ≡ suc (n - (i + 1)) = omega arith in
      let f : one (get_or s at 0 ∷ from s (at + 1)) ≡ bad k = rw (← at_next s at a) e in
      sym (h.so_far ∙ rw (d, at_next s at a, f))

  pub spelled-full : at < length s → n ≤ i → bad 4 ≡ up_to n (from s at₀)
  unfolding up_to
  spelled-full a l =
      let d : n - i ≡ 0 = omega arith in
      sym (h.so_far ∙ rw (d, at_next s at a))

  spelled-all : length s ≤ at → got (take i xs) (from s at) ≡ up_to n (from s at₀)
  spelled-all a = sym (h.so_far ∙ rw (at-end s at a, up_to-nil (n - i), append-nil))

-- ---- the length of a spelling

pub decode-low : (s : List ℕ) → length s < 1 → bad name_fault ≡ decode_name s
unfolding decode_name
decode-low s h = rw (lt-leb 1 (length s) h)

pub decode-high : (s : List ℕ) → 1 ≤ length s → max_spelling < length s → bad name_fault ≡ decode_name s
unfolding decode_name
decode-high s h k = rw (le-leb 1 (length s) h, lt-leb (length s) max_spelling k)

pub decode-within : (s : List ℕ) → 1 ≤ length s → length s ≤ max_spelling → up_to max_name (from s 0) ≡ decode_name s
unfolding decode_name from
decode-within s h k = rw (le-leb 1 (length s) h, le-leb (length s) max_spelling k)

-- ---- names with zeros behind them

name-is : (xs : List ℕ) (i : ℕ) → i ≤ 12 → Padded 0 12 xs i → ◌≡◌ {A = Name} (record { len = i; bytes = xs }) (name_from (take i xs))
name-is xs i h p =
    let m = p.long in
    let l : length (take i xs) ≡ i = length-take-le i xs (omega arith) in
    λ j. record { len = sym l j; bytes = p.behind j }

pub name-all : {s : List ℕ} {n at₀ i at : ℕ} {xs : List ℕ} → Spelled s n at₀ xs i at → i ≤ 12 → Padded 0 12 xs i → length s ≤ at
    → got (record { len = i; bytes = xs }) (from s at) ≡ stored_name (up_to n (from s at₀))
name-all {s} {n} {at₀} {i} {at} {xs} h l p a = ap (λ m. got m (from s at)) (name-is xs i l p) ∙ ap stored_name (spelled-all h a)

-- ---- a length byte and as many bytes

-- a name that was decoded from a part of the bytes
stored-got : (r : Res (List ℕ)) (n : Name) (t u : List ℕ) → got n t ≡ stored_name r → got n u ≡ stored_name (r >>= λ vs z. got vs u)
stored-got (bad k) n t u e = absurd (bad-got (sym e))
stored-got (got v z) n t u e = let p : n ≡ name_from v = cc in ap (λ x. got x u) p

stored-bad : (r : Res (List ℕ)) (j : ℕ) (u : List ℕ) → bad j ≡ stored_name r → bad j ≡ stored_name (r >>= λ vs z. got vs u)
stored-bad (bad k) j u e = e
stored-bad (got v z) j u e = absurd (bad-got e)

some-short : (s : List ℕ) (at n : ℕ) → length s - at < n → some n (from s at) ≡ bad ends_early
unfolding some from
some-short s at n h = rw (length-drop at s, lt-leb n (length s - at) h)

some_at : (s : List ℕ) (at n : ℕ) → n ≤ length s - at → some n (from s at) ≡ got (take (at + n - at) (drop at s)) (from s (at + n))
unfolding some from
some_at s at n h = rw (length-drop at s, le-leb n (length s - at) h, add-sub_cancel_left at n, drop-drop n at s)

module _ (s : List ℕ) (at : ℕ) where
  pub field-early : {k : ℕ} → bad k ≡ byte (from s at) → bad k ≡ stored_name (name_field (from s at))
  unfolding name_field
  field-early e = rw (sym e)

  module _ (n first : ℕ) (e : got n (from s first) ≡ byte (from s at)) where
    pub field-low : n < 1 → bad name_fault ≡ stored_name (name_field (from s at))
    unfolding name_field
    field-low h = rw (sym e, lt-leb 1 n h)

    pub field-high : 1 ≤ n → max_spelling < n → bad name_fault ≡ stored_name (name_field (from s at))
    unfolding name_field
    field-high h k = rw (sym e, le-leb 1 n h, lt-leb n max_spelling k)

    module _ (h : 1 ≤ n) (k : n ≤ max_spelling) where
      pub field-short : length s - first < n → bad ends_early ≡ stored_name (name_field (from s at))
      unfolding name_field
      field-short l = rw (sym e, le-leb 1 n h, le-leb n max_spelling k, some-short s first n l)

      -- the part that the code lends is written by its end
      field-some : n ≤ length s - first
          → stored_name (decode_name (take (first + n - first) (drop first s)) >>= λ vs z. got vs (from s (first + n))) ≡ stored_name (name_field (from s at))
      unfolding name_field
      field-some l = rw (sym e, le-leb 1 n h, le-leb n max_spelling k, some_at s first n l)

      pub field-got : n ≤ length s - first → {v : Name} {t : List ℕ} → got v t ≡ stored_name (decode_name (take (first + n - first) (drop first s)))
          → got v (from s (first + n)) ≡ stored_name (name_field (from s at))
      field-got l {v} {t} f = stored-got _ v t (from s (first + n)) f ∙ field-some l

      pub field-bad : n ≤ length s - first → {j : ℕ} → bad j ≡ stored_name (decode_name (take (first + n - first) (drop first s))) → bad j ≡ stored_name (name_field (from s at))
      field-bad l {j} f = stored-bad _ j (from s (first + n)) f ∙ field-some l

-- ---- for `escaped_at`, `name_at` and `decode`

pub ruleset escapes = (escaped-short, escaped-high, escaped-low, escaped-seen, escaped-unseen, read_out)

pub ruleset fields = (field-early, field-got, field-bad, read_out)

pub ruleset decodes = (decode-low, decode-high, decode-within, spelled-full, spelled-bad, name-all, read_out)
