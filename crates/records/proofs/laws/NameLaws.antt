-- Names: what the written spelling reads as, and what a name that was read holds.
use Rattle.std.specs.Prelude.{◌≡◌, refl, List, [], ◌∷◌, ◌++◌, Bool, true, false, cond, ℕ, zero, suc, ◌+◌, ◌*◌, ◌-◌, ◌/◌, ◌%◌, ◌≤◌, ◌<◌, ltb, leb, eqb, length, take, get_or}
use Rattle.std.proofs.Common.{sym, ap, ◌∙◌, append_assoc, append-nil, true≢false, arith, not-suc-le-zero, le_of_suc-le-suc, add-one, length-append, take-suc, lt-ltb, le-leb, ltb-true, ltb-false, ne_eqb, leb-true}
use Rattle.std.proofs.Math.Bool.{and-false}
use Rattle.std.proofs.Math.Seq.{take-append_seam, drop-append_seam}
use Rattle.std.proofs.lemmas.Bool.{lt-leb}
use Rattle.money.specs.Refusals.{name_fault}
use Rattle.money.specs.Names.{name_ok}
use Rattle.money.specs.declared.names.Name.{Name}
use Rattle.records.specs.Reading.{got, ◌>>=◌, check, byte, some}
use Rattle.records.specs.Numbers.{between, pad}
use Rattle.records.specs.Names.{name_field, name_from, bytes_of, visible, hex_val, escaped, one, up_to, decode_name, spell, spell_byte, unreserved, digit}
use Rattle.records.specs.Changes.{fine, fault}
use Rattle.records.specs.Answers.{spelling_of}
use Rattle.records.proofs.laws.ReaderLaws.{check-got, bind-got, bad-got}

pub spell-append : (xs ys : List ℕ) → spell (xs ++ ys) ≡ spell xs ++ spell ys
unfolding spell
spell-append [] ys = refl
spell-append (x ∷ xs) ys = rw (spell-append xs ys, append_assoc)

pub spell-more : (xs : List ℕ) (i : ℕ) → i < length xs → spell (take (i + 1) xs) ≡ spell (take i xs) ++ spell_byte (get_or xs i 0)
unfolding spell
spell-more xs i h = rw (add-one, take-suc xs i 0 h, spell-append (take i xs) (get_or xs i 0 ∷ []), append-nil)

pub spell_byte-length : (x : ℕ) → length (spell_byte x) ≤ 3
unfolding spell_byte
spell_byte-length x = go (unreserved x)
  where
    go : (b : Bool) → length (cond b (x ∷ []) (37 ∷ digit (x / 16) ∷ digit (x % 16) ∷ [])) ≤ 3
    go true = omega arith
    go false = omega arith

pub hex_val-digit : (n : ℕ) → n < 16 → hex_val (digit n) ≡ n
unfolding hex_val digit
hex_val-digit n h = go (ltb n 10) refl
  where
    go : (b : Bool) → ltb n 10 ≡ b → hex_val (digit n) ≡ n
    go true e =
        let l : n < 10 = ltb-true n 10 e in
        simp (e, le-leb 48 (48 + n) (omega arith), le-leb (48 + n) 57 (omega arith)) (omega arith)
    go false e =
        let l : 10 ≤ n = ltb-false n 10 e in
        let d = 65 + (n - 10) in
        simp (e, le-leb 48 d (omega arith), lt-leb d 57 (omega arith), le-leb 65 d (omega arith), le-leb d 70 (omega arith)) (omega arith)

unreserved-percent : (x : ℕ) → unreserved x ≡ true → x ≡ 37 → ⊥
unfolding unreserved
unreserved-percent x u e = true≢false (sym u ∙ ap unreserved e)

visible-below : (x : ℕ) → visible x ≡ true → x < 256
unfolding visible
visible-below x v = go (leb x 126) refl
  where
    go : (b : Bool) → leb x 126 ≡ b → x < 256
    go true e = omega (arith, leb-true x 126 e)
    go false e = absurd (true≢false (sym v ∙ rw (e, and-false)))

pub one-spelled : (x : ℕ) (t : List ℕ) → visible x ≡ true → one (spell_byte x ++ t) ≡ got x t
unfolding one spell_byte escaped
one-spelled x t v = go (unreserved x) refl
  where
    go : (b : Bool) → unreserved x ≡ b → one (spell_byte x ++ t) ≡ got x t
    go true e = rw (e, ne_eqb x 37 (unreserved-percent x e), v)
    go false e =
        let l : x < 256 = visible-below x v in
        let d : 16 * (x / 16) + x % 16 ≡ x = omega arith in
        rw (
          e,
          hex_val-digit (x / 16) (omega arith),
          hex_val-digit (x % 16) (omega arith),
          lt-ltb (x / 16) 16 (omega arith),
          lt-ltb (x % 16) 16 (omega arith),
          d,
          v,
        )

-- every byte of a list is one that a name may hold
abbrev pub Visible : List ℕ → Type 0
Visible [] = Unit
Visible (x ∷ xs) = (visible x ≡ true) × Visible xs

cons-spelled : (x : ℕ) (t : List ℕ) (n : ℕ) → visible x ≡ true → up_to (suc n) (spell_byte x ++ t) ≡ (up_to n t >>= λ vs u. got (x ∷ vs) u)
unfolding up_to spell_byte
cons-spelled x t n v = go (unreserved x) refl (one-spelled x t v)
  where
    go : (b : Bool) → unreserved x ≡ b → one (spell_byte x ++ t) ≡ got x t → up_to (suc n) (spell_byte x ++ t) ≡ (up_to n t >>= λ vs u. got (x ∷ vs) u)
    go true e f = rw (e, rw e at f)
    go false e f = rw (e, rw e at f)

up_to-spelled : (n : ℕ) (xs : List ℕ) → length xs ≤ n → Visible xs → up_to n (spell xs) ≡ got xs []
unfolding spell up_to
up_to-spelled zero [] h v = refl
up_to-spelled zero (x ∷ xs) h v = absurd (not-suc-le-zero h)
up_to-spelled (suc n) [] h v = refl
up_to-spelled (suc n) (x ∷ xs) h v = cons-spelled x (spell xs) n v.0 ∙ rw (up_to-spelled n xs (le_of_suc-le-suc h) v.1)

spell-least : (x : ℕ) → 1 ≤ length (spell_byte x)
unfolding spell_byte
spell-least x = go (unreserved x)
  where
    go : (b : Bool) → 1 ≤ length (cond b (x ∷ []) (37 ∷ digit (x / 16) ∷ digit (x % 16) ∷ []))
    go true = omega arith
    go false = omega arith

pub spell-length : (xs : List ℕ) → length (spell xs) ≤ 3 * length xs
unfolding spell
spell-length [] = omega arith
spell-length (x ∷ xs) = rw length-append (omega (arith, spell_byte-length x, spell-length xs))

pub name_back : (x : ℕ) (xs : List ℕ) → length (x ∷ xs) ≤ 12 → Visible (x ∷ xs) → decode_name (spell (x ∷ xs)) ≡ got (x ∷ xs) []
unfolding decode_name spell
name_back x xs h v =
    let l : 1 ≤ length (spell_byte x ++ spell xs) = rw length-append (omega (arith, spell-least x)) in
    let m : length (spell_byte x ++ spell xs) ≤ 36 = rw length-append (omega (arith, spell_byte-length x, spell-length xs)) in
    rw (le-leb 1 (length (spell_byte x ++ spell xs)) l, le-leb (length (spell_byte x ++ spell xs)) 36 m) (up_to-spelled 12 (x ∷ xs) h v)

escaped-visible : (s : List ℕ) (v : ℕ) (t : List ℕ) → escaped s ≡ got v t → visible v ≡ true
unfolding escaped
escaped-visible [] v t e = absurd (bad-got e)
escaped-visible (h ∷ []) v t e = absurd (bad-got e)
escaped-visible (h ∷ l ∷ s) v t e =
    let x = 16 * hex_val h + hex_val l in
    let r = check (visible x) 4 (got x s) in
    let a = check-got (ltb (hex_val h) 16) 4 (check (ltb (hex_val l) 16) 4 r) v t e in
    let b = check-got (ltb (hex_val l) 16) 4 r v t a.1 in
    let d = check-got (visible x) 4 (got x s) v t b.1 in
    let f : got x s ≡ got v t = d.1 in
    let q : x ≡ v = cc in
    rw (← q) d.0

one-visible : (s : List ℕ) (v : ℕ) (t : List ℕ) → one s ≡ got v t → visible v ≡ true
unfolding one
one-visible [] v t e = absurd (bad-got e)
one-visible (x ∷ s) v t e = go (eqb x 37) e
  where
    go : (b : Bool) → cond b (escaped s) (check (visible x) 4 (got x s)) ≡ got v t → visible v ≡ true
    go true f = escaped-visible s v t f
    go false f =
        let a = check-got (visible x) 4 (got x s) v t f in
        let g : got x s ≡ got v t = a.1 in
        let q : x ≡ v = cc in
        rw (← q) a.0

up_to-valid : (n : ℕ) (s vs t : List ℕ) → up_to n s ≡ got vs t → (length vs ≤ n) × Visible vs
unfolding up_to
up_to-valid zero [] vs t e = let q : [] ≡ vs = cc in rw (← q) (omega arith, tt)
up_to-valid zero (x ∷ s) vs t e = absurd (bad-got e)
up_to-valid (suc n) [] vs t e = let q : [] ≡ vs = cc in rw (← q) (omega arith, tt)
up_to-valid (suc n) (x ∷ s) vs t e =
    let a = bind-got (one (x ∷ s)) (λ v t. up_to n t >>= λ vs u. got (v ∷ vs) u) vs t e in
    let b = bind-got (up_to n a.1) (λ ws u. got (a.0 ∷ ws) u) vs t a.3 in
    let f : got (a.0 ∷ b.0) b.1 ≡ got vs t = b.3 in
    let q : a.0 ∷ b.0 ≡ vs = cc in
    let r = up_to-valid n a.1 b.0 b.1 b.2 in
    rw (← q) (omega (arith, r.0), (one-visible (x ∷ s) a.0 a.1 a.2, r.1))

pub decode-valid : (s vs t : List ℕ) → decode_name s ≡ got vs t → (length vs ≤ 12) × Visible vs
unfolding decode_name
decode-valid s vs t e = up_to-valid 12 s vs t (check-got (between 1 36 (length s)) 4 (up_to 12 s) vs t e).1

pub take-pad : {A : Type 0} (z : A) (k : ℕ) (xs : List A) → length xs ≤ k → take (length xs) (pad z k xs) ≡ xs
take-pad z zero [] h = refl
take-pad z zero (x ∷ xs) h = absurd (not-suc-le-zero h)
take-pad z (suc k) [] h = refl
take-pad z (suc k) (x ∷ xs) h = ap (λ l. x ∷ l) (take-pad z k xs (le_of_suc-le-suc h))

up_to-one : (n : ℕ) (x : ℕ) (s v t : List ℕ) → up_to (suc n) (x ∷ s) ≡ got v t → 1 ≤ length v
unfolding up_to
up_to-one n x s v t e =
    let a = bind-got (one (x ∷ s)) (λ v t. up_to n t >>= λ vs u. got (v ∷ vs) u) v t e in
    let b = bind-got (up_to n a.1) (λ ws u. got (a.0 ∷ ws) u) v t a.3 in
    let q : a.0 ∷ b.0 ≡ v = cc b.3 in
    rw (← q) (omega arith)

decode-one : (s v t : List ℕ) → decode_name s ≡ got v t → 1 ≤ length v
unfolding decode_name
decode-one [] v t e = absurd (bad-got e)
decode-one (x ∷ s) v t e = up_to-one 11 x s v t (check-got (between 1 36 (length (x ∷ s))) 4 (up_to 12 (x ∷ s)) v t e).1

spelled : (v : List ℕ) → 1 ≤ length v → length v ≤ 12 → Visible v → decode_name (spell v) ≡ got v []
spelled [] h l w = absurd (not-suc-le-zero h)
spelled (x ∷ v) h l w = name_back x v l w

some-again : (xs t : List ℕ) → some (length xs) (xs ++ t) ≡ got xs t
unfolding some
some-again xs t =
    rw (le-leb (length xs) (length (xs ++ t)) (rw length-append (omega arith)), take-append_seam xs t, drop-append_seam xs t)

decoded-length : (s v t : List ℕ) → decode_name s ≡ got v t → between 1 36 (length s) ≡ true
unfolding decode_name
decoded-length s v t e = (check-got (between 1 36 (length s)) 4 (up_to 12 s) v t e).0

pub field-again : (v : List ℕ) → decode_name (spell v) ≡ got v [] → (u : List ℕ) → name_field (length (spell v) ∷ (spell v ++ u)) ≡ got v u
unfolding name_field byte
field-again v e u =
    rw (decoded-length (spell v) v [] e, some-again (spell v) u, e)

-- a name that was read: its canonical spelling decodes to it
pub record Spelled (v : List ℕ) : Type 0 where
  pub few : length v ≤ 12
  pub back : decode_name (spell v) ≡ got v []

pub field-spelled : (s v t : List ℕ) → name_field s ≡ got v t → Spelled v
unfolding name_field
field-spelled s v t e =
    let x = bind-got (byte s) (λ n t. check (between 1 36 n) 4 (some n t >>= λ bs u. decode_name bs >>= λ vs z. got vs u)) v t e in
    let y = check-got (between 1 36 x.0) 4 (some x.0 x.1 >>= λ bs u. decode_name bs >>= λ vs z. got vs u) v t x.3 in
    let z = bind-got (some x.0 x.1) (λ bs u. decode_name bs >>= λ vs z. got vs u) v t y.1 in
    let w = bind-got (decode_name z.0) (λ vs q. got vs z.1) v t z.3 in
    let p : w.0 ≡ v = cc w.3 in
    let f : decode_name z.0 ≡ got v w.1 = w.2 ∙ ap (λ l. got l w.1) p in
    let d = decode-valid z.0 v w.1 f in
    record { few = d.0; back = spelled v (decode-one z.0 v w.1 f) d.0 d.1 }

-- ---- the theorems

-- a name that 01 allows: "1 to 12 bytes, each 0x21 to 0x7E"
pub record Valid (v : List ℕ) : Type 0 where
  pub some : 1 ≤ length v
  pub few : length v ≤ 12
  pub seen : Visible v

-- what decoding gives is one
pub decoded-valid : (s v t : List ℕ) → decode_name s ≡ got v t → Valid v
decoded-valid s v t e = let d = decode-valid s v t e in record { some = decode-one s v t e; few = d.0; seen = d.1 }

-- decoding the written spelling gives the name back, for every name
pub spelled_back : (v : List ℕ) → Valid v → decode_name (spell v) ≡ got v []
spelled_back v h = spelled v h.some h.few h.seen

-- the written spelling is at most 36 bytes
pub spelled-short : (v : List ℕ) → length v ≤ 12 → length (spell v) ≤ 36
spelled-short v h = omega (arith, spell-length v)

-- two spellings are one name, as a key holds it, exactly when their decoded bytes are the same
pub one_name : (s a t u b v : List ℕ) → decode_name s ≡ got a t → decode_name u ≡ got b v → (name_from a ≡ name_from b → a ≡ b) × (a ≡ b → name_from a ≡ name_from b)
one_name s a t u b v e f =
    let p = decoded-valid s a t e in
    let q = decoded-valid u b v f in
    (λ h. sym (take-pad 0 12 a p.few) ∙ ap bytes_of h ∙ take-pad 0 12 b q.few, λ h. ap name_from h)

-- a name that keeps its rule is written in full
pub spelling-full : (n : Name) → name_ok n ≡ true → spelling_of n ≡ fine (record { items = spell (bytes_of n) })
unfolding spelling_of
spelling-full n h = rw h

-- another has no spelling
pub spelling-none : (n : Name) → name_ok n ≡ false → spelling_of n ≡ fault name_fault
unfolding spelling_of
spelling-none n h = rw h
