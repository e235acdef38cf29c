-- The loop over the rows that gathers the names of a mark, each once.
use Rattle.std.proofs.Common.{Ordering, Less, Equal, Greater, ℕ, ◌+◌, ◌/◌, ◌≤◌, ◌<◌, ◌≡◌, refl, sym, ap, ap₂, ◌∙◌, subst, List, ◌∷◌, ◌++◌, Bool, true, false, cond, ◌&&◌, arith, length, take, drop, get_or, eqb, take_all}
use Rattle.std.specs.Ordering.{nat_cmp, is_lt, is_gt}
use Rattle.std.proofs.lemmas.Bool.Decides.{nat_tests}
use Rattle.std.specs.Cmp.Lexicographic.{slice_cmp}
use Rattle.std.proofs.lemmas.Cmp.{same_from_slice_cmp}
use Rattle.money.specs.Names.{decoded_bytes, name_before}
use Rattle.money.proofs.laws.NameLaws.{name-lt}
use Rattle.book.specs.Layer.{Key, Name, Change, key_of, key_order, same_key_mark}
use Rattle.book.specs.Register.{standing}
use Rattle.book.specs.ByName.{add_name, names_of}
use Rattle.book.specs.tables.Rows.{row_slot, row_live, row_place, Logged, key_at}
use Rattle.book.specs.laws.RegisterLaws.{valid-new}
use Rattle.book.specs.laws.GatherLaws.{mark_pass, mark-standing}
use Rattle.book.specs.laws.Inserting.{Sought, sought-here, sought-there, sought-on, sought-end}
use Rattle.book.proofs.log.rows.Lemmas.{Seen, and-turned, eqb-turned, and_left}
use Rattle.book.proofs.amounts.Passing.{turned, turned-seen, turned-key, Passed, passed-all, passed-next}
use Rattle.book.specs.declared.log.row.Row.{Row}
use Rattle.book.specs.tables.Rows.{no_row}

-- ---- the place of a name

-- two names, by what `cmp` answers
before-by : (a b : Name) {r : Ordering} → r ≡ slice_cmp nat_cmp (decoded_bytes a) (decoded_bytes b) → name_before (decoded_bytes a) (decoded_bytes b) ≡ is_lt r
before-by a b e = sym (name-lt a b) ∙ ap is_lt (sym e)

after-by : (a b : Name) {r : Ordering} → r ≡ slice_cmp nat_cmp (decoded_bytes a) (decoded_bytes b) → name_before (decoded_bytes b) (decoded_bytes a) ≡ is_gt r
unfolding name_before
after-by a b {r} e =
    sym (same_from_slice_cmp nat_cmp is_gt (λ xs ys. name_before ys xs) refl (λ _ _. refl) (λ _ _. refl)
    (λ x y xs ys o h. grind (arith, nat_tests)) (decoded_bytes a) (decoded_bytes b) r e)

module _ (a : Name) (ns : List Name) (i : ℕ) (h : Sought (add_name a) ns (length ns) i) where
  splits-at : ℕ → List Name → Type 0
  splits-at j xs = add_name a xs ≡ take j xs ++ (a ∷ drop j xs)

  whole : take (length ns) ns ≡ ns
  whole = take_all (length ns) ns (omega arith)

  module _ (d : Name) (lt : i < length ns) where
    abbrev pub next : Name
    next = get_or ns i d

    with-next : (xs : List Name) {p q : Bool} → name_before (decoded_bytes a) (decoded_bytes next) ≡ p → name_before (decoded_bytes next) (decoded_bytes a) ≡ q
        → add_name a (next ∷ xs) ≡ cond p (a ∷ next ∷ xs) (cond q (next ∷ add_name a xs) (next ∷ xs))
    unfolding add_name
    with-next xs e f = λ j. cond (e j) (a ∷ next ∷ xs) (cond (f j) (next ∷ add_name a xs) (next ∷ xs))

    pub name-here : Less ≡ slice_cmp nat_cmp (decoded_bytes a) (decoded_bytes next) → add_name a ns ≡ take i ns ++ (a ∷ drop i ns)
    unfolding splits-at
    name-here e =
        subst (splits-at i) whole (sought-here h d (omega arith) lt a
        (λ xs. with-next xs (before-by a next e) refl))

    pub name-there : Equal ≡ slice_cmp nat_cmp (decoded_bytes a) (decoded_bytes next) → add_name a ns ≡ ns
    name-there e =
        subst (λ (xs : List Name). add_name a xs ≡ xs) whole
        (sought-there h d (omega arith) lt (λ xs. with-next xs (before-by a next e) (after-by a next e)))

    pub name-on : Greater ≡ slice_cmp nat_cmp (decoded_bytes a) (decoded_bytes next) → Sought (add_name a) ns (length ns) (i + 1)
    name-on e = sought-on h d (omega arith) lt (λ xs. with-next xs (before-by a next e) (after-by a next e))

  pub name-end : length ns ≤ i → add_name a ns ≡ take (length ns) ns ++ (a ∷ drop (length ns) ns)
  unfolding add_name splits-at
  name-end out =
      let e : i ≡ length ns = omega (arith, h.inside) in
      subst (λ (j : ℕ). splits-at j ns) e (subst (splits-at i) whole (sought-end h a refl (omega arith) out))

-- ---- a row of a mark

abbrev pub of_mark : Row → ℕ → Bool
of_mark row mark = row_live row && eqb (row_slot row / 32) mark

-- a row that stands, of the mark
picked : {row : Row} {all : List Change} {q : ℕ} {c : Change} → Seen row all q c → (k : Key) (mark : ℕ) → mark ≡ key_order k.mark
    → (same_key_mark k (key_of c) && row_live row) ≡ of_mark row mark
picked {row} {c = c} s k mark e =
    let m : row_slot row / 32 ≡ key_order (key_of c).mark = omega (arith, s.slot, s.low) in
    and-turned (same_key_mark k (key_of c)) (row_live row)
    ∙ ap (λ (b : Bool). row_live row && b) (sym (ap₂ eqb m e ∙ eqb-turned (key_order (key_of c).mark) (key_order k.mark)))

-- ---- the loop over a mark

module _ (k : Key) {s : List ℕ} {rows : List Row} {i : ℕ} {ns : List Name} (h : Passed (mark_pass k) s rows i ns) where
  pub listed-end : length rows ≤ i → (l : List Change) → Logged s rows (length rows) l → ns ≡ names_of k (standing l)
  listed-end le l g = passed-all h le l g ∙ mark-standing k l (valid-new l g.ruled.valid)

  module _ (lt : i < length rows) {mark : ℕ} (em : mark ≡ key_order k.mark) where
    pub listed-with : of_mark (get_or rows i no_row) mark ≡ true → (name : Name) → name ≡ (key_at s (row_place (get_or rows i no_row))).name
        → Passed (mark_pass k) s rows (i + 1) (add_name name ns)
    listed-with t name en = passed-next h lt (add_name name ns) (λ l g.
        let row = get_or rows i no_row in
        let own = (key_of (turned lt g)).name in
        let w : name ≡ own = en ∙ ap (λ (y : Key). y.name) (turned-key lt g (and_left (row_live row) (eqb (row_slot row / 32) mark) t)) in
        ap (λ (n : Name). add_name n ns) w ∙ sym (ap (λ (b : Bool). cond b (add_name own ns) ns) (picked (turned-seen lt g) k mark em ∙ t)))

    pub listed-skip : of_mark (get_or rows i no_row) mark ≡ false → Passed (mark_pass k) s rows (i + 1) ns
    listed-skip t = passed-next h lt ns (λ l g.
        sym (ap (λ (b : Bool). cond b (add_name (key_of (turned lt g)).name ns) ns) (picked (turned-seen lt g) k mark em ∙ t)))
