-- The mark at a place of some bytes, and the head of a change, by the tests that the code makes.
use Rattle.std.proofs.Common.{◌≡◌, refl, sym, ap, ◌∙◌, List, [], ◌∷◌, Bool, true, false, cond, ◌&&◌, ℕ, suc, ◌+◌, ◌-◌, ◌≤◌, ◌<◌, eqb, arith, add-one, length, take, drop, get_or, drop-cons, length-drop, drop-drop, take_all, drop_of_length-le, eq-eqb, ne_eqb, eqb-true}
use Rattle.std.proofs.lemmas.Bool.{eqb-false}
use Rattle.std.specs.Cmp.Lexicographic.{pointwise}
use Rattle.money.specs.Refusals.{ends_early, mark_unknown}
use Rattle.records.specs.Reading.{Res, bad, got, from}
use Rattle.records.specs.Marks.{mark_bytes, is, listing, mark_among, mark}
use Rattle.records.specs.Changes.{inside, head, lead_bytes, begins}
use Rattle.records.proofs.laws.MarkLaws.{two_bytes}
use Rattle.records.specs.declared.marks.Mark.{Mark}
use Rattle.records.specs.declared.marks.Mark.TheVariants.{Pr}
use Rattle.records.specs.declared.marks.Kind.TheVariants.{File, Correct, Withdraw}
use Rattle.records.specs.declared.marks.Wanted.{Wanted}

-- what the slice's own test says
pub begins-pointwise : (xs s : List ℕ) → pointwise eqb xs (take (length xs) s) ≡ begins xs s
begins-pointwise [] s = refl
begins-pointwise (x ∷ xs) [] = refl
begins-pointwise (x ∷ xs) (y ∷ s) = ap (λ b. eqb x y && b) (begins-pointwise xs s)

-- ---- two bytes are a mark's

turned : (a x : ℕ) → eqb a x ≡ eqb x a
turned a x = go (eqb a x) refl
  where
    go : (b : Bool) → eqb a x ≡ b → b ≡ eqb x a
    go true e = sym (eq-eqb x a (sym (eqb-true a x e)))
    go false e = sym (ne_eqb x a (λ h. eqb-false a x e (sym h)))

and_one : (a b : Bool) → (a && b) ≡ (a && (b && true))
and_one true true = refl
and_one true false = refl
and_one false b = refl

pub is-lead : (x y a b : ℕ) (s : List ℕ) → is (x ∷ y ∷ []) a b ≡ begins (x ∷ y ∷ []) (a ∷ b ∷ s)
is-lead x y a b s = (λ i. turned a x i && turned b y i) ∙ and_one (eqb x a) (eqb y b)

is-begins : (m : Mark) (a b : ℕ) (s : List ℕ) → is (mark_bytes m) a b ≡ begins (mark_bytes m) (a ∷ b ∷ s)
is-begins m a b s =
    ap (λ l. is l a b) (two_bytes m) ∙ is-lead (get_or (mark_bytes m) 0 0) (get_or (mark_bytes m) 1 0) a b s ∙ sym
    (ap (λ l. begins l (a ∷ b ∷ s)) (two_bytes m))

mark-early : (s : List ℕ) → length s < 2 → bad ends_early ≡ mark s
unfolding mark
mark-early [] h = refl
mark-early (a ∷ []) h = refl
mark-early (a ∷ b ∷ s) h = absurd (omega arith)

pub mark-short : (s : List ℕ) (at : ℕ) → length s - at < 2 → bad ends_early ≡ mark (from s at)
unfolding from
mark-short s at h = mark-early (drop at s) (rw length-drop h)

-- ---- the mark of the first bytes, looked for in a list of marks

abbrev pub among : List Mark → List ℕ → Res Mark
among ms s = mark_among ms (get_or s 0 0) (get_or s 1 0) (drop 2 s)

mark-among : (s : List ℕ) → 2 ≤ length s → mark s ≡ among listing s
unfolding mark mark_among
mark-among [] h = absurd (omega arith)
mark-among (a ∷ []) h = absurd (omega arith)
mark-among (a ∷ b ∷ s) h = refl

found : (m : Mark) (ms : List Mark) (a b : ℕ) (s : List ℕ) (q : Bool) → begins (mark_bytes m) (a ∷ b ∷ s) ≡ q
    → among (m ∷ ms) (a ∷ b ∷ s) ≡ cond q (got m s) (among ms (a ∷ b ∷ s))
unfolding mark_among
found m ms a b s q h = ap (λ (x : Bool). cond x (got m s) (among ms (a ∷ b ∷ s))) (is-begins m a b s ∙ h)

among_next : (ms : List Mark) (i : ℕ) (m : Mark) (s : List ℕ) (q : Bool) → i < length ms → m ≡ get_or ms i Pr → 2 ≤ length s → begins (mark_bytes m) s ≡ q
    → among (drop i ms) s ≡ cond q (got m (drop 2 s)) (among (drop (i + 1) ms) s)
among_next ms i m [] q l e h k = absurd (omega arith)
among_next ms i m (a ∷ []) q l e h k = absurd (omega arith)
among_next ms i m (a ∷ b ∷ s) q l e h k =
    rw add-one
    (ap (λ (l : List Mark). among l (a ∷ b ∷ s)) (drop-cons ms i Pr l ∙ ap (λ (x : Mark). x ∷ drop (suc i) ms) (sym e)) ∙ found m (drop (suc i) ms) a b s q k)

among_none : (ms : List Mark) (i : ℕ) (s : List ℕ) → length ms ≤ i → bad mark_unknown ≡ among (drop i ms) s
unfolding mark_among
among_none ms i s h = sym (ap (λ (l : List Mark). among l s) (drop_of_length-le ms {i = i} h))

-- the same of the bytes at a place, by the tests of a list that is the listing
module _ (s : List ℕ) (at : ℕ) where
  two-there : 2 ≤ length s - at → 2 ≤ length (from s at)
  unfolding from
  two-there h = rw length-drop h

  pub mark-first : 2 ≤ length s - at → mark (from s at) ≡ among listing (from s at)
  mark-first h = mark-among (from s at) (two-there h)

  pub mark_next : (q : Bool) → 2 ≤ length s - at → {ms : List Mark} → ms ≡ listing → {i : ℕ} → i < 6 → {xs : List ℕ} → xs ≡ mark_bytes (get_or ms i Pr) → {b : Bool}
      → b ≡ begins xs (take (length s - at) (drop at s)) → b ≡ q
      → among (drop i listing) (from s at) ≡ cond q (got (get_or ms i Pr) (from s (at + 2))) (among (drop (i + 1) listing) (from s at))
  unfolding from
  mark_next q h {ms = ms} e {i = i} l x k z =
      let f : begins (mark_bytes (get_or ms i Pr)) (drop at s) ≡ q = ap (λ (l : List ℕ). begins (mark_bytes (get_or ms i Pr)) l) (sym (take_all (length s - at) (drop at s)
      (rw length-drop (omega arith)))) ∙ ap (λ (l : List ℕ). begins l (take (length s - at) (drop at s))) (sym x) ∙ sym k ∙ z in
      among_next listing i (get_or ms i Pr) (drop at s) q l (ap (λ (l : List Mark). get_or l i Pr) e) (two-there h) f
      ∙ ap (λ (l : List ℕ). cond q (got (get_or ms i Pr) l) (among (drop (i + 1) listing) (drop at s))) (drop-drop 2 at s)

  pub mark_none : {i : ℕ} → 6 ≤ i → bad mark_unknown ≡ among (drop i listing) (from s at)
  mark_none {i = i} h = among_none listing i (from s at) h

-- for `mark_at`
pub ruleset listed = (mark-short, mark-first, mark_next, mark_none)

-- ---- the head of a change

pub head-short : (want : Wanted) (s : List ℕ) → length s < 2 → bad ends_early ≡ head want s
unfolding head
head-short want [] h = refl
head-short want (a ∷ []) h = refl
head-short want (a ∷ b ∷ s) h = absurd (omega arith)

head-is : (want : Wanted) (s : List ℕ) → 2 ≤ length s → {p q : Bool} → begins (lead_bytes Correct) s ≡ p → begins (lead_bytes Withdraw) s ≡ q
    → head want s ≡ cond p (inside want Correct (from s 2)) (cond q (inside want Withdraw (from s 2)) (inside want File (from s 0)))
unfolding head from
head-is want [] h e f = absurd (omega arith)
head-is want (a ∷ []) h e f = absurd (omega arith)
head-is want (a ∷ b ∷ s) h e f =
    λ i. cond ((is-lead 67 79 a b s ∙ e) i) (inside want Correct s) (cond ((is-lead 87 68 a b s ∙ f) i) (inside want Withdraw s) (inside want File (a ∷ b ∷ s)))

module _ (want : Wanted) (s : List ℕ) (h : 2 ≤ length s) where
  pub head-correct : begins (lead_bytes Correct) s ≡ true → head want s ≡ inside want Correct (from s 2)
  head-correct e = head-is want s h e refl

  module _ (e : begins (lead_bytes Correct) s ≡ false) where
    pub head-withdraw : begins (lead_bytes Withdraw) s ≡ true → head want s ≡ inside want Withdraw (from s 2)
    head-withdraw f = head-is want s h e f

    pub head-file : begins (lead_bytes Withdraw) s ≡ false → head want s ≡ inside want File (from s 0)
    head-file f = head-is want s h e f

-- for `head_at`
pub ruleset heads = (head-short, head-correct, head-withdraw, head-file)
