-- What stands at the front of some bytes, as the code answers it.
use Rattle.std.specs.Prelude.{◌≡◌, refl, List, [], ◌∷◌, Bool, true, false, cond, ℕ, ◌-◌, ◌≤◌, ◌<◌, eqb, length, drop}
use Rattle.std.proofs.Common.{sym, ap, ap₂, ◌∙◌, true≢false, arith, length-drop, eq-eqb, ne_eqb, eqb-true}
use Rattle.std.proofs.Math.Bool.{and-true}
use Rattle.money.specs.Refusals.{ends_early, mark_unknown, bytes_left_over}
use Rattle.records.specs.Reading.{Res, bad, got, ◌>>=◌, from}
use Rattle.records.specs.Marks.{is}
use Rattle.records.specs.Changes.{Change, Entry, changed, taking_back, closing, change, entry, begins, bare, take_back_bytes, close_bytes, fine, fault, whole, parse, parse_any}
use Rattle.records.specs.Answers.{seen_view, seen_act, act_of, front_of}
use Rattle.records.specs.tables.Inner.{change_view, entry_act}
use Rattle.records.specs.declared.scan.View.{View}
use Rattle.records.specs.declared.parse.Act.{Act}
use Rattle.records.specs.declared.parse.Act.TheVariants as act
use Rattle.records.specs.declared.marks.Wanted.{Wanted}
use Rattle.records.specs.declared.marks.Wanted.TheVariants.{Any}
use Rattle.records.proofs.fields.Step.{bind-ok, bind-err, read_out, told_out}
use Rattle.records.proofs.laws.ReaderLaws.{bad-got}
use Rattle.records.proofs.changes.Lemmas.{length_from, whole-left, whole-all}

whole-view : (r : Res Change) → whole (change_view r) ≡ seen_view (whole r)
whole-view (bad k) = refl
whole-view (got c []) = refl
whole-view (got c (x ∷ t)) = refl

whole-act : (r : Res Entry) → whole (entry_act r) ≡ seen_act (whole r)
whole-act (bad k) = refl
whole-act (got c []) = refl
whole-act (got c (x ∷ t)) = refl

module _ (s : List ℕ) (want : Wanted) where
  pub parsed-bad : {k : ℕ} → bad k ≡ change_view (change want s) → fault k ≡ seen_view (parse want s)
  unfolding parse
  parsed-bad e = ap whole e ∙ whole-view (change want s)

  module _ {v : View} (n : ℕ) (e : got v (from s n) ≡ change_view (change want s)) where
    pub parsed-left : n < length s → fault bytes_left_over ≡ seen_view (parse want s)
    unfolding parse
    parsed-left l = whole-left s n e l ∙ whole-view (change want s)

    pub parsed-all : length s ≤ n → fine v ≡ seen_view (parse want s)
    unfolding parse
    parsed-all l = whole-all s n e l ∙ whole-view (change want s)

module _ (s : List ℕ) where
  pub any-bad : {k : ℕ} → bad k ≡ entry_act (entry s) → fault k ≡ seen_act (parse_any s)
  unfolding parse_any
  any-bad e = ap whole e ∙ whole-act (entry s)

  module _ {a : Act} (n : ℕ) where
    pub any-left : got a (from s n) ≡ entry_act (entry s) → n < length s → fault bytes_left_over ≡ seen_act (parse_any s)
    unfolding parse_any
    any-left e l = whole-left s n e l ∙ whole-act (entry s)

    pub any-all : got a (from s n) ≡ entry_act (entry s) → length s ≤ n → fine a ≡ seen_act (parse_any s)
    unfolding parse_any
    any-all e l = whole-all s n e l ∙ whole-act (entry s)

    front-go : (r : Res Entry) → got a (from s n) ≡ entry_act r → n ≤ length s → fine (record { act = a; end = n }) ≡ front_of s r
    front-go (bad k) e l = absurd (bad-got (sym e))
    front-go (got x t) e l =
        let p : a ≡ act_of x = cc in
        let q : from s n ≡ t = cc in
        let m : length t ≡ length s - n = ap length (sym q) ∙ length_from s n in
        let d : n ≡ length s - length t = omega arith in
        λ i. fine (record { act = p i; end = d i })

    pub front-is : got a (from s n) ≡ entry_act (entry s) → n ≤ length s → fine (record { act = a; end = n }) ≡ front_of s (entry s)
    front-is e l = front-go (entry s) e l

-- ---- marks that stand alone

eqb-swap : (a x : ℕ) → eqb x a ≡ eqb a x
eqb-swap a x = go (eqb x a) refl
  where
    go : (p : Bool) → eqb x a ≡ p → p ≡ eqb a x
    go true e = sym (eq-eqb a x (sym (eqb-true x a e)))
    go false e = sym (ne_eqb a x (λ q. true≢false (sym (eq-eqb x a (sym q)) ∙ e)))

-- some bytes begin with a mark where their first two are its
begins-two : (x y a b : ℕ) (s : List ℕ) → begins (x ∷ y ∷ []) (a ∷ b ∷ s) ≡ is (x ∷ y ∷ []) a b
begins-two x y a b s = rw (and-true (eqb y b), eqb-swap a x, eqb-swap b y)

pub bare-short : (m s : List ℕ) → length s < 2 → ends_early ≡ bare m s
unfolding bare
bare-short m [] h = refl
bare-short m (a ∷ []) h = refl
bare-short m (a ∷ b ∷ s) h = absurd (omega arith)

bare-is : (m s : List ℕ) → length m ≡ 2 → 2 ≤ length s → cond (begins m s) (cond (eqb (length (drop 2 s)) 0) 0 bytes_left_over) mark_unknown ≡ bare m s
unfolding bare
bare-is [] s e h = absurd (omega arith)
bare-is (x ∷ []) s e h = absurd (omega arith)
bare-is (x ∷ y ∷ z ∷ m) s e h = absurd (omega arith)
bare-is (x ∷ y ∷ []) [] e h = absurd (omega arith)
bare-is (x ∷ y ∷ []) (a ∷ []) e h = absurd (omega arith)
bare-is (x ∷ y ∷ []) (a ∷ b ∷ s) e h = ap (λ p. cond p (cond (eqb (length s) 0) 0 bytes_left_over) mark_unknown) (begins-two x y a b s)

module _ (m s : List ℕ) (e : length m ≡ 2) (h : 2 ≤ length s) where
  pub bare-other : false ≡ begins m s → mark_unknown ≡ bare m s
  bare-other f = ap (λ p. cond p (cond (eqb (length (drop 2 s)) 0) 0 bytes_left_over) mark_unknown) f ∙ bare-is m s e h

  pub bare-left : true ≡ begins m s → 2 < length s → bytes_left_over ≡ bare m s
  bare-left t l =
      let d : length (drop 2 s) ≡ length s - 2 = length-drop 2 s in
      sym (ap (λ p. cond p 0 bytes_left_over) (ne_eqb (length (drop 2 s)) 0 (λ q. omega (arith, q))))
      ∙ ap (λ p. cond p (cond (eqb (length (drop 2 s)) 0) 0 bytes_left_over) mark_unknown) t ∙ bare-is m s e h

  pub bare-alone : true ≡ begins m s → length s ≤ 2 → 0 ≡ bare m s
  bare-alone t l =
      let d : length (drop 2 s) ≡ length s - 2 = length-drop 2 s in
      sym (ap (λ p. cond p 0 bytes_left_over) (eq-eqb (length (drop 2 s)) 0 (omega arith)))
      ∙ ap (λ p. cond p (cond (eqb (length (drop 2 s)) 0) 0 bytes_left_over) mark_unknown) t ∙ bare-is m s e h

-- ---- the first of several

pub entry-short : (s : List ℕ) → length s < 2 → bad ends_early ≡ entry_act (entry s)
unfolding entry
entry-short [] h = refl
entry-short (a ∷ []) h = refl
entry-short (a ∷ b ∷ s) h = absurd (omega arith)

-- a change among them, as the code answers it
abbrev act_change : Res View → Res Act
act_change r = r >>= λ v t. got (act.Change v) t

entry-is : (s : List ℕ) → 2 ≤ length s → {p q : Bool} → p ≡ begins take_back_bytes s → q ≡ begins close_bytes s
    → cond p (got act.TakeBack (from s 2)) (cond q (got act.Close (from s 2)) (act_change (change_view (change Any s)))) ≡ entry_act (entry s)
unfolding entry from
entry-is [] h e f = absurd (omega arith)
entry-is (a ∷ []) h e f = absurd (omega arith)
entry-is (a ∷ b ∷ s) h {p} {q} e f =
    go p q ∙ ap₂ (λ x y. entry_act (cond x (got taking_back s) (cond y (got closing s) (change Any (a ∷ b ∷ s) >>= λ c t. got (changed c) t))))
    (e ∙ begins-two 84 66 a b s) (f ∙ begins-two 67 76 a b s)
  where
    each : (r : Res Change) → act_change (change_view r) ≡ entry_act (r >>= λ c t. got (changed c) t)
    each (bad k) = refl
    each (got c t) = refl

    go : (p q : Bool) → cond p (got act.TakeBack s) (cond q (got act.Close s) (act_change (change_view (change Any (a ∷ b ∷ s)))))
        ≡ entry_act (cond p (got taking_back s) (cond q (got closing s) (change Any (a ∷ b ∷ s) >>= λ c t. got (changed c) t)))
    go true q = refl
    go false true = refl
    go false false = each (change Any (a ∷ b ∷ s))

module _ (s : List ℕ) (h : 2 ≤ length s) where
  pub entry-back : true ≡ begins take_back_bytes s → got act.TakeBack (from s 2) ≡ entry_act (entry s)
  entry-back e = entry-is s h e refl

  module _ (e : false ≡ begins take_back_bytes s) where
    pub entry-close : true ≡ begins close_bytes s → got act.Close (from s 2) ≡ entry_act (entry s)
    entry-close f = entry-is s h e f

    module _ (f : false ≡ begins close_bytes s) where
      pub entry-fault : {k : ℕ} → bad k ≡ change_view (change Any s) → bad k ≡ entry_act (entry s)
      entry-fault q = sym (bind-err _ q) ∙ entry-is s h e f

      pub entry-change : {v : View} {t : List ℕ} → got v t ≡ change_view (change Any s) → got (act.Change v) t ≡ entry_act (entry s)
      entry-change q = sym (bind-ok _ q) ∙ entry-is s h e f

-- for `mark_alone`
pub ruleset bares = (bare-short, bare-other, bare-left, bare-alone)

-- for `act_at`
pub ruleset entries = (entry-short, entry-back, entry-close, entry-fault, entry-change, read_out)

-- for `parse_change` and `parse_any`
pub ruleset parses = (told_out, parsed-bad, parsed-left, parsed-all, any-bad, any-left, any-all)

-- for `first_change`
pub ruleset fronts = (told_out, front-is)
