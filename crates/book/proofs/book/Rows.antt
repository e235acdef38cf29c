-- Questions over the rows of a checked book.
use Rattle.std.specs.Prelude.{◌≡◌, refl, ℕ, List, ◌++◌, Bool, true, false, cond, Option, is_some, Some, None, Result, Ok, Err, IsErrAnd, length, drop}
use Rattle.std.proofs.Common.{sym, ap, ◌∙◌, arith, length-take, length-drop}
use Rattle.std.proofs.Math.Path.{subst⁻¹}
use Rattle.std.specs.Option.{ok_or}
use Rattle.money.specs.declared.refusals.Refusal.TheVariants.{NotTogether}
use Rattle.book.specs.declared.log.row.Row.{Row}
use Rattle.book.specs.Layer.{Key, Asked, Rec, Change, filed, write, scan, scanned_len, input_of, Refusal, number_of, told}
use Rattle.book.specs.laws.LayerLaws.{scan-write}
use Rattle.book.specs.declared.book.Book.{Book}
use Rattle.book.specs.Register.{Reg, Step, Question, answer, answered, step_of, keyed, write_all, ask, place_of, Reply, place, refused}
use Rattle.book.specs.Meaning.{Load, load, belongs, mismatched, Leaves, Meets, stepped, reply_by}
use Rattle.book.specs.tables.Tables.{together, survey}
use Rattle.book.specs.laws.LoadLaws.{Loaded, loaded-from}
use Rattle.book.specs.tables.Rows.{Rowed, Logged, Sought}
use Rattle.book.specs.laws.RegisterLaws.{true≠false}
use Rattle.book.proofs.book.Lemmas.{leaves-answered, keyed-wrong, keyed-right, leaves-16}
use Rattle.book.proofs.log.rows.Lemmas.{logged-at}
use Rattle.book.specs.declared.log.rows.Standing.{Standing}
use Rattle.book.specs.Amounts.{is}
use Rattle.book.specs.laws.PlaceLaws.{survey-written, survey-place}

module _ (b : Book) (s : List ℕ) {ok : Bool} {rows : List Row} (w : Rowed (load b s) ok rows) where
  pub is-rowed : ok ≡ true → Loaded b s
  is-rowed t = go (load b s) refl (sym w.checked ∙ t)
    where
      go : (d : Load) → load b s ≡ d → together d ≡ true → Loaded b s
      go (belongs l) e z = loaded-from b s l e
      go mismatched e z = true≠false z refl

  pub not-rowed : ok ≡ false → load b s ≡ mismatched
  not-rowed t = go (load b s) refl (sym w.checked ∙ t)
    where
      go : (d : Load) → load b s ≡ d → together d ≡ false → load b s ≡ mismatched
      go (belongs l) e z = true≠false refl z
      go mismatched e z = e

-- ---- a call of a book that was checked

pub loaded-by : (b : Book) (s : List ℕ) {rows : List Row} → Rowed (load b s) true rows → Loaded b s
loaded-by b s w = is-rowed b s w refl

-- and of one that is apart from its bytes
pub apart : {f : ℕ → Reg → Step} {b : Book} {s : List ℕ} {rows : List Row} → Rowed (load b s) false rows → Leaves f b s b (refused 16) s
apart {f} {b} {s} w = leaves-16 f b s (not-rowed b s w refl)

-- as check_rows says it
pub apart-so : {f : ℕ → Reg → Step} {b : Book} {s : List ℕ} {rows : List Row} {x : Refusal} → Rowed (load b s) false rows → x ≡ NotTogether
    → Leaves f b s b (refused (number_of x)) s
apart-so {f} {b} {s} w z = subst⁻¹ (λ (y : Refusal). Leaves f b s b (refused (number_of y)) s) z (apart w)

-- what is sought and is not there, by the refusal that stands for it
pub lacked : {A B : Type 0} (p : Option A) {x e : Refusal} → ◌≡◌ {A = Result A Refusal} (Err e) (ok_or p x) → (r : Result B Refusal)
    → IsErrAnd r (λ y. y ≡ e) → r ≡ Err x
lacked (Some y) v r h = cc
lacked None v (Ok y) h = absurd h
lacked None {x} {e} v (Err y) h = let q : e ≡ x = cc in ap (λ (z : Refusal). Err z) (h ∙ q)

-- ---- a question q, by what is answered of the changes that book and bytes stand for

pub by-load : (P : Load → Type 0) (b : Book) (s : List ℕ) → (load b s ≡ mismatched → P mismatched)
    → ((l : List Change) → load b s ≡ belongs l → P (belongs l)) → P (load b s)
by-load P b s apart held = go (load b s) refl
  where
    go : (d : Load) → load b s ≡ d → P d
    go mismatched e = apart e
    go (belongs l) e = held l e

pub question-so : (b : Book) (s : List ℕ) (q : Question) {A : Type 0} (g : A → Reply) {t : Result A Refusal} → (load b s ≡ mismatched → t ≡ Err NotTogether)
    → ((l : List Change) → load b s ≡ belongs l → reply_by g t ≡ answer q (length s) (record { list = l; closed = b.closed }))
    → Meets (ask q) b s b (reply_by g t) s
question-so b s q g {t} apart held =
    leaves-answered (step_of (ask q)) b s (reply_by g t) (by-load (λ (d : Load). stepped (step_of (ask q)) b s d ≡ answered (reply_by g t)) b s
    (λ e. ap (λ x. answered (reply_by g x)) (sym (apart e))) (λ l e. ap answered (sym (held l e))))

-- with a key: a is what it asks for, f what is answered
pub asked-so : (b : Book) (s : List ℕ) (q : Question) (a : Asked) (f : List Change → Key → Reply)
    → ((l : List Change) → answer q (length s) (record { list = l; closed = b.closed }) ≡ keyed a (f l)) → {A : Type 0} (g : A → Reply)
    {t : Result A Refusal} {r : Result Key Refusal} → (load b s ≡ mismatched → t ≡ Err NotTogether)
    → ((l : List Change) (e : Refusal) → load b s ≡ belongs l → r ≡ Err e → t ≡ Err e) → told r ≡ input_of a
    → ((l : List Change) (k : Key) → load b s ≡ belongs l → r ≡ Ok k → reply_by g t ≡ f l k) → Meets (ask q) b s b (reply_by g t) s
asked-so b s q a f same g {t} {r} apart wrong er right = question-so b s q g apart (λ l e. go l e r refl ∙ sym (same l))
  where
    go : (l : List Change) → load b s ≡ belongs l → (x : Result Key Refusal) → r ≡ x → reply_by g t ≡ keyed a (f l)
    go l e (Err n) p = ap (reply_by g) (wrong l n e p) ∙ sym (keyed-wrong a (f l) (ap told (sym p) ∙ er))
    go l e (Ok k) p = right l k e p ∙ sym (keyed-right a (f l) (ap told (sym p) ∙ er))

-- ---- the record of a key

-- its length is read where it is written
len-there : {s : List ℕ} {rows : List Row} {n : ℕ} {l : List Change} → Logged s rows n l → (k : Key) → (survey k l).found ≡ true → (x : ℕ) → x ≡ (survey k l).start
    → scanned_len (scan (drop x s)) ≡ (survey k l).len
len-there {s} {rows} {n} {l} g k h x ex =
    let f = logged-at g k h in
    let sw = survey-written k l h in
    let one : is f.what ≡ is sw.what = sym f.picked ∙ sw.stands-so in
    let p : f.what ≡ sw.what = cc in
    let b : drop x s ≡ write (filed f.what) ++ f.at.rest = ap (λ (m : ℕ). drop m s) ex ∙ f.at.bytes in
    let len : length (write (filed sw.what)) ≡ (survey k l).len =
    omega (
      arith,
      ap length sw.bytes,
      length-take (survey k l).len (drop (survey k l).start (write_all l)),
      length-drop (survey k l).start (write_all l),
      sw.inside,
    ) in
    ap (λ (y : List ℕ). scanned_len (scan y)) b ∙ ap scanned_len (scan-write (filed f.what) f.at.rest f.at.good)
    ∙ ap (λ (y : Rec). length (write (filed y))) p ∙ len

module _ {s : List ℕ} {rows : List Row} {k : Key} {r : Option Standing} {l : List Change} (g : Logged s rows (length rows) l) (f : Sought rows k r l) where
  place-so : {b : Bool} → (survey k l).found ≡ b → cond b (place (survey k l).start (survey k l).len) (refused 11) ≡ place_of k l
  place-so e = sym (survey-place k l ∙ ap (λ (y : Bool). cond y (place (survey k l).start (survey k l).len) (refused 11)) e)

  pub place-none : r ≡ None → refused 11 ≡ place_of k l
  place-none z = place-so (sym f.found ∙ ap is_some z)

  pub place-is : {y : Standing} → r ≡ Some y → {n : ℕ} → n ≡ scanned_len (scan (drop y.start s)) → place y.start n ≡ place_of k l
  place-is {y} t {n} en =
      let found : (survey k l).found ≡ true = sym f.found ∙ ap is_some t in
      let st = (f.stood y t).start in
      let ln = en ∙ len-there g k found y.start st in
      (λ j. place (st j) (ln j)) ∙ place-so found
