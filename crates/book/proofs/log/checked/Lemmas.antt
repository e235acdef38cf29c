-- What the changes of a checked book rest on.
use Rattle.std.specs.Prelude.{ℕ, zero, suc, ◌+◌, ◌-◌, ◌≤◌, ◌<◌, ◌≡◌, refl, List, [], ◌∷◌, ◌++◌, Bool, true, false, cond, not, ◌&&◌, Option, is_some, Ok, Err, Some, length, take, drop, set, get_or, eqb, ltb}
use Rattle.std.proofs.Common.{sym, ap, ap₂, ◌∙◌, subst, arith, length-append, length-set, eq-eqb, eqb-true}
use Rattle.std.proofs.Math.Path.{subst⁻¹}
use Rattle.std.proofs.Math.Seq.{take-append_seam}
use Rattle.std.proofs.lemmas.Bool.{ne_eqb, eqb-false}
use Rattle.std.proofs.lemmas.List.{take-take}
use Rattle.records.specs.Changes.{entry, whole, parse_any}
use Rattle.book.specs.Layer.{Key, View, Change, key_of, kind_of, write, Good, Input, fine, fault, parse, put_bytes, limit_of, Wanted, Any, Changing, TakeBack, Close, is_filing, is_withdrawal}
use Rattle.book.specs.tables.LayerTables.{viewed_bytes}
use Rattle.book.specs.laws.LayerLaws.{parse-fine, viewed-put, store-front, store_length, Padded, good-padded, good-hour}
use Rattle.book.specs.Layer.{bad, Entry, changed, taking_back, closing_entry, act_of, mark_is, begins, take_back_bytes, close_bytes}
use Rattle.book.specs.laws.LayerLaws.{number-some, entry-bad, alone, as_entry, any-back, any-close, any-change}
use Rattle.book.specs.declared.book.Book.{Book}
use Rattle.money.specs.declared.refusals.Refusal.TheVariants.{Closed, NothingToTakeBack}
use Rattle.book.specs.declared.answers.Done.{Done}
use Rattle.book.specs.declared.log.rows.Standing.{Standing}
use Rattle.book.specs.Register.{Reg, refused, Step, answered, becomes, listed, judged, taken_back, closing, general, shorter, after, bare_take_back, bare_close, write_all, refusal, space_fault, stands, standing, count}
use Rattle.book.specs.Meaning.{belongs, load, Valid, book_of, stepped, Leaves}
use Rattle.book.specs.tables.Tables.{viewed, change_fault}
use Rattle.book.specs.tables.Index.{hour_slot, bucket, latest_of}
use Rattle.book.specs.tables.Rows.{packed, row_start, Rows, Rowed, Logged, Log, Sought, cleared}
use Rattle.book.specs.tables.Checked.{Checked, Makes, Since, IsChange, IsEntry, done_of}
use Rattle.book.specs.laws.RegisterLaws.{by-test, survey-found, refusal-judge}
use Rattle.book.specs.laws.ReplayLaws.{listed-valid}
use Rattle.book.specs.laws.LoadLaws.{Loaded, load-whole, loaded-whole}
use Rattle.book.proofs.log.Survey.{judge-room, room-facts, valid-size}
use Rattle.book.proofs.log.index.Lemmas.{latest-few}
use Rattle.book.proofs.log.rows.Lemmas.{ruled-at, ruled-seen}
use Rattle.book.proofs.log.replay.Lemmas.{cleared-size, rows_next}
use Rattle.book.proofs.book.Loading.{loaded-logged}
use Rattle.book.proofs.book.Rows.{is-rowed}
use Rattle.book.specs.Layer.{Act, seen_view, seen_act, Refusal, number_of}
use Rattle.book.proofs.book.Lemmas.{reg_of, step_is, leaves-answered, leaves-accepted, bare-fault}
use Rattle.book.specs.declared.log.row.Row.{Row}
use Rattle.book.specs.tables.Rows.{no_row}

-- ---- a checked book

pub checked-from : (b : Book) (s : List ℕ) {ok : Bool} {rows : List Row} → Rowed (load b s) ok rows → ok ≡ true → Checked b s rows
checked-from b s w t = let x = is-rowed b s w t in record { base = x; kept = w.kept x.list x.is; size = w.size }

-- a log that holds n rows
pub held-says : {hs : List ℕ} {hr : List Row} {n : ℕ} {l : List Change} → length hr ≡ n → Logged hs hr n l → Logged hs hr (length hr) l
held-says {hs} {hr} {n} {l} e g = subst⁻¹ (λ (m : ℕ). Logged hs hr m l) e g

module _ {b : Book} {s : List ℕ} {rows : List Row} (h : Checked b s rows) where
  checked-logged : Logged s rows b.changes h.base.list
  checked-logged = loaded-logged b s h.base h.kept

  pub checked-log : Log s rows b.changes
  checked-log = record { list = h.base.list; logged = checked-logged }

-- ---- what a step of the register leaves of the rows

belongs-one : {l l' : List Change} → belongs l ≡ belongs l' → l ≡ l'
belongs-one e = cc

module _ {f : ℕ → Reg → Step} {b : Book} {s : List ℕ} {rows : List Row} {k : Key} (h : Checked b s rows) where
  makes-refused : (x : Refusal) → stepped f b s (load b s) ≡ answered (refused (number_of x)) → Makes f b s k (done_of b (Err x)) s rows
  makes-refused x e = record {
    leaves = leaves-answered f b s (refused (number_of x)) e;
    checked = h;
    older = λ l l' p p' m z. omega (arith, ap (latest_of m) (belongs-one (sym p ∙ p')));
  }

  makes-accepted : (g : Reg) (b' : Book) (s' : List ℕ) (rows' : List Row) → stepped f b s (load b s) ≡ becomes g → b' ≡ book_of g → length s' ≡ length s
      → take (length (write_all g.list)) s' ≡ write_all g.list → Valid g.list → Rows rows' g.list g.list → length rows' ≡ 512
      → ((m : ℕ) → (m ≡ bucket k → ⊥) → latest_of m g.list ≤ latest_of m h.base.list) → Makes f b s k (done_of b (Ok b')) s' rows'
  makes-accepted g b' s' rows' e is size q v kept n o = record {
    leaves = leaves-accepted f b s g b' s' e is size q;
    checked = subst⁻¹ (λ (y : Book). Checked y s' rows') is (record { base = loaded-whole g s' v q; kept = kept; size = n });
    older = λ l l' p p' m z.
        let was : h.base.list ≡ l = belongs-one (sym h.base.is ∙ p) in
        let now-is : g.list ≡ l' = belongs-one (sym (load-whole g s' v q) ∙ ap (λ (y : Book). load y s') (sym is) ∙ p') in
        omega (arith, o m z, ap (latest_of m) was, ap (latest_of m) now-is);
  }

-- the latest change of a number after one change more, and after one less
newer-other : (c : Change) (l : List Change) (m : ℕ) → (m ≡ bucket (key_of c) → ⊥) → latest_of m (c ∷ l) ≤ latest_of m l
unfolding latest_of
newer-other c l m z = omega (arith, ap (λ (t : Bool). cond t (length l + 1) (latest_of m l)) (ne_eqb (bucket (key_of c)) m (λ e. z (sym e))))

older-less : (c : Change) (l : List Change) (m : ℕ) → latest_of m l ≤ latest_of m (c ∷ l)
unfolding latest_of
older-less c l m = go (eqb (bucket (key_of c)) m) (latest-few m l)
  where
    go : (t : Bool) → latest_of m l ≤ length l → latest_of m l ≤ cond t (length l + 1) (latest_of m l)
    go true le = omega arith
    go false le = omega arith

-- ---- a record that is listed

judged-no : (c : Change) (g : Reg) (n : ℕ) → (n ≡ 0 → ⊥) → judged c g n ≡ answered (refused n)
judged-no c g zero z = absurd (z refl)
judged-no c g (suc n) z = refl

module _ {b : Book} {s : List ℕ} {rows : List Row} (h : Checked b s rows) {want : Wanted} {rec : List ℕ} {v : View} (r : IsChange want rec v) where
  good : Good r.what
  good = (parse-fine want rec r.what r.input).good

  key-is : key_of r.what ≡ v.key
  key-is = sym (ap (λ (y : View). y.key) r.is)

  low : v.key.hour < 32
  low = omega (arith, (good-hour r.what good).1, ap (λ (k : Key). k.hour) key-is)

  padded : Padded v.key.name
  padded = subst (λ (k : Key). Padded k.name) key-is (good-padded r.what good)

  step-listed : stepped (listed (parse want rec)) b s (load b s)
      ≡ cond b.closed (answered (refused 9)) (judged r.what (reg_of b s h.base) (refusal h.base.list (length s) r.what))
  step-listed = step_is (listed (parse want rec)) b s h.base ∙ ap (λ (i : Input Change). listed i (length s) (reg_of b s h.base)) r.input

  open-or : (t : Bool) → b.closed ≡ t → stepped (listed (parse want rec)) b s (load b s)
      ≡ cond t (answered (refused 9)) (judged r.what (reg_of b s h.base) (refusal h.base.list (length s) r.what))
  open-or t e = step-listed ∙ ap
      (λ (y : Bool). cond y (answered (refused 9)) (judged r.what (reg_of b s h.base) (refusal h.base.list (length s) r.what))) e

  pub listed-closed : b.closed ≡ true → Makes (listed (parse want rec)) b s v.key (done_of b (Err Closed)) s rows
  listed-closed t = makes-refused h Closed (open-or true t)

  -- it is open; the key was looked for, and the records of its mark and hour were counted
  module _ (t : b.closed ≡ false) {from : ℕ} (sn : Since b s v.key from) {hs : List ℕ} {hr : List Row}
      (front : hr ≡ take b.changes rows) (size : length hr ≡ b.changes)
      (says : (l : List Change) → Logged s rows b.changes l → Logged hs hr b.changes l) {x : Option Standing}
      (fs : (l : List Change) → Logged hs hr (length hr) l → v.key.hour < 32 → Padded v.key.name → latest_of (bucket v.key) l ≤ from → Sought hr v.key x l)
      {m : ℕ} (fm : (l : List Change) → Logged hs hr (length hr) l → v.key.hour < 32 → m ≡ count v.key (standing l))
      {most : ℕ} (em : most ≡ limit_of v.key) {w : ℕ} (ew : w ≡ change_fault v.kind (is_some x) m most b.changes b.used v.len (length s))
    where
      held : Logged hs hr (length hr) h.base.list
      held = held-says size (says h.base.list (checked-logged h))

      sought : Sought hr v.key x h.base.list
      sought = fs h.base.list held low padded (sn.none h.base.list h.base.is)

      -- the code's judgement is the register's
      judged-is : refusal h.base.list (length s) r.what ≡ w
      judged-is =
          let c = r.what in
          let l = h.base.list in
          let fd : is_some x ≡ stands (key_of c) (standing l) = sought.found ∙ survey-found v.key l ∙ ap (λ (y : Key). stands y (standing l)) (sym key-is) in
          let cs : m ≡ count (key_of c) (standing l) = fm l held low ∙ ap (λ (y : Key). count y (standing l)) (sym key-is) in
          let ms : most ≡ limit_of (key_of c) = em ∙ ap limit_of (sym key-is) in
          sym (ew ∙ (λ i. change_fault (r.is i).kind (fd i) (cs i) (ms i) (sym h.base.count-is i) (sym h.base.size i) (r.is i).len (length s))
          ∙ sym (refusal-judge l (length s) c))

      pub listed-refused : (y : Refusal) → w ≡ number_of y → Makes (listed (parse want rec)) b s v.key (done_of b (Err y)) s rows
      listed-refused y e = makes-refused h y
          (open-or false t ∙ ap (judged r.what (reg_of b s h.base)) (judged-is ∙ e) ∙ judged-no r.what (reg_of b s h.base) (number_of y) (number-some y))

      -- it is taken
      module _ (z : w ≡ 0) where
        pub listed-few : (b.changes < 512) × (b.used + v.len ≤ length s) × (b.used + v.len ≤ 65535)
        unfolding change_fault
        listed-few =
            room-facts b.changes b.used v.len (length s)
            (judge-room (is_filing v.kind) (is_some x) (ltb m most) (space_fault b.changes b.used v.len (length s)) (sym ew ∙ z))

        pub listed-clear : (y : Standing) → x ≡ Some y → y.at < 512
        listed-clear y e = omega (arith, (sought.stood y e).inside, size, listed-few.0)

        pub listed-row : {hour : ℕ} → hour < 512 → (hour < 512) × (b.used < 65536)
        listed-row hs = (hs, omega (arith, listed-few.2))

        step-taken : stepped (listed (parse want rec)) b s (load b s) ≡ becomes (record { list = r.what ∷ h.base.list; closed = b.closed })
        step-taken = open-or false t ∙ ap (judged r.what (reg_of b s h.base)) (judged-is ∙ z)

        pub makes-listed : {hour : ℕ} → hour ≡ hour_slot v.key → {s' : List ℕ} → s' ≡ viewed_bytes (Some v) b.used rec s
            → {rows₁ : List Row} → rows₁ ≡ cleared rows x → {row : Row} → row ≡ packed (not (is_withdrawal v.kind)) v.kind hour b.used
            → Makes (listed (parse want rec)) b s v.key (done_of b (Ok (record { changes = b.changes + 1; used = b.used + v.len; closed = b.closed }))) s' (set rows₁ b.changes row)
        unfolding write_all
        makes-listed {hour} eh {s'} ev {rows₁} ex {row} er =
            let c = r.what in
            let es : s' ≡ put_bytes (parse want rec) b.used s = ev ∙ (viewed-put want rec v
            (ap seen_view r.input ∙ ap fine (sym r.is)) b.used s).1 in
            let y = h.base in
            let l = y.list in
            let g : Reg = record { list = c ∷ l; closed = b.closed } in
            let len : v.len ≡ length (write c) = ap (λ (k : View). k.len) r.is in
            let n : length (write_all l ++ write c) ≡ b.used + length (write c) = length-append (write_all l) (write c) ∙ ap (λ (k : ℕ). k + length (write c))
            y.size in
            let u : b.changes + 1 ≡ suc (length l) = omega (arith, y.count-is) in
            let st : listed (parse want rec) (length s) (reg_of b s y) ≡ becomes g = sym (step_is (listed (parse want rec)) b s y) ∙ step-taken in
            let f : Sought (take b.changes rows) (key_of c) x l = subst (λ (k : Key). Sought (take b.changes rows) k x l) (sym key-is)
            (subst (λ (y : List Row). Sought y v.key x l) front sought) in
            let hr : hour ≡ hour_slot (key_of c) = eh ∙ ap hour_slot (sym key-is) in
            let er' : row ≡ packed (not (is_withdrawal (kind_of c))) (kind_of c) (hour_slot (key_of c)) (length (write_all l)) =
            er ∙ (λ i. packed (not (is_withdrawal (r.is i).kind)) (r.is i).kind (hr i) (sym y.size i)) in
            makes-accepted h g _ s' (set rows₁ b.changes row) step-taken
            (λ i. record { changes = u i; used = (ap (λ (k : ℕ). b.used + k) len ∙ sym n) i; closed = b.closed })
            (ap length es ∙ store_length (parse want rec) b.used s)
            (ap₂ take n es ∙ store-front (parse want rec) c b.used s r.input (omega (arith, listed-few.1)) ∙ ap (λ (k : List ℕ). k ++ write c)
            (sym y.bytes))
            (subst (λ (k : Step). Valid (after k (reg_of b s y)).list) st
            (listed-valid (parse want rec) (length s) (reg_of b s y) (λ k e. (parse-fine want rec k e).good) y.valid))
            (subst (λ (k : List Row). Rows (set k b.changes row) (c ∷ l) (c ∷ l)) (sym ex) (rows_next (checked-logged h) h.size listed-few.0 c x f row er'))
            (length-set rows₁ b.changes row ∙ ap length ex ∙ cleared-size rows x ∙ h.size)
            (λ m z. newer-other c l m (λ e. z (e ∙ ap bucket key-is)))

-- ---- what is refused before it is listed

module _ (b : Book) (s : List ℕ) (x : Loaded b s) (rec : List ℕ) where
  pub parse-refused : (want : Wanted) {n : ℕ} → fault n ≡ seen_view (parse want rec) → Leaves (listed (parse want rec)) b s b (refused n) s
  parse-refused want {n} e = leaves-answered (listed (parse want rec)) b s (refused n) (step_is (listed (parse want rec)) b s x ∙ go (parse want rec) e)
    where
      go : (i : Input Change) → fault n ≡ seen_view i → listed i (length s) (reg_of b s x) ≡ answered (refused n)
      go (fine c) q = absurd (let z : ◌≡◌ {A = ℕ} 0 1 = cc in omega arith)
      go (fault m) q = let p : m ≡ n = cc in ap (λ (j : ℕ). answered (refused j)) p

-- a mark by itself, with a fault
module _ (b : Book) (s : List ℕ) (x : Loaded b s) (rec : List ℕ) {n : ℕ} where
  pub back-refused : n ≡ bare_take_back rec → (n ≡ 0 → ⊥) → Leaves (taken_back (bare_take_back rec)) b s b (refused n) s
  back-refused q z =
      leaves-answered (taken_back (bare_take_back rec)) b s (refused n)
      (bare-fault b s x (bare_take_back rec) n q (taken_back (bare_take_back rec)) (shorter b.closed x.list) refl z)

  pub close-refused : n ≡ bare_close rec → (n ≡ 0 → ⊥) → Leaves (closing (bare_close rec)) b s b (refused n) s
  close-refused q z =
      leaves-answered (closing (bare_close rec)) b s (refused n)
      (bare-fault b s x (bare_close rec) n q (closing (bare_close rec)) (becomes (record { list = x.list; closed = true })) refl z)

-- ---- the last change taken back

module _ {b : Book} {s : List ℕ} {rows : List Row} (h : Checked b s rows) where
  back_step : (t : Bool) → b.closed ≡ t → stepped (taken_back 0) b s (load b s) ≡ cond t (answered (refused 9)) (shorter b.closed h.base.list)
  back_step t e = step_is (taken_back 0) b s h.base ∙ ap (λ (y : Bool). cond y (answered (refused 9)) (shorter b.closed h.base.list)) e

  pub back-closed : {k : Key} → b.closed ≡ true → Makes (taken_back 0) b s k (done_of b (Err Closed)) s rows
  back-closed t = makes-refused h Closed (back_step true t)

  pub back_none : {k : Key} → b.closed ≡ false → b.changes ≡ 0 → Makes (taken_back 0) b s k (done_of b (Err NothingToTakeBack)) s rows
  back_none t e = makes-refused h NothingToTakeBack (back_step false t ∙ go h.base.list h.base.count-is)
    where
      go : (l : List Change) → length l ≡ b.changes → shorter b.closed l ≡ answered (refused 14)
      go [] w = refl
      go (c ∷ l) w = absurd (omega arith)

  module _ (t : b.closed ≡ false) (some : b.changes ≡ 0 → ⊥) where
    -- the last change, and what its row says of it
    record Last : Type 0 where
      pub what : Change
      pub rest : List Change
      pub list-is : h.base.list ≡ what ∷ rest
      pub start : row_start (get_or rows (b.changes - 1) no_row) ≡ length (write_all rest)

    pub above : 0 < b.changes
    above = go b.changes some
      where
        go : (n : ℕ) → (n ≡ 0 → ⊥) → 0 < n
        go zero z = absurd (z refl)
        go (suc n) z = omega arith

    last : Last
    last =
        let l = h.base.list in
        let n = b.changes in
        let g = (checked-logged h).ruled in
        let lt : n - 1 < n = omega (arith, above) in
        let o = ruled-at g lt in
        let w = ruled-seen g lt in
        let e : n - (n - 1 + 1) ≡ 0 = omega (arith, above) in
        record { what = o.what; rest = drop (n - (n - 1)) l; list-is = sym (ap (λ (k : ℕ). drop k l) e) ∙ o.rest; start = w.start }

    pub last-few : b.changes - 1 < 512
    last-few = omega (arith, above, (valid-size h.base.list h.base.valid).0, h.base.count-is)

    abbrev less : Reg
    less = record { list = last.rest; closed = b.closed }

    rest-bytes : take (length (write_all last.rest)) s ≡ write_all last.rest
    unfolding write_all
    rest-bytes =
        let l = last.rest in
        let c = last.what in
        let by : write_all l ++ write c ≡ take b.used s = sym (ap write_all last.list-is) ∙ h.base.bytes in
        let size : length (write_all l ++ write c) ≡ b.used = sym (ap (λ (y : List Change). length (write_all y)) last.list-is) ∙ h.base.size in
        sym (take-take (length (write_all l)) b.used s (omega (arith, length-append (write_all l) (write c)))) ∙ ap (take (length (write_all l))) (sym by) ∙
        take-append_seam (write_all l) (write c)

    rest-valid : Valid last.rest
    unfolding Valid
    rest-valid = (subst Valid last.list-is h.base.valid).2

    module _ {q : ℕ} (eq : q ≡ row_start (get_or rows (b.changes - 1) no_row)) where
      book-is : record { changes = b.changes - 1; used = q; closed = b.closed } ≡ book_of less
      book-is =
          let n : b.changes - 1 ≡ length last.rest = omega (arith, h.base.count-is, ap length last.list-is) in
          λ i. record { changes = n i; used = (eq ∙ last.start) i; closed = b.closed }

      back-taken : {k : Key} {rows' : List Row} → Rows rows' last.rest last.rest → length rows' ≡ 512
          → Makes (taken_back 0) b s k (done_of b (Ok (record { changes = b.changes - 1; used = q; closed = b.closed }))) s rows'
      back-taken {rows' = rows'} kept n =
          makes-accepted h less _ s rows' (back_step false t ∙ ap (shorter b.closed) last.list-is) book-is refl rest-bytes rest-valid kept n
          (λ m z. omega (arith, older-less last.what last.rest m, ap (latest_of m) last.list-is))

      pub back-makes : {k : Key} {rows' : List Row}
          → ((c : Change) (l : List Change) → Logged s rows b.changes (c ∷ l) → Rows rows' l l) × (length rows' ≡ 512)
          → Makes (taken_back 0) b s k (done_of b (Ok (record { changes = b.changes - 1; used = q; closed = b.closed }))) s rows'
      back-makes w = back-taken (w.0 last.what last.rest (subst (Logged s rows b.changes) last.list-is (checked-logged h))) w.1

-- ---- a book that is closed

module _ {b : Book} {s : List ℕ} {rows : List Row} (h : Checked b s rows) where
  close-step : (t : Bool) → b.closed ≡ t
      → stepped (closing 0) b s (load b s) ≡ cond t (answered (refused 9)) (becomes (record { list = h.base.list; closed = true }))
  close-step t e = step_is (closing 0) b s h.base ∙ ap
      (λ (y : Bool). cond y (answered (refused 9)) (becomes (record { list = h.base.list; closed = true }))) e

  pub close-closed : {k : Key} → b.closed ≡ true → Makes (closing 0) b s k (done_of b (Err Closed)) s rows
  close-closed t = makes-refused h Closed (close-step true t)

  pub close-taken : {k : Key} → b.closed ≡ false
      → Makes (closing 0) b s k (done_of b (Ok (record { changes = b.changes; used = b.used; closed = true }))) s rows
  close-taken t =
      let x = h.base in
      makes-accepted h (record { list = x.list; closed = true }) _ s rows (close-step false t)
      (λ i. record { changes = sym x.count-is i; used = sym x.size i; closed = true }) refl
      (ap (λ (k : ℕ). take k s) x.size ∙ sym x.bytes) x.valid h.kept h.size (λ m z. omega arith)

-- ---- the general change, by what was read

-- which of the methods takes the bytes, and what they are
data Sort (rec : List ℕ) : Type 0 where
  is-back : general rec ≡ taken_back (bare_take_back rec) → parse_any rec ≡ alone taking_back (bare_take_back rec) → Sort rec
  is-close : general rec ≡ closing (bare_close rec) → parse_any rec ≡ alone closing_entry (bare_close rec) → Sort rec
  is-other : general rec ≡ listed (parse Any rec) → parse_any rec ≡ as_entry (parse Any rec) → Sort rec

begins-is : (x y a b : ℕ) (s : List ℕ) → begins (x ∷ y ∷ []) (a ∷ b ∷ s) ≡ mark_is (x ∷ y ∷ []) a b
begins-is x y a b s = and_one (eqb x a) (eqb y b) ∙ (λ i. turned x a i && turned y b i)
  where
    and_one : (p q : Bool) → (p && (q && true)) ≡ (p && q)
    and_one true true = refl
    and_one true false = refl
    and_one false q = refl

    turned : (a x : ℕ) → eqb a x ≡ eqb x a
    turned a x = by-test (eqb x a) (λ t. eq-eqb a x (sym (eqb-true x a t)) ∙ sym t) (λ t. ne_eqb a x (λ h. eqb-false x a t (sym h)) ∙ sym t)

module _ (rec : List ℕ) where
  abbrev By : Bool → Bool → ℕ → Reg → Step
  By p q = cond p (taken_back (bare_take_back rec)) (cond q (closing (bare_close rec)) (listed (parse Any rec)))

  sort-unread : (j : ℕ) → entry rec ≡ bad j → Sort rec
  unfolding parse_any
  sort-unread j e = let u = entry-bad rec j e in is-other (λ i. By (u.no-back i) (u.no-close i)) (ap whole e ∙ ap as_entry (sym u.refused))

sort-of : (rec : List ℕ) → Sort rec
unfolding entry
sort-of [] = sort-unread [] 1 refl
sort-of (a ∷ []) = sort-unread (a ∷ []) 1 refl
sort-of (a ∷ b ∷ s) =
    by-test (mark_is take_back_bytes a b)
    (λ t. is-back (ap (λ (y : Bool). By rec y (begins close_bytes rec)) (begins-is 84 66 a b s ∙ t)) (any-back a b s t))
    (λ t. by-test (mark_is close_bytes a b)
    (λ u. is-close (λ i. By rec ((begins-is 84 66 a b s ∙ t) i) ((begins-is 67 76 a b s ∙ u) i)) (any-close a b s t u))
    (λ u. is-other (λ i. By rec ((begins-is 84 66 a b s ∙ t) i) ((begins-is 67 76 a b s ∙ u) i)) (any-change a b s t u)))
  where
    rec : List ℕ
    rec = a ∷ b ∷ s

-- what it does not take it refuses for the fault
general-fault : (rec : List ℕ) (n : ℕ) → parse_any rec ≡ fault n → (lent : ℕ) (g : Reg) → general rec lent g ≡ answered (refused n)
general-fault rec n e lent g = go (sort-of rec)
  where
    bare : (x : Entry) (m : ℕ) (f : ℕ → ℕ → Reg → Step) → ((k : ℕ) → f (suc k) lent g ≡ answered (refused (suc k))) → alone x m ≡ fault n
        → f m lent g ≡ answered (refused n)
    bare x zero f r q = absurd (let z : ◌≡◌ {A = ℕ} 0 1 = cc in omega arith)
    bare x (suc k) f r q = let p : suc k ≡ n = cc in r k ∙ ap (λ (j : ℕ). answered (refused j)) p

    other : (i : Input Change) → as_entry i ≡ fault n → listed i lent g ≡ answered (refused n)
    other (fine c) q = absurd (let z : ◌≡◌ {A = ℕ} 0 1 = cc in omega arith)
    other (fault m) q = let p : m ≡ n = cc in ap (λ (j : ℕ). answered (refused j)) p

    go : Sort rec → general rec lent g ≡ answered (refused n)
    go (is-back a p) = ap (λ (f : ℕ → Reg → Step). f lent g) a ∙ bare taking_back (bare_take_back rec) taken_back (λ k. refl) (sym p ∙ e)
    go (is-close a p) = ap (λ (f : ℕ → Reg → Step). f lent g) a ∙ bare closing_entry (bare_close rec) closing (λ k. refl) (sym p ∙ e)
    go (is-other a p) = ap (λ (f : ℕ → Reg → Step). f lent g) a ∙ other (parse Any rec) (sym p ∙ e)

-- what it takes is a mark by itself, or a change of one kind
alone-taken : (x y : Entry) (m : ℕ) → alone x m ≡ fine y → (m ≡ 0) × (x ≡ y)
alone-taken x y zero e = let p : x ≡ y = cc in (refl, p)
alone-taken x y (suc m) e = absurd (let z : ◌≡◌ {A = ℕ} 0 1 = cc in omega arith)

module _ (rec : List ℕ) where
  general-back : parse_any rec ≡ fine taking_back → general rec ≡ taken_back 0
  general-back e = go (sort-of rec)
    where
      other : (i : Input Change) → as_entry i ≡ fine taking_back → general rec ≡ taken_back 0
      other (fine c) q = absurd (let z : ◌≡◌ {A = ℕ} 0 1 = cc in omega arith)
      other (fault n) q = absurd (let z : ◌≡◌ {A = ℕ} 0 1 = cc in omega arith)

      go : Sort rec → general rec ≡ taken_back 0
      go (is-back a p) = a ∙ ap taken_back (alone-taken taking_back taking_back (bare_take_back rec) (sym p ∙ e)).0
      go (is-close a p) = let w = (alone-taken closing_entry taking_back (bare_close rec) (sym p ∙ e)).1 in absurd (let z : ◌≡◌ {A = ℕ} 0 1 = cc in omega arith)
      go (is-other a p) = other (parse Any rec) (sym p ∙ e)

  general-close : parse_any rec ≡ fine closing_entry → general rec ≡ closing 0
  general-close e = go (sort-of rec)
    where
      other : (i : Input Change) → as_entry i ≡ fine closing_entry → general rec ≡ closing 0
      other (fine c) q = absurd (let z : ◌≡◌ {A = ℕ} 0 1 = cc in omega arith)
      other (fault n) q = absurd (let z : ◌≡◌ {A = ℕ} 0 1 = cc in omega arith)

      go : Sort rec → general rec ≡ closing 0
      go (is-back a p) =
          let w = (alone-taken taking_back closing_entry (bare_take_back rec) (sym p ∙ e)).1 in
          absurd (let z : ◌≡◌ {A = ℕ} 0 1 = cc in omega arith)
      go (is-close a p) = a ∙ ap closing (alone-taken closing_entry closing_entry (bare_close rec) (sym p ∙ e)).0
      go (is-other a p) = other (parse Any rec) (sym p ∙ e)

  general-change : (c : Change) → parse_any rec ≡ fine (changed c) → (general rec ≡ listed (parse Any rec)) × (parse Any rec ≡ fine c)
  general-change c e = go (sort-of rec)
    where
      other : (i : Input Change) → as_entry i ≡ fine (changed c) → i ≡ fine c
      other (fine d) q = let p : d ≡ c = cc in ap fine p
      other (fault n) q = absurd (let z : ◌≡◌ {A = ℕ} 0 1 = cc in omega arith)

      go : Sort rec → (general rec ≡ listed (parse Any rec)) × (parse Any rec ≡ fine c)
      go (is-back a p) =
          let w = (alone-taken taking_back (changed c) (bare_take_back rec) (sym p ∙ e)).1 in
          absurd (let z : ◌≡◌ {A = ℕ} 0 1 = cc in omega arith)
      go (is-close a p) = let w = (alone-taken closing_entry (changed c) (bare_close rec) (sym p ∙ e)).1 in absurd (let z : ◌≡◌ {A = ℕ} 0 1 = cc in omega arith)
      go (is-other a p) = (a, other (parse Any rec) (sym p ∙ e))

-- by what was read of it
module _ {rec : List ℕ} {a : Act} (r : IsEntry rec a) where
  pub only-back : a ≡ TakeBack → general rec ≡ taken_back 0
  only-back z = go r.what r.input (sym r.is ∙ z)
    where
      go : (x : Entry) → parse_any rec ≡ fine x → act_of x ≡ TakeBack → general rec ≡ taken_back 0
      go (changed c) e k = absurd (let y : ◌≡◌ {A = ℕ} 0 1 = cc in omega arith)
      go taking_back e k = general-back rec e
      go closing_entry e k = absurd (let y : ◌≡◌ {A = ℕ} 0 1 = cc in omega arith)

  pub only-close : a ≡ Close → general rec ≡ closing 0
  only-close z = go r.what r.input (sym r.is ∙ z)
    where
      go : (x : Entry) → parse_any rec ≡ fine x → act_of x ≡ Close → general rec ≡ closing 0
      go (changed c) e k = absurd (let y : ◌≡◌ {A = ℕ} 0 1 = cc in omega arith)
      go taking_back e k = absurd (let y : ◌≡◌ {A = ℕ} 0 1 = cc in omega arith)
      go closing_entry e k = general-close rec e

  pub only-record : {v : View} → a ≡ Changing v → (general rec ≡ listed (parse Any rec)) × IsChange Any rec v
  only-record {v} z = go r.what r.input (sym r.is ∙ z)
    where
      go : (x : Entry) → parse_any rec ≡ fine x → act_of x ≡ Changing v → (general rec ≡ listed (parse Any rec)) × IsChange Any rec v
      go (changed c) e k =
          let p : v ≡ viewed c = cc in
          let g = general-change rec c e in (g.0, record { what = c; input = g.1; is = p })
      go taking_back e k = absurd (let y : ◌≡◌ {A = ℕ} 0 1 = cc in omega arith)
      go closing_entry e k = absurd (let y : ◌≡◌ {A = ℕ} 0 1 = cc in omega arith)

pub makes-by : {f g : ℕ → Reg → Step} {b : Book} {s : List ℕ} {k : Key} {d : Done} {s' : List ℕ} {rows' : List Row} → g ≡ f → Makes f b s k d s' rows'
    → Makes g b s k d s' rows'
makes-by {b = b} {s = s} {k = k} {d = d} {s' = s'} {rows' = rows'} e m = subst⁻¹ (λ (y : ℕ → Reg → Step). Makes y b s k d s' rows') e m

pub any-refused : (b : Book) (s : List ℕ) (x : Loaded b s) (rec : List ℕ) {n : ℕ} → fault n ≡ seen_act (parse_any rec)
    → Leaves (general rec) b s b (refused n) s
any-refused b s x rec {n} e = leaves-answered (general rec) b s (refused n) (step_is (general rec) b s x ∙ go (parse_any rec) refl e)
  where
    go : (i : Input Entry) → parse_any rec ≡ i → fault n ≡ seen_act i → general rec (length s) (reg_of b s x) ≡ answered (refused n)
    go (fine y) q e = absurd (let z : ◌≡◌ {A = ℕ} 0 1 = cc in omega arith)
    go (fault m) q e = let p : fault m ≡ fault n = cc in general-fault rec n (q ∙ p) (length s) (reg_of b s x)

-- bytes of which no record can be read
pub unread-refused : {b : Book} {s : List ℕ} {rows : List Row} → Checked b s rows → (rec : List ℕ) (j : ℕ) → entry rec ≡ bad j → Leaves (general rec) b s b (refused j) s
unfolding parse_any
unread-refused {b} {s} h rec j e = leaves-answered (general rec) b s (refused j)
    (step_is (general rec) b s h.base ∙ general-fault rec j (ap whole e) (length s) (reg_of b s h.base))
