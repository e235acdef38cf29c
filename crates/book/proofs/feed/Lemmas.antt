-- What the reading loop rests on.
use Rattle.std.specs.Prelude.{◌≡◌, refl, ℕ, ◌+◌, ◌-◌, ◌≤◌, ◌<◌, List, Bool, cond, Result, Ok, Err, length, take, drop, get_or, set, replicate, eqb}
use Rattle.std.proofs.Common.{sym, ap, ◌∙◌, subst, arith, length-take, length-drop, length-set, take_all, drop-drop, get_or-set_same, get_or-set_other, eqb-true, eq-eqb}
use Rattle.std.proofs.lemmas.List.{length-replicate, get_or-replicate}
use Rattle.std.proofs.lemmas.Bool.{eqb-false}
use Rattle.std.proofs.Math.Path.{subst⁻¹}
use Rattle.std.proofs.Math.Seq.{drop-length}
use Rattle.book.specs.Layer.{Key, Change, Res, bad, got, Input, fine, fault, Entry, read_entry, act_of, front_of, Front, Refusal, number_of, fault_in}
use Rattle.book.specs.laws.LayerLaws.{number-some}
use Rattle.book.specs.declared.book.Book.{Book}
use Rattle.book.specs.declared.answers.Done.{Done}
use Rattle.book.specs.declared.feed.Fed.{Fed}
use Rattle.book.specs.Register.{Reg, change, general, Reply, refused, Step, answered, becomes, called, after, write_all}
use Rattle.book.specs.Meaning.{belongs, load, Valid, book_of, Meets, change_reply}
use Rattle.book.specs.Replies.{replied}
use Rattle.book.specs.laws.ReplayLaws.{called-valid}
use Rattle.book.specs.tables.Checked.{Checked, Makes, Since, IsEntry, key_in}
use Rattle.book.specs.tables.Index.{bucket, latest_of}
use Rattle.book.specs.laws.RegisterLaws.{by-test}
use Rattle.book.specs.laws.LoadLaws.{Loaded, loaded-from}
use Rattle.book.specs.laws.CallLaws.{Decided, decided-change, turn-book, turn-reply, turn-bytes, unmoved}
use Rattle.book.specs.Feed.{front, first_record, FeedReply, stopped, later, feed_on, fed, feeding}
use Rattle.book.specs.laws.FeedLaws.{first-front, first-within, first_some, first-whole, first_then, none_before, both-before}
use Rattle.book.specs.FeedPromise.{Ends, Feeds}
use Rattle.book.proofs.log.index.Lemmas.{latest-few}
use Rattle.book.proofs.log.checked.Lemmas.{unread-refused}
use Rattle.book.specs.declared.log.row.Row.{Row}

-- ---- the first record

module _ (s : List ℕ) where
  front-unread : {n : ℕ} → fault n ≡ front_of s (read_entry s) → read_entry s ≡ bad n
  front-unread {n} e = go (read_entry s) e
    where
      go : (r : Res Entry) → fault n ≡ front_of s r → r ≡ bad n
      go (bad k) q = let p : k ≡ n = cc in ap bad p
      go (got x t) q = cc

  module _ {f : Front} (e : fine f ≡ front_of s (read_entry s)) where
    front-end : f.end ≡ length (first_record s)
    unfolding first_record
    front-end = go (read_entry s) e
      where
        go : (r : Res Entry) → fine f ≡ front_of s r → f.end ≡ length (front s r)
        go (bad k) q = cc
        go (got x t) q =
            let p : f ≡ record { act = act_of x; end = length s - length t } = cc in
            ap (λ (y : Front). y.end) p ∙ omega (arith, length-take (length s - length t) s)

    -- it was read whole
    front_read : IsEntry (first_record s) f.act
    front_read = go (read_entry s) refl e
      where
        go : (r : Res Entry) → read_entry s ≡ r → fine f ≡ front_of s r → IsEntry (first_record s) f.act
        go (bad k) q e = cc
        go (got x t) q e =
            let p : f ≡ record { act = act_of x; end = length s - length t } = cc in
            record { what = x; input = first-whole s x t q; is = ap (λ (y : Front). y.act) p }

-- ---- what the code answers

-- a result that is the one shown
ends_by : {f : FeedReply} {s s' : List ℕ} {r r' : Fed} → r ≡ r' → Ends f s r' s' → Ends f s r s'
ends_by {f} {s} {s'} e w = subst⁻¹ (λ (y : Fed). Ends f s y s') e w

-- ---- the loop

-- the register that the book is now, and what is still to be read of f
pub record On (f : FeedReply) (lent : ℕ) (input : List ℕ) (b : Book) (s : List ℕ) (n at : ℕ) : Type 0 where
  pub reg : Reg
  pub valid : Valid reg.list
  pub book : b ≡ book_of reg
  pub bytes : take (length (write_all reg.list)) s ≡ write_all reg.list
  pub so_far : f ≡ later n at (feeding lent reg (drop at input))

-- after n records, which end at a place
pub record Going (b₀ : Book) (s₀ input : List ℕ) (b : Book) (rows : List Row) (latest s : List ℕ) (n at : ℕ) : Type 0 where
  pub size : length s ≡ length s₀
  pub within : at ≤ length input
  pub few : n ≤ at
  pub kept : n ≡ 0 → s ≡ s₀
  pub checked : Checked b s rows
  -- the latest change of each number is no later than is kept for it
  pub places : length latest ≡ 8192
  pub near : (h : ℕ) → h < 8192 → latest_of h checked.base.list ≤ get_or latest h 0
  pub on : (l : List Change) → load b₀ s₀ ≡ belongs l → On (feeding (length s₀) (record { list = l; closed = b₀.closed }) input) (length s₀) input b s n at

first_of : (b : Book) (s input : List ℕ) (l : List Change) → load b s ≡ belongs l → Loaded b s → On
    (feeding (length s) (record { list = l; closed = b.closed }) input) (length s) input b s 0 0
first_of b s input l e x =
    let y : x.list ≡ l = cc x.is in
    subst (λ (l : List Change). On (feeding (length s) (record { list = l; closed = b.closed }) input) (length s) input b s 0 0) y
    (record {
      reg = record { list = x.list; closed = b.closed };
      valid = x.valid;
      book = λ i. record { changes = sym x.count-is i; used = sym x.size i; closed = b.closed };
      bytes = ap (λ (n : ℕ). take n s) x.size ∙ sym x.bytes;
      so_far = none_before (feeding (length s) (record { list = x.list; closed = b.closed }) input);
    })

pub started : {b : Book} {s input : List ℕ} {rows : List Row} → Checked b s rows → Going b s input b rows (replicate 8192 b.changes) s 0 0
started {b} {s} {input} h = record {
  size = refl;
  within = omega arith;
  few = omega arith;
  kept = λ z. refl;
  checked = h;
  places = length-replicate {A = ℕ} 8192 b.changes;
  near = λ m lt. omega (arith, latest-few m h.base.list, h.base.count-is, get_or-replicate {A = ℕ} 8192 m b.changes 0 lt);
  on = λ l e. first_of b s input l e (loaded-from b s l e);
}

-- one record more
module _ (f : FeedReply) (s₀ input : List ℕ) (b : Book) (s : List ℕ) (n at : ℕ) (x : On f (length s₀) input b s n at)
    (size : length s ≡ length s₀) (kept : n ≡ 0 → s ≡ s₀) (some : at < length input) where
  abbrev p : List ℕ
  p = first_record (drop at input)

  rest-is : (st : Step) → called (change p) (length s) x.reg ≡ st → f ≡ later n at (feed_on x.reg p (drop at input) (feeding (length s₀)) st)
  rest-is st e =
      x.so_far
      ∙ ap (later n at) (first_then (length s₀) x.reg (drop at input) (omega (arith, length-drop at input))
      ∙ ap (feed_on x.reg p (drop at input) (feeding (length s₀))) (ap (λ (k : ℕ). called (change p) k x.reg) (sym size) ∙ e))

  module _ (b' : Book) (r : Reply) (s' : List ℕ) (m₀ : Meets (change p) b s b' r s') where
    m : Meets (change p) (book_of x.reg) s b' r s'
    m = subst (λ (y : Book). Meets (change p) y s b' r s') x.book m₀

    ends : (k : Result (Unit {0}) Refusal) → fault_in k ≡ replied r → (fault_in k ≡ 0 → ⊥)
        → Ends f s₀ (record { book = b'; count = n; taken = at; end = k }) s'
    ends k q z = go (called (change p) (length s) x.reg) refl
      where
        go : (st : Step) → called (change p) (length s) x.reg ≡ st → Ends f s₀ (record { book = b'; count = n; taken = at; end = k }) s'
        go (answered y) e =
            let w = rest-is (answered y) e in
            let u : s' ≡ s = unmoved s s' m.size (turn-bytes x.reg s x.valid x.bytes (change p) b' r s' m (answered y) e) in
            subst⁻¹ (λ (f : FeedReply). Ends f s₀ (record { book = b'; count = n; taken = at; end = k }) s') w (record {
              count = omega arith;
              taken = omega arith;
              number = q ∙ ap replied (turn-reply x.reg s x.valid x.bytes (change p) b' r s' m (answered y) e);
              book = turn-book x.reg s x.valid x.bytes (change p) b' r s' m (answered y) e;
              size = m.size ∙ size;
              bytes = ap (take (length (write_all x.reg.list))) u ∙ x.bytes;
              kept = λ o. u ∙ kept (omega arith);
            })
        go (becomes y) e = absurd (z (q ∙ ap replied (turn-reply x.reg s x.valid x.bytes (change p) b' r s' m (becomes y) e)))

    on-with : replied r ≡ 0 → On f (length s₀) input b' s' (n + 1) (at + length p)
    on-with z = go (called (change p) (length s) x.reg) refl
      where
        go : (st : Step) → called (change p) (length s) x.reg ≡ st → On f (length s₀) input b' s' (n + 1) (at + length p)
        go (answered y) e =
            let d : Decided (answered y) = subst Decided e (decided-change p (length s) x.reg) in
            let w = turn-reply x.reg s x.valid x.bytes (change p) b' r s' m (answered y) e in
            absurd (omega (arith, sym (ap replied (w ∙ d.is)) ∙ z, d.above))
        go (becomes y) e = record {
          reg = y;
          valid = subst (λ (st : Step). Valid (after st x.reg).list) e (called-valid (change p) (length s) x.reg x.valid);
          book = turn-book x.reg s x.valid x.bytes (change p) b' r s' m (becomes y) e;
          bytes = turn-bytes x.reg s x.valid x.bytes (change p) b' r s' m (becomes y) e;
          so_far =
              rest-is (becomes y) e ∙ both-before n at 1 (length p) (feeding (length s₀) y (drop (length p) (drop at input)))
              ∙ ap (λ (l : List ℕ). later (n + 1) (at + length p) (feeding (length s₀) y l)) (drop-drop (length p) at input);
        }

-- nothing is left
finishes : (f : FeedReply) (s₀ input : List ℕ) (b : Book) (s : List ℕ) (n at : ℕ) → On f (length s₀) input b s n at
    → length s ≡ length s₀ → (n ≡ 0 → s ≡ s₀) → at ≡ length input → Ends f s₀ (record { book = b; count = n; taken = at; end = Ok tt }) s
unfolding fed
finishes f s₀ input b s n at x size kept all =
    let w : f ≡ later n at (stopped x.reg 0) = x.so_far ∙ ap (λ (l : List ℕ). later n at (feeding (length s₀) x.reg l))
    (ap (λ (k : ℕ). drop k input) all ∙ drop-length input) in
    subst⁻¹ (λ (f : FeedReply). Ends f s₀ (record { book = b; count = n; taken = at; end = Ok tt }) s) w (record {
      count = omega arith;
      taken = omega arith;
      number = refl;
      book = x.book;
      size = size;
      bytes = x.bytes;
      kept = λ o. kept (omega arith);
    })

module _ {b₀ : Book} {s₀ input : List ℕ} {b : Book} {rows : List Row} {latest s : List ℕ} {n at : ℕ} (g : Going b₀ s₀ input b rows latest s n at) where
  pub finished : length input ≤ at → {r : Fed} → r ≡ record { book = b; count = n; taken = at; end = Ok tt } → (l : List Change) → load b₀ s₀ ≡ belongs l
      → Ends (feeding (length s₀) (record { list = l; closed = b₀.closed }) input) s₀ r s
  finished h er l e = ends_by er (finishes _ s₀ input b s n at (g.on l e) g.size g.kept (omega (arith, g.within)))

  -- where the search for a key starts
  pub since : {k : Key} {m : ℕ} → m ≡ bucket k → m < 8192 → {from : ℕ} → (from ≤ b.changes) × ((j : ℕ) → j ≤ get_or latest m 0 → j ≤ b.changes → j ≤ from)
      → Since b s k from
  since {k} {m} em lt w = record {
    inside = w.0;
    none = λ l p.
        let e : g.checked.base.list ≡ l = cc g.checked.base.is in
        let is : latest_of m g.checked.base.list ≡ latest_of (bucket k) l = λ i. latest_of (em i) (e i) in
        w.1 (latest_of (bucket k) l) (omega (arith, g.near m lt, is)) (omega (arith, latest-few (bucket k) l, ap length e, g.checked.base.count-is));
  }

  -- what stands first in the rest of the input
  module _ (some : at < length input) where
    front-is : {i : Input Front} → i ≡ front_of (take (length input - at) (drop at input)) (read_entry (take (length input - at) (drop at input)))
        → i ≡ front_of (drop at input) (read_entry (drop at input))
    front-is e = e ∙ ap (λ (l : List ℕ). front_of l (read_entry l)) (take_all (length input - at) (drop at input) (omega (arith, length-drop at input)))

    pub unread : {y : Refusal}
        → fault (number_of y) ≡ front_of (take (length input - at) (drop at input)) (read_entry (take (length input - at) (drop at input)))
        → {r : Fed} → r ≡ record { book = b; count = n; taken = at; end = Err y } → (l : List Change) → load b₀ s₀ ≡ belongs l
        → Ends (feeding (length s₀) (record { list = l; closed = b₀.closed }) input) s₀ r s
    unfolding first_record
    unread {y} e₀ er l e =
        let k = number_of y in
        let q = front-unread (drop at input) (front-is e₀) in
        let m : Meets (change (first_record (drop at input))) b s b (refused k) s = subst⁻¹
        (λ (p : List ℕ). Meets (change p) b s b (refused k) s) (ap (front (drop at input)) q) (unread-refused g.checked (drop at input) k q) in
        ends_by er (ends _ s₀ input b s n at (g.on l e) g.size g.kept some b (refused k) s m (Err y) refl (number-some y))

    -- a record, which ends there
    module _ {f : Front}
        (e₀ : fine f ≡ front_of (take (length input - at) (drop at input)) (read_entry (take (length input - at) (drop at input)))) where
      front-there : f.end ≡ length (first_record (drop at input))
      front-there = front-end (drop at input) (front-is e₀)

      pub end-within : at + f.end ≤ length input
      end-within = omega (arith, front-there, first-within (drop at input), length-drop at input)

      pub end_after : 0 < f.end
      end_after = omega (arith, front-there, first_some (drop at input) (omega (arith, length-drop at input)))

      between : take (at + f.end - at) (drop at input) ≡ first_record (drop at input)
      between =
          let k : at + f.end - at ≡ length (first_record (drop at input)) = omega (arith, front-there) in
          ap (λ (j : ℕ). take j (drop at input)) k ∙ first-front (drop at input)

      pub read-there : IsEntry (take (at + f.end - at) (drop at input)) f.act
      read-there = subst⁻¹ (λ (p : List ℕ). IsEntry p f.act) between (front_read (drop at input) (front-is e₀))

      -- and what the book said to it
      module _ {r : Done} {s' : List ℕ} {rows' : List Row} (m : Makes (general (take (at + f.end - at) (drop at input))) b s (key_in f.act) r s' rows') where
        said : Meets (change (first_record (drop at input))) b s r.book (change_reply r.answer) s'
        said = subst (λ (p : List ℕ). Meets (change p) b s r.book (change_reply r.answer) s') between m.leaves

        pub stops : {y : Refusal} → r.answer ≡ Err y → {z : Fed} → z ≡ record { book = r.book; count = n; taken = at; end = Err y } → (l : List Change)
            → load b₀ s₀ ≡ belongs l → Ends (feeding (length s₀) (record { list = l; closed = b₀.closed }) input) s₀ z s'
        stops {y} ey ez l e = ends_by ez
            (ends _ s₀ input b s n at (g.on l e) g.size g.kept some r.book (change_reply r.answer) s' said (Err y)
            (ap (λ (a : Result (Unit {0}) Refusal). replied (change_reply a)) (sym ey)) (number-some y))

        pub continues : r.answer ≡ Ok tt → {j : ℕ} → j ≡ bucket (key_in f.act) → j < 8192
            → Going b₀ s₀ input r.book rows' (set latest j r.book.changes) s' (n + 1) (at + f.end)
        continues y {j} ej lt = record {
          size = m.leaves.size ∙ g.size;
          within = end-within;
          few = omega (arith, g.few, end_after);
          kept = λ o. absurd (omega arith);
          checked = m.checked;
          places = length-set latest j r.book.changes ∙ g.places;
          near = λ h hl.
              by-test (eqb h j)
              (λ u. let e = eqb-true h j u in
              omega (
                arith,
                latest-few h m.checked.base.list,
                m.checked.base.count-is,
                ap (λ (i : ℕ). get_or (set latest j r.book.changes) i 0) e,
                get_or-set_same latest j r.book.changes 0 (omega (arith, g.places)),
              ))
              (λ u. omega (
                arith,
                m.older g.checked.base.list m.checked.base.list g.checked.base.is m.checked.base.is h (λ e. eqb-false h j u (e ∙ sym ej)),
                g.near h hl,
                get_or-set_other latest j h r.book.changes 0 (eqb-false h j u),
              ));
          on = λ l e. subst⁻¹
              (λ (j : ℕ). On (feeding (length s₀) (record { list = l; closed = b₀.closed }) input) (length s₀) input r.book s' (n + 1) (at + j))
              front-there
              (on-with _ s₀ input b s n at (g.on l e) g.size g.kept some r.book (change_reply r.answer) s' said
              (ap (λ (a : Result (Unit {0}) Refusal). replied (change_reply a)) y));
        }

-- no record at all
pub fed-none : (b : Book) (s input : List ℕ) → length input ≡ 0 → {r : Fed} → r ≡ record { book = b; count = 0; taken = 0; end = Ok tt } → Feeds b s input r s
fed-none b s input e er = subst⁻¹ (λ (y : Fed). Feeds b s input y s) er (record {
  together = λ l d. finishes _ s input b s 0 0 (on l d) refl (λ z. refl) (sym e);
  apart = λ d. record { count = refl; taken = refl; number = ap (λ (t : Bool). cond t 0 16) (sym (eq-eqb (length input) 0 e)); book = refl; bytes = refl };
})
  where
    on : (l : List Change) → load b s ≡ belongs l → On (feeding (length s) (record { list = l; closed = b.closed }) input) (length s) input b s 0 0
    on l d = first_of b s input l d (loaded-from b s l d)
