-- Every input, in pieces of any sizes: what is printed is its output.
use Rattle.std.specs.Prelude.{◌≡◌, Bool, true, false, cond, Result, List, [], ◌++◌, eqb, length, take, drop}
use Rattle.std.proofs.Math.Path.{refl, sym, subst⁻¹}
use Rattle.std.proofs.Common.{ap, ◌∙◌, subst, arith, length-take, length-drop, drop-drop, ltb-true, ltb-false, le-leb, ne_eqb, ℕ, zero, suc, ◌+◌, ◌≤◌, ◌<◌}
use Rattle.std.proofs.lemmas.List.{drop-append-le}
use Rattle.std.proofs.Math.Seq.{drop-length}
use Rattle.money.specs.declared.refusals.Refusal.{Refusal}
use Rattle.records.specs.Changes.{Change, put}
use Rattle.book.specs.declared.book.Book.{Book}
use Rattle.book.specs.Register.{max_used, fresh, write_all}
use Rattle.book.specs.Meaning.{Load, belongs, load, book_of}
use Rattle.book.specs.Feed.{FeedReply, stopped, later, feeding, settled_as}
use Rattle.book.specs.FeedPromise.{Ends, Feeds}
use Rattle.book.specs.laws.LoadLaws.{load_fresh}
use Rattle.book.specs.laws.PieceLaws.{resumed, Pieces, pieces}
use Rattle.book.specs.laws.SettleLaws.{feeds-again, feeding-none, fresh-book, settled_is}
use Rattle.book.specs.laws.StopLaws.{stops, early-short}
use Rattle.statement.specs.Statement.{Outcome, fitted, Fits, written}
use Rattle.statement.specs.Refusal.{refusal_line}
use Rattle.filter.specs.Output.{printed_by, output_by}
use Rattle.filter.specs.Reading.{max_count, counted, begun, is_over, at_hand, waits, read_on, Takes, Waits, Stays, Reads, ReadsOn, ordinal, text_in, printing, Prints}
use Rattle.filter.specs.Program.{input_of, Run, start, next, Settles}
use Rattle.filter.proofs.laws.MoveLaws.{put_first, take-taken}
use Rattle.filter.proofs.laws.WaitLaws.{loaded-size, feeding-early}
use Rattle.filter.specs.declared.reading.Reading.{Reading}
use Rattle.book.specs.laws.LayerLaws.{longest_record}

counted-more : (a b : ℕ) → counted (counted a + b) ≡ counted (a + b)
counted-more a b = omega arith

module _ (lent : ℕ) where
  -- what the register says of the bytes that were read
  abbrev reached : List ℕ → FeedReply
  reached s = feeding lent fresh s

  -- a reading of the bytes s: the book is the register's, and what is not taken of them is held, unless no more bytes matter
  record Stands (s : List ℕ) (r : Reading) (log input : List ℕ) : Type 0 where
    size : length log ≡ lent
    book : r.book ≡ book_of (reached s).reg
    loaded : load r.book log ≡ belongs (reached s).reg.list
    count : r.count ≡ counted (reached s).count
    number : r.number ≡ (reached s).number
    held : is_over r ≡ false → r.held ≡ length (drop (reached s).taken s)
    bytes : is_over r ≡ false → take r.held input ≡ drop (reached s).taken s

  stands-start : (log input : List ℕ) → length log ≡ lent → Stands [] begun log input
  stands-start log input e =
      let f : stopped fresh 0 ≡ reached [] = sym (feeding-none lent fresh) in
      record {
        size = e;
        book = sym fresh-book ∙ ap (λ (x : FeedReply). book_of x.reg) f;
        loaded = load_fresh log ∙ ap (λ (x : FeedReply). belongs x.reg.list) f;
        count = ap (λ (x : FeedReply). counted x.count) f;
        number = ap (λ (x : FeedReply). x.number) f;
        held = λ z. ap (λ (x : FeedReply). length (drop {A = ℕ} x.taken [])) f;
        bytes = λ z. ap (λ (x : FeedReply). drop {A = ℕ} x.taken []) f;
      }

  -- ---- a piece more

  -- reading goes on from where it stood, unless no more bytes matter
  goes_on : (s p : List ℕ) → (reached s).number ≤ 1 → reached (s ++ p) ≡ resumed lent (reached s) (drop (reached s).taken s ++ p)
  goes_on s p = go (reached s).number refl
    where
      w : Pieces lent fresh s p
      w = pieces lent fresh s p

      go : (n : ℕ) → (reached s).number ≡ n → n ≤ 1 → reached (s ++ p) ≡ resumed lent (reached s) (drop (reached s).taken s ++ p)
      go zero e h =
          let d : drop (reached s).taken s ≡ [] = ap (λ (n : ℕ). drop n s) (w.whole e).0 ∙ drop-length s in
          (w.whole e).1 ∙ ap (λ (l : List ℕ). resumed lent (reached s) (l ++ p)) (sym d)
      go (suc zero) e h = w.cut e
      go (suc (suc n)) e h = absurd (omega arith)

  module _ (s p : List ℕ) (r : Reading) (log input : List ℕ) (x : Stands s r log input) (space : List ℕ)
      (q : take (r.held + length p) space ≡ take r.held input ++ p) where
    -- nothing more is read
    still : is_over r ≡ true → (r' : Reading) (log' input' : List ℕ) → Stays r log space r' log' input' → Stands (s ++ p) r' log' input'
    still o r' log' input' y =
        let n : 1 < r.number = ltb-true 1 r.number o in
        let f : reached (s ++ p) ≡ reached s = (pieces lent fresh s p).refused (λ z. omega (arith, x.number)) (λ z. omega (arith, x.number)) in
        let over : is_over r' ≡ true = ap is_over y.reading ∙ o in
        record {
          size = ap length y.kept ∙ x.size;
          book = ap (λ (a : Reading). a.book) y.reading ∙ x.book ∙ ap (λ (a : FeedReply). book_of a.reg) (sym f);
          loaded = (λ i. load (y.reading i).book (y.kept i)) ∙ x.loaded ∙ ap (λ (a : FeedReply). belongs a.reg.list) (sym f);
          count = ap (λ (a : Reading). a.count) y.reading ∙ x.count ∙ ap (λ (a : FeedReply). counted a.count) (sym f);
          number = ap (λ (a : Reading). a.number) y.reading ∙ x.number ∙ ap (λ (a : FeedReply). a.number) (sym f);
          held = λ z. absurd (apart over z);
          bytes = λ z. absurd (apart over z);
        }
      where
        apart : {b : Bool} → b ≡ true → b ≡ false → ⊥
        apart e z = let v : ◌≡◌ {A = ℕ} 0 1 = cc in omega arith

    module _ (o : is_over r ≡ false) where
      -- the bytes at hand
      abbrev t : List ℕ
      t = drop (reached s).taken s ++ p

      at-hand : at_hand r (length p) space ≡ t
      at-hand = q ∙ ap (λ (l : List ℕ). l ++ p) (x.bytes o)

      all : reached (s ++ p) ≡ resumed lent (reached s) t
      all = goes_on s p (omega (arith, ltb-false 1 r.number o, x.number))

      -- what is left of them is what is left of all
      rest-is : drop (feeding lent (reached s).reg t).taken t ≡ drop (reached (s ++ p)).taken (s ++ p)
      rest-is =
          let f = feeding lent (reached s).reg t in
          ap (drop f.taken) (sym (drop-append-le (reached s).taken s p (stops lent fresh s).within))
          ∙ drop-drop f.taken (reached s).taken (s ++ p) ∙ ap (λ (a : FeedReply). drop a.taken (s ++ p)) (sym all)

      same_reg : record { list = (reached s).reg.list; closed = r.book.closed } ≡ (reached s).reg
      same_reg = ap (λ (b : Book). record { list = (reached s).reg.list; closed = b.closed }) x.book

      -- they are the beginning of a record
      held_on : waits (at_hand r (length p) space) ≡ true → (r' : Reading) (log' input' : List ℕ) → Waits r log space (length p) r' log' input'
          → Stands (s ++ p) r' log' input'
      held_on u r' log' input' y =
          let g = reached s in
          let used : length (write_all g.reg.list) ≤ lent = omega (arith, loaded-size r.book log g.reg.list x.loaded, x.size) in
          let f : reached (s ++ p) ≡ later g.count g.taken (stopped g.reg 1) =
          all ∙ ap (later g.count g.taken) (feeding-early lent g.reg t (sym (ap waits at-hand) ∙ u) used) in
          let k : (reached (s ++ p)).taken ≡ g.taken = ap (λ (a : FeedReply). a.taken) f ∙ omega arith in
          let l : t ≡ drop (reached (s ++ p)).taken (s ++ p) = sym (drop-append-le g.taken s p (stops lent fresh s).within) ∙ ap
          (λ (n : ℕ). drop n (s ++ p)) (sym k) in
          let h : r'.held ≡ length (at_hand r (length p) space) = ap (λ (a : Reading). a.held) y.reading in
          record {
            size = ap length y.kept ∙ x.size;
            book = ap (λ (a : Reading). a.book) y.reading ∙ x.book ∙ ap (λ (a : FeedReply). book_of a.reg) (sym f);
            loaded = (λ i. load (y.reading i).book (y.kept i)) ∙ x.loaded ∙ ap (λ (a : FeedReply). belongs a.reg.list) (sym f);
            count = ap (λ (a : Reading). a.count) y.reading ∙ x.count ∙ ap counted (omega (arith, ap (λ (a : FeedReply). a.count) f));
            number = ap (λ (a : Reading). a.number) y.reading ∙ ap (λ (a : FeedReply). a.number) (sym f);
            held = λ e. h ∙ ap length (at-hand ∙ l);
            bytes = λ e. (λ i. take (h i) (y.rest i)) ∙ take-taken (r.held + length p) space ∙ at-hand ∙ l;
          }

      more : (r' : Reading) (log' input' : List ℕ) → Takes r log space (length p) r' log' input' → Stands (s ++ p) r' log' input'
      more r' log' input' y =
          let g = y.fed in
          let f = feeding lent (reached s).reg t in
          let m : Feeds r.book log t g log' = subst (λ (l : List ℕ). Feeds r.book log l g log') at-hand y.feeds in
          let same : feeding (length log) (record { list = (reached s).reg.list; closed = r.book.closed }) t ≡ f =
          (λ i. feeding (x.size i) (same_reg i) t) in
          let w : Ends f log g log' = subst (λ (a : FeedReply). Ends a log g log') same (m.together (reached s).reg.list x.loaded) in
          let z : r' ≡ read_on r g (drop g.taken t) = y.reading ∙ ap (λ (l : List ℕ). read_on r g (drop g.taken l)) at-hand in
          let l : drop g.taken t ≡ drop (reached (s ++ p)).taken (s ++ p) = ap (λ (n : ℕ). drop n t) w.taken ∙ rest-is in
          let h : r'.held ≡ length (drop g.taken t) = ap (λ (a : Reading). a.held) z in
          let i : input' ≡ put space 0 (drop g.taken t) = y.rest ∙ ap (λ (l : List ℕ). put space 0 (drop g.taken l)) at-hand in
          record {
            size = w.size ∙ x.size;
            book = ap (λ (a : Reading). a.book) z ∙ w.book ∙ ap (λ (a : FeedReply). book_of a.reg) (sym all);
            loaded = ap (λ (a : Reading). load a.book log') z ∙ feeds-again r.book log t g log' (reached s).reg.list x.loaded m
                ∙ ap (λ (a : FeedReply). belongs a.reg.list) same ∙ ap (λ (a : FeedReply). belongs a.reg.list) (sym all);
            count = ap (λ (a : Reading). a.count) z ∙ (λ j. counted (x.count j + w.count j)) ∙ counted-more (reached s).count f.count ∙ ap
                (λ (a : FeedReply). counted a.count) (sym all);
            number = ap (λ (a : Reading). a.number) z ∙ w.number ∙ ap (λ (a : FeedReply). a.number) (sym all);
            held = λ e. h ∙ ap length l;
            bytes = λ e. ap (λ (n : ℕ). take n input') h ∙ ap (take (length (drop g.taken t))) i ∙ put_first space (drop g.taken t) (short g.taken) ∙
                l;
          }
        where
          short : (k : ℕ) → length (drop k t) ≤ length space
          short k = omega (arith, length-drop k t, ap length at-hand, length-take (r.held + length p) space)

  stands-next : (s p : List ℕ) (r : Reading) (log input : List ℕ) → Stands s r log input → (space : List ℕ)
      → take (r.held + length p) space ≡ take r.held input ++ p
      → (r' : Reading) (log' input' : List ℕ) → ReadsOn r log space (length p) r' log' input' → Stands (s ++ p) r' log' input'
  stands-next s p r log input x space q r' log' input' m = go (is_over r) refl (waits (at_hand r (length p) space)) refl m.reads
    where
      go : (b : Bool) → is_over r ≡ b → (w : Bool) → waits (at_hand r (length p) space) ≡ w → Reads b w r log space (length p) r' log' input'
          → Stands (s ++ p) r' log' input'
      go true o w u y = still s p r log input x space q o r' log' input' y
      go false o true u y = held_on s p r log input x space q o u r' log' input' y
      go false o false u y = more s p r log input x space q o r' log' input' y

-- every run stands for the input that it read, over as many bytes as its log has
stands : {ps : List (List ℕ)} {r : Reading} {log input : List ℕ} → Run ps r log input → Stands (length log) (input_of ps) r log input
unfolding input_of
stands (start log input) = stands-start (length log) log input refl
stands (next {ps} {r} {log} {input} before p space q r' log' input' m) =
    let x = stands-next (length log) (input_of ps) p r log input (stands before) space q r' log' input' m in
    subst⁻¹ (λ (n : ℕ). Stands n (input_of ps ++ p) r' log' input') x.size x

-- ---- what is held

-- less is held than the longest record has: there is always room to read on
pub held-short : {ps : List (List ℕ)} {r : Reading} {log input : List ℕ} → Run ps r log input → is_over r ≡ false → r.held < longest_record
held-short {ps} {r} {log} {input} run o = go (reached (length log) s).number refl (omega (arith, ltb-false 1 r.number o, x.number))
  where
    s : List ℕ
    s = input_of ps

    x : Stands (length log) s r log input
    x = stands run

    go : (n : ℕ) → (reached (length log) s).number ≡ n → n ≤ 1 → r.held < longest_record
    go zero e h = omega (arith, x.held o, length-drop (reached (length log) s).taken s, ((pieces (length log) fresh s []).whole e).0)
    go (suc zero) e h = omega (arith, x.held o, early-short (length log) fresh s e)
    go (suc (suc n)) e h = absurd (omega arith)

-- ---- the output

-- a text that fits is what the first bytes are
front-is : (t lent left : List ℕ) (w : Result ℕ Refusal) → Fits t lent left w → length t ≤ length lent → take (written w) left ≡ t
front-is t lent left w f h =
    let b = le-leb (length t) (length lent) h in
    let n : written w ≡ length t = f.len ∙ rw b in
    let y : left ≡ put lent 0 t = f.bytes ∙ rw b in
    ap (λ (k : ℕ). take k left) n ∙ ap (take (length t)) y ∙ put_first lent t h

module _ (t : List Change → List ℕ) (longest : ℕ) where
  module _ (s : List ℕ) (r : Reading) (log input : List ℕ) (x : Stands max_used s r log input) (h : length s ≤ max_count) where
    -- the text of the reading is the output
    text-is : text_in t r (reached max_used s).reg.list ≡ output_by t s
    unfolding output_by
    text-is = go (reached max_used s).number refl ∙ sym (ap (printed_by t) (settled_is s))
      where
        go : (n : ℕ) → (reached max_used s).number ≡ n
            → text_in t r (reached max_used s).reg.list ≡ printed_by t (settled_as (reached max_used s).reg (reached max_used s).count n)
        go zero e = rw (x.number ∙ e)
        go (suc n) e =
            let k = stops max_used fresh s in
            let o : ordinal r ≡ (reached max_used s).count + 1 = omega (arith, x.count, k.few, k.refused (λ z. omega arith)) in
            rw (ne_eqb r.number 0 (λ z. omega (arith, x.number)), x.number ∙ e) (ap (λ (m : ℕ). refusal_line m (suc n)) o)

    module _ (lent left : List ℕ) (w : Result ℕ Refusal) (m : Prints t longest r (load r.book log) lent left w) where
      printing-is : printing t r (load r.book log) lent ≡ fitted (text_in t r (reached max_used s).reg.list) lent
      printing-is = ap (λ (y : Load). printing t r y lent) x.loaded ∙ go (eqb r.number 0)
        where
          l : List Change
          l = (reached max_used s).reg.list

          go : (b : Bool) → cond b (fitted (t l) lent) (fitted (refusal_line (ordinal r) r.number) lent) ≡ fitted
              (cond b (t l) (refusal_line (ordinal r) r.number)) lent
          go true = refl
          go false = refl

      settles : Settles t longest s lent left w
      settles =
          let p : printing t r (load r.book log) lent ≡ fitted (output_by t s) lent = printing-is ∙ ap (λ (y : List ℕ). fitted y lent) text-is in
          let n : length (output_by t s) ≤ longest = subst (λ (y : List ℕ). length y ≤ longest) text-is (m.most (reached max_used s).reg.list x.loaded) in
          let f : Fits (output_by t s) lent left w =
          record {
            number = m.number ∙ ap (λ (o : Outcome). o.number) p;
            len = m.len ∙ ap (λ (o : Outcome). o.len) p;
            bytes = m.bytes ∙ ap
                (λ (o : Outcome). o.bytes) p;
          } in
          record { fits = f; most = n; whole = λ k. front-is (output_by t s) lent left w f (omega arith) }

  -- the theorem, of a program that prints the text t: for every list of pieces, from a fresh book over 65,535 bytes, what is written at the end is the
  -- output of the whole input
  pub every-input : {ps : List (List ℕ)} {r : Reading} {log input : List ℕ} → Run ps r log input → length log ≡ max_used
      → length (input_of ps) ≤ max_count
      → (lent left : List ℕ) (w : Result ℕ Refusal) → Prints t longest r (load r.book log) lent left w → Settles t longest (input_of ps) lent left w
  every-input {ps} {r} {log} {input} run e h lent left w m =
      settles (input_of ps) r log input (subst (λ (n : ℕ). Stands n (input_of ps) r log input) e (stands run)) h lent left w m
