-- Which bytes are a book's.
use Rattle.std.specs.Prelude.{ℕ, ◌≤◌, ◌<◌, ◌≡◌, refl, List, [], Bool, true, false, cond, length, take, leb}
use Rattle.std.proofs.Common.{sym, ap, ◌∙◌, subst, arith, length-take, le-leb, leb-true, leb-false}
use Rattle.std.proofs.lemmas.Bool.{lt-leb}
use Rattle.book.specs.Layer.{Change}
use Rattle.book.specs.declared.book.Book.{Book}
use Rattle.book.specs.Register.{Reg, fresh, write_all}
use Rattle.book.specs.Meaning.{belongs, mismatched, replay, load, Valid, book_of}
use Rattle.book.specs.laws.ReplayLaws.{replay-whole, replay-sound}

pub load-short : (b : Book) (s : List ℕ) → length s < b.used → load b s ≡ mismatched
unfolding load
load-short b s h = simp (lt-leb b.used (length s) h)

pub load-long : (b : Book) (s : List ℕ) → b.used ≤ length s → load b s ≡ replay b.changes [] (take b.used s)
unfolding load
load-long b s h = ap (λ (t : Bool). cond t (replay b.changes [] (take b.used s)) mismatched) (le-leb b.used (length s) h)

-- a book and bytes that belong together
pub record Loaded (b : Book) (s : List ℕ) : Type 0 where
  pub list : List Change
  pub is : load b s ≡ belongs list
  pub valid : Valid list
  pub within : b.used ≤ length s
  pub bytes : write_all list ≡ take b.used s
  pub size : length (write_all list) ≡ b.used
  pub count-is : length list ≡ b.changes

pub loaded-from : (b : Book) (s : List ℕ) (l : List Change) → load b s ≡ belongs l → Loaded b s
unfolding Valid write_all
loaded-from b s l e = go (leb b.used (length s)) refl
  where
    go : (t : Bool) → leb b.used (length s) ≡ t → Loaded b s
    go true t =
        let le = leb-true b.used (length s) t in
        let p = replay-sound b.changes [] (take b.used s) l tt (sym (load-long b s le) ∙ e) in
        record {
          list = l;
          is = e;
          valid = p.valid;
          within = le;
          bytes = p.bytes;
          size = omega (arith, ap length p.bytes, length-take b.used s);
          count-is = omega (arith, p.count);
        }
    go false t = let z : ◌≡◌ {A = ℕ} 0 1 = cc (load-short b s (leb-false b.used (length s) t)) in absurd (omega arith)

pub loaded-valid : (b : Book) (s : List ℕ) (l : List Change) → load b s ≡ belongs l → Valid l
loaded-valid b s l e = let x = loaded-from b s l e in let p : x.list ≡ l = cc x.is in subst Valid p x.valid

-- a list that can be played, with its written form in front of the bytes, is read back
pub load-whole : (g : Reg) (s : List ℕ) → Valid g.list → take (length (write_all g.list)) s ≡ write_all g.list → load (book_of g) s ≡ belongs g.list
load-whole g s v h =
    load-long (book_of g) s (omega (arith, simp length-take at (ap length h))) ∙ ap (replay (length g.list) []) h ∙ replay-whole g.list v

abbrev pub loaded-whole : (g : Reg) (s : List ℕ) → Valid g.list → take (length (write_all g.list)) s ≡ write_all g.list → Loaded (book_of g) s
loaded-whole g s v h = record {
  list = g.list;
  is = load-whole g s v h;
  valid = v;
  within = omega (arith, simp length-take at (ap length h));
  bytes = sym h;
  size = refl;
  count-is = refl;
}

-- ---- a fresh book, over any bytes

pub fresh-valid : Valid fresh.list
unfolding Valid
fresh-valid = tt

pub fresh-bytes : (s : List ℕ) → take (length (write_all fresh.list)) s ≡ write_all fresh.list
unfolding write_all
fresh-bytes s = refl

pub fresh-book : record { changes = 0; used = 0; closed = false } ≡ book_of fresh
unfolding write_all
fresh-book = refl

pub load_fresh : (s : List ℕ) → load (record { changes = 0; used = 0; closed = false }) s ≡ belongs []
load_fresh s = ap (λ (b : Book). load b s) fresh-book ∙ load-whole fresh s fresh-valid (fresh-bytes s)
