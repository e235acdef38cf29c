-- What each answer of the book's methods rests on.
use Rattle.std.specs.Prelude.{◌≡◌, refl, ℕ, zero, suc, List, length, take}
use Rattle.std.proofs.Common.{sym, ap, ◌∙◌}
use Rattle.std.proofs.Math.Path.{subst⁻¹}
use Rattle.std.proofs.Math.Seq.{take-length}
use Rattle.book.specs.Layer.{Key, Asked, got, bad, input_of, fine, fault}
use Rattle.book.specs.declared.book.Book.{Book}
use Rattle.book.specs.Register.{Reg, Reply, refused, accepted, Step, answered, becomes, unless-closed, keyed, write_all}
use Rattle.book.specs.Meaning.{mismatched, load, After, book_of, leaving, stepped, outcome, Leaves}
use Rattle.book.specs.laws.LoadLaws.{Loaded}

-- the register that a loaded book stands for
abbrev pub reg_of : (b : Book) (s : List ℕ) → Loaded b s → Reg
reg_of b s x = record { list = x.list; closed = b.closed }

module _ (f : ℕ → Reg → Step) (b : Book) (s : List ℕ) where
  pub step_is : (x : Loaded b s) → stepped f b s (load b s) ≡ f (length s) (reg_of b s x)
  step_is x = ap (stepped f b s) x.is

  step-mismatched : load b s ≡ mismatched → stepped f b s (load b s) ≡ answered (refused 16)
  step-mismatched e = ap (stepped f b s) e

  -- the promise of a method, from the step that the register takes
  pub leaves-answered : (r : Reply) → stepped f b s (load b s) ≡ answered r → Leaves f b s b r s
  unfolding outcome
  leaves-answered r e =
      let o = ap (leaving b s) e in
      record {
        book = sym (ap (λ (x : After). x.book) o);
        answer = sym (ap (λ (x : After). x.answer) o);
        size = refl;
        bytes = subst⁻¹ (λ (x : After). take (length x.kept) s ≡ x.kept) o (take-length s);
      }

  pub leaves-16 : load b s ≡ mismatched → Leaves f b s b (refused 16) s
  leaves-16 e = leaves-answered (refused 16) (step-mismatched e)

  pub leaves-accepted : (g : Reg) (b' : Book) (s' : List ℕ) → stepped f b s (load b s) ≡ becomes g
      → b' ≡ book_of g → length s' ≡ length s → take (length (write_all g.list)) s' ≡ write_all g.list → Leaves f b s b' accepted s'
  unfolding outcome
  leaves-accepted g b' s' e p size q =
      let o = ap (leaving b s) e in
      record {
        book = p ∙ sym (ap (λ (x : After). x.book) o);
        answer = sym (ap (λ (x : After). x.answer) o);
        size = size;
        bytes = subst⁻¹ (λ (x : After). take (length x.kept) s' ≡ x.kept) o q;
      }

-- a call that is a mark only: m is its first fault
pub bare-fault : (b : Book) (s : List ℕ) (x : Loaded b s) (m n : ℕ) → n ≡ m → (f : ℕ → Reg → Step) (st : Step)
    → f (length s) (reg_of b s x) ≡ unless-closed m (reg_of b s x) st
    → (n ≡ 0 → ⊥) → stepped f b s (load b s) ≡ answered (refused n)
bare-fault b s x m n q f st e z = step_is f b s x ∙ e ∙ go m q
  where
    go : (m : ℕ) → n ≡ m → unless-closed m (reg_of b s x) st ≡ answered (refused n)
    go zero q = absurd (z q)
    go (suc m) q = ap (λ (j : ℕ). answered (refused j)) (sym q)

-- a question with a key
pub keyed-wrong : (a : Asked) (f : Key → Reply) {n : ℕ} → fault n ≡ input_of a → keyed a f ≡ refused n
keyed-wrong (got k t) f e = cc
keyed-wrong (bad m) f {n} e = let p : m ≡ n = cc in ap refused p

pub keyed-right : (a : Asked) (f : Key → Reply) {k : Key} → fine k ≡ input_of a → keyed a f ≡ f k
keyed-right (got x t) f {k} e = let p : x ≡ k = cc in ap f p
keyed-right (bad n) f e = cc
