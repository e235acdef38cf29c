-- On every open book as many takings back can be made as changes are listed: what demand 3 says of them is not empty.
use Rattle.std.specs.Prelude.{ℕ, zero, suc, ◌≤◌, ◌≡◌, List, false, length, take}
use Rattle.std.proofs.Common.{ap, arith}
use Rattle.std.proofs.Math.Path.{subst⁻¹}
use Rattle.book.specs.Layer.{take_back_bytes}
use Rattle.book.specs.declared.book.Book.{Book}
use Rattle.book.specs.Register.{take_back, Reply, write_all, Turn, run}
use Rattle.book.specs.Meaning.{Meets}
use Rattle.book.specs.Session.{Session, Undo, undone, undo}
use Rattle.demands.proofs.laws.ListLaws.{backed}
use Rattle.demands.proofs.laws.RealLaws.{possible, run-valid}

pub record Undoable {ts : List Turn} {rs : List Reply} {b : Book} {log : List ℕ} (σ : Session ts rs b log) (n : ℕ) : Type 0 where
  pub turns : List Turn
  pub replies : List Reply
  pub book : Book
  pub kept : List ℕ
  pub is : Undo σ n turns replies book kept

pub undoable : {ts : List Turn} {rs : List Reply} {b : Book} {log : List ℕ} (σ : Session ts rs b log) → b.closed ≡ false → (n : ℕ)
    → n ≤ length (run ts).list → Undoable σ n
undoable {ts} {rs} {b} {log} σ op zero le = record { turns = ts; replies = rs; book = b; kept = log; is = undone }
undoable {ts} {rs} {b} {log} σ op (suc n) le =
    let u = undoable σ op n (omega arith) in
    let a = (backed σ op (omega arith) u.is).2 in
    let g = run u.turns in
    let p = possible g (run-valid u.turns) (take_back take_back_bytes) (length (write_all g.list)) in
    record {
      turns = _;
      replies = _;
      book = p.book;
      kept = _;
      is = undo u.is p.s
          (subst⁻¹ (λ (x : List ℕ). take (length x) p.s ≡ take (length p.s) x) a.used p.left)
          (omega (arith, ap (λ (x : Book). x.used) a.carried, p.len))
          p.book p.said p.s'
          (subst⁻¹ (λ (x : Book). Meets (take_back take_back_bytes) x p.s p.book p.said p.s') a.carried p.meets);
    }
