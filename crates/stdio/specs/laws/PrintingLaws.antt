-- What holds of all that a program prints, whatever its text.
use Rattle.std.specs.Prelude.{◌≡◌, refl, Bool, true, false, Option, Some, None, Result, List, ℕ, ◌≤◌, leb, length}
use Rattle.std.proofs.Common.{sym, ap, ◌∙◌, arith, leb-true}
use Rattle.money.specs.declared.refusals.Refusal.{Refusal}
use Rattle.records.specs.Changes.{Change, put}
use Rattle.records.proofs.laws.BookLaws.{put-length}
use Rattle.book.specs.Register.{max_used}
use Rattle.book.specs.Meaning.{load}
use Rattle.statement.specs.Statement.{Fits, written}
use Rattle.filter.specs.Reading.{Prints}
use Rattle.filter.specs.Program.{input_of}
use Rattle.filter.specs.Output.{output_by}
use Rattle.filter.proofs.laws.OutputLaws.{every-input}
use Rattle.stdin.specs.Rounds.{ReadAll, failed}
use Rattle.stdio.specs.Printing.{Writes, Shows, Outputs, Printed, printed_len}
use Rattle.stdin.specs.laws.RoundLaws.{read-run, read-few}
use Rattle.stdin.specs.declared.Input.{Input}

-- what is written stands in the bytes
fits-short : (t lent left : List ℕ) (w : Result ℕ Refusal) → Fits t lent left w → written w ≤ length left
fits-short t lent left w f = go (leb (length t) (length lent)) refl
  where
    go : (b : Bool) → leb (length t) (length lent) ≡ b → written w ≤ length left
    go true e =
        let n : written w ≡ length t = f.len ∙ rw e in
        let y : left ≡ put lent 0 t = f.bytes ∙ rw e in
        omega (arith, n, ap length y, put-length lent 0 t, leb-true (length t) (length lent) e)
    go false e = let n : written w ≡ 0 = f.len ∙ rw e in omega (arith, n)

module _ {t : List Change → List ℕ} {longest : ℕ} where
  -- ---- of one input

  -- it was not read to its end
  pub shows-none : {i : Input} {log lent : List ℕ} {b : Bool} → b ≡ failed i → b ≡ true → Shows t longest i log lent lent None
  shows-none f e = record { fails = sym e ∙ f; writes = refl }

  -- it was
  pub shows-output : {i : Input} {log lent left : List ℕ} {w : Result ℕ Refusal} {b : Bool} → b ≡ failed i → b ≡ false
      → Prints t longest i.reading (load i.reading.book log) lent left w → Shows t longest i log lent left (Some w)
  shows-output f e m = record { fails = sym e ∙ f; writes = m }

  -- ---- of standard input

  -- the output of what was read
  pub printed : {i : Input} {log : List ℕ} → ReadAll i log → length log ≡ max_used → {lent left : List ℕ} {r : Option (Result ℕ Refusal)}
      → Shows t longest i log lent left r → Printed t longest lent left r
  printed {i} {log} x e {lent} {left} {r} s = record { input = i; log = log; read = x; fails = s.fails; outputs = go r s.writes }
    where
      go : (r : Option (Result ℕ Refusal)) → Writes t longest i log lent left r → Outputs t longest (input_of x.pieces) lent left r
      go None y = y
      go (Some w) y = every-input t longest (read-run x) e (read-few x) lent left w y

  -- so many bytes as are written out are there
  pub printed-short : {lent left : List ℕ} {w : Result ℕ Refusal} → Printed t longest lent left (Some w) → written w ≤ length left
  printed-short {lent} {left} {w} x = fits-short (output_by t (input_of x.read.pieces)) lent left w x.outputs.fits

  -- the same of any answer
  pub printed-there : {lent left : List ℕ} {r : Option (Result ℕ Refusal)} → Printed t longest lent left r → printed_len r ≤ length left
  printed-there {r = None} x = omega arith
  printed-there {r = Some w} x = printed-short x
