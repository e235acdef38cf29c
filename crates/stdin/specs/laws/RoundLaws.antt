-- What holds of every list of rounds.
use Rattle.std.specs.Prelude.{◌≡◌, refl, Bool, true, false, ◌||◌, cond, List, ◌++◌, ℕ, ◌+◌, ◌*◌, ◌≤◌, ◌<◌, eqb, length, take, drop}
use Rattle.std.proofs.Common.{sym, ap, ◌∙◌, subst, arith, length-drop, length-append, take-add, length-take-le}
use Rattle.filter.specs.Reading.{max_count, is_over, ReadsOn}
use Rattle.filter.specs.Program.{input_of, Run, start, next}
use Rattle.filter.proofs.laws.OutputLaws.{held-short}
use Rattle.filter.specs.declared.reading.Reading.{Reading}
use Rattle.stdin.specs.Rounds.{max_read, brought, broke_off, Rounds, none, round, ReadAll}
use Rattle.stdin.specs.declared.Extent.{Extent}
use Rattle.stdin.specs.declared.Extent.TheVariants.{Open, Whole, Broken}
use Rattle.stdin.specs.declared.Input.{Input}
use Rattle.book.specs.laws.LayerLaws.{longest_record}

pub apart : {A : Type 0} {b : Bool} → b ≡ true → b ≡ false → A
apart t f = absurd (let z : ◌≡◌ {A = ℕ} 0 1 = cc in omega arith)

-- an extent that is open
abbrev is_open : Extent → Bool
is_open Open = true
is_open Whole = false
is_open Broken = false

open-after : (broke ended over : Bool) → cond broke Broken (cond (ended || over) Whole Open) ≡ Open → over ≡ false
open-after true ended over e = apart refl (sym (ap is_open e))
open-after false ended false e = refl
open-after false true true e = apart refl (sym (ap is_open e))
open-after false false true e = apart refl (sym (ap is_open e))

-- where there may be more to read, no refusal stands
pub more-open : {ps : List (List ℕ)} {i : Input} {log bytes : List ℕ} → Rounds ps i log bytes → i.extent ≡ Open → is_over i.reading ≡ false
more-open (none log bytes e) m = refl
more-open (round {ps} {i} before o got lent e f w i' log' bytes' t) m =
    open-after (broke_off got) (eqb (brought got) 0) (is_over i'.reading) (sym t.extent ∙ m)

-- the rounds are a run over what the reads brought, and each brought no more than a read can
record Brings (ps : List (List ℕ)) (i : Input) (log bytes : List ℕ) : Type 0 where
  run : Run ps i.reading log bytes
  few : length (input_of ps) ≤ length ps * max_read

brings : {ps : List (List ℕ)} {i : Input} {log bytes : List ℕ} → Rounds ps i log bytes → Brings ps i log bytes
unfolding input_of
brings (none log bytes e) = record { run = start log bytes; few = omega arith }
brings (round {ps} {i} {log} {bytes} before o got lent e f w i' log' bytes' t) =
    let r : Reading = i.reading in
    let x : Brings ps i log bytes = brings before in
    let n : ℕ = brought got in
    let p : List ℕ = take n (drop r.held lent) in
    let k : length p ≡ n = length-take-le n (drop r.held lent) (omega (arith, length-drop r.held lent, w)) in
    let q : take (r.held + length p) lent ≡ take r.held bytes ++ p =
    ap (λ (j : ℕ). take (r.held + j) lent) k ∙ take-add r.held n lent ∙ ap (λ (l : List ℕ). l ++ p) f in
    record {
      run = next x.run p lent q i'.reading log' bytes' (subst (λ (j : ℕ). ReadsOn r log lent j i'.reading log' bytes') (sym k) t.reading);
      few = omega (arith, length-append (input_of ps) p, x.few, k, w, e);
    }

-- there is room to read on
pub room : {ps : List (List ℕ)} {i : Input} {log bytes : List ℕ} → Rounds ps i log bytes → i.extent ≡ Open → i.reading.held < longest_record
room x m = held-short (brings x).run (more-open x m)

-- ---- all that was read

pub read-run : {i : Input} {log : List ℕ} (x : ReadAll i log) → Run x.pieces i.reading log x.bytes
read-run x = (brings x.rounds).run

pub read-few : {i : Input} {log : List ℕ} (x : ReadAll i log) → length (input_of x.pieces) ≤ max_count
read-few x = omega (arith, (brings x.rounds).few, x.few)
