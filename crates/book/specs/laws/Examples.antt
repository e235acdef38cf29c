-- Examples of 01: a list of calls, and what the newest of them is told. One test for all.
use Rattle.std.specs.Prelude.{ℕ, ◌≡◌, List, [], ◌∷◌, Bool, true, false, cond, ltb, length}
use Rattle.std.proofs.Common.{ap, ◌∙◌, arith, le-ltb}
use Rattle.book.specs.Layer.{Change, filed, write, Input, parse, take_back_bytes, close_bytes, File, Only}
use Rattle.book.specs.laws.LayerLaws.{same_refl, bare-exact, price_bytes, price_record, price-read, price-length, price-limit}
use Rattle.book.specs.Register.{Reg, fresh, file, take_back, close, ask, free_bytes, Reply, refused, accepted, Step, answered, becomes, listed, judged, unless-closed, shorter, reply, after, space_fault, refusal, stands, count, standing, write_all, called, step_of, Turn, run}

pub record Case : Type 0 where
  pub calls : List Turn
  pub says : Reply

-- what the newest call is told
abbrev pub newest : List Turn → Reply
newest [] = accepted
newest (t ∷ ts) = reply (called t.call t.lent (run ts))

-- the one test
abbrev pub Pass : List Case → Type 0
Pass [] = Unit {0}
Pass (x ∷ xs) = (newest x.calls ≡ x.says) × Pass xs

abbrev filing : ℕ → Turn
filing lent = record { call = file price_bytes; lent = lent }

abbrev closing : Turn
closing = record { call = close close_bytes; lent = 0 }

abbrev pub examples : List Case
examples =
    -- (P) "`PR` takes 55 bytes: accepted with 55 free, refused with 54"
    record { calls = filing 55 ∷ []; says = accepted } ∷ record { calls = filing 54 ∷ []; says = refused 13 }
    -- the same record again: 10; less lent than is used: 16, for questions too
    ∷ record { calls = filing 110 ∷ filing 55 ∷ []; says = refused 10 } ∷ record
    { calls = record { call = ask free_bytes; lent = 54 } ∷ filing 55 ∷ []; says = refused 16 }
    -- "`TB`, fresh"; "`CL` twice"
    ∷ record { calls = record { call = take_back take_back_bytes; lent = 0 } ∷ []; says = refused 14 } ∷ record
    { calls = closing ∷ closing ∷ []; says = refused 9 } ∷ []

price-judged : (lent : ℕ) → refusal [] lent (filed price_record) ≡ space_fault 0 0 55 lent
unfolding refusal stands count standing write_all
price-judged lent = ap (λ (m : ℕ). cond (ltb 0 m) (space_fault 0 0 (length (write (filed price_record))) lent) 12) price-limit ∙ ap
    (λ (n : ℕ). space_fault 0 0 n lent) price-length

price-at : (lent : ℕ) → called (file price_bytes) lent fresh ≡ judged (filed price_record) fresh (space_fault 0 0 55 lent)
unfolding called write_all
price-at lent = ap (λ (b : Bool). cond b (answered (refused 16)) (listed (parse (Only File) price_bytes) lent fresh)) (le-ltb lent 0 (omega arith)) ∙ ap
    (λ (i : Input Change). listed i lent fresh) price-read ∙ ap (judged (filed price_record) fresh) (price-judged lent)

abbrev one : Reg
one = record { list = filed price_record ∷ []; closed = false }

filed-once : run (filing 55 ∷ []) ≡ one
unfolding run
filed-once = ap (λ (s : Step). after s fresh) (price-at 55)

one-used : length (write_all one.list) ≡ 55
unfolding write_all
one-used = price-length

again : refusal one.list 110 (filed price_record) ≡ 10
unfolding refusal stands standing
again = rw (same_refl price_record.key)

twice : called (file price_bytes) 110 one ≡ answered (refused 10)
unfolding called
twice =
    ap (λ (n : ℕ). cond (ltb 110 n) (answered (refused 16)) (listed (parse (Only File) price_bytes) 110 one)) one-used
    ∙ ap (λ (i : Input Change). listed i 110 one) price-read ∙ ap (judged (filed price_record) one) again

short : called (ask free_bytes) 54 one ≡ answered (refused 16)
unfolding called
short = ap (λ (n : ℕ). cond (ltb 54 n) (answered (refused 16)) (step_of (ask free_bytes) 54 one)) one-used

none-back : called (take_back take_back_bytes) 0 fresh ≡ answered (refused 14)
unfolding called write_all
none-back = ap (λ (n : ℕ). unless-closed n fresh (shorter false [])) (bare-exact 84 66)

closed-once : run (closing ∷ []) ≡ record { list = []; closed = true }
unfolding run called write_all
closed-once = ap (λ (n : ℕ). after (unless-closed n fresh (becomes (record { list = []; closed = true }))) fresh) (bare-exact 67 76)

closed-twice : called (close close_bytes) 0 (record { list = []; closed = true }) ≡ answered (refused 9)
unfolding called write_all
closed-twice = ap (λ (n : ℕ). unless-closed n (record { list = []; closed = true }) (becomes (record { list = []; closed = true }))) (bare-exact 67 76)

pub examples-pass : Pass examples
unfolding run
examples-pass = (
  ap reply (price-at 55),
  (
    ap reply (price-at 54),
    (
      ap (λ (g : Reg). reply (called (file price_bytes) 110 g)) filed-once ∙ ap reply twice,
      (
        ap (λ (g : Reg). reply (called (ask free_bytes) 54 g)) filed-once ∙ ap reply short,
        (
          ap reply none-back,
          (ap (λ (g : Reg). reply (called (close close_bytes) 0 g)) closed-once ∙ ap reply closed-twice, tt),
        ),
      ),
    ),
  ),
)
