-- The rounds so far, and a round more.
use Rattle.std.specs.Prelude.{◌≡◌, Option, List, ℕ, ◌+◌, ◌≤◌, length, take}
use Rattle.std.proofs.Common.{refl, sym, subst, arith}
use Rattle.stdin.specs.Rounds.{max_read, brought, TakesIn, unread, Rounds, none, round}
use Rattle.stdin.specs.declared.Extent.TheVariants.{Open}
use Rattle.stdin.specs.declared.Input.{Input}

-- the rounds so far, and how many
pub record Reached (n : ℕ) (i : Input) (log bytes : List ℕ) : Type 0 where
  pub pieces : List (List ℕ)
  pub rounds : Rounds pieces i log bytes
  pub made : length pieces ≡ n

pub reached-none : {i : Input} → i ≡ unread → (log bytes : List ℕ) → length bytes ≡ max_read → Reached 0 i log bytes
reached-none e log bytes h = subst (λ (i : Input). Reached 0 i log bytes) (sym e) (record { pieces = _; rounds = none log bytes h; made = refl })

pub reached-more : {n : ℕ} {i i' : Input} {log log' bytes lent bytes' : List ℕ} {got : Option ℕ} → Reached n i log bytes → i.extent ≡ Open → length lent ≡ max_read
    → take i.reading.held lent ≡ take i.reading.held bytes → i.reading.held + brought got ≤ length lent
    → TakesIn i got log lent i' log' bytes' → Reached (n + 1) i' log' bytes'
reached-more x m e f w t = record { pieces = _; rounds = round x.rounds m _ _ e f w _ _ _ t; made = omega (arith, x.made) }
