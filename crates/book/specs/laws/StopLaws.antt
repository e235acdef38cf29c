-- Where a reading stops: within its bytes, before the last of them where something is refused, and not far before it where bytes end early.
use Rattle.std.specs.Prelude.{◌≡◌, refl, List, [], ◌∷◌, ℕ, zero, suc, ◌+◌, ◌≤◌, ◌<◌, length, drop}
use Rattle.std.proofs.Common.{sym, ap, ◌∙◌, subst, arith, length-drop, drop-drop}
use Rattle.std.proofs.Math.Path.{subst⁻¹}
use Rattle.records.specs.Reading.{Res, bad, got}
use Rattle.records.specs.Changes.{Entry, entry}
use Rattle.records.proofs.laws.BookLaws.{entry-early, unread-early, whole-early}
use Rattle.book.specs.Register.{Reg, change, Reply, Step, answered, becomes, called}
use Rattle.book.specs.Replies.{replied}
use Rattle.book.specs.laws.EarlyLaws.{early}
use Rattle.book.specs.Feed.{front, first_record, FeedReply, feed_on, fed, feeding}
use Rattle.book.specs.laws.FeedLaws.{first-within, first_some, first-whole, first_then}
use Rattle.book.specs.laws.LayerLaws.{longest_record}

-- of n bytes
pub record Stops (f : FeedReply) (n : ℕ) : Type 0 where
  pub within : f.taken ≤ n
  -- each record took a byte
  pub few : f.count ≤ f.taken
  -- the refused one has one too
  pub refused : (f.number ≡ 0 → ⊥) → f.taken < n

stops-from : (n lent : ℕ) (g : Reg) (s : List ℕ) → length s ≤ n → Stops (feeding lent g s) (length s)
unfolding fed
stops-from zero lent g [] h = record { within = omega arith; few = omega arith; refused = λ z. absurd (z refl) }
stops-from (suc n) lent g [] h = record { within = omega arith; few = omega arith; refused = λ z. absurd (z refl) }
stops-from zero lent g (b ∷ s) h = absurd (omega arith)
stops-from (suc n) lent g (b ∷ s) h =
    subst (λ (f : FeedReply). Stops f (length (b ∷ s))) (sym (first_then lent g (b ∷ s) (omega arith)))
    (go (λ x. stops-from n lent x (drop (length p) (b ∷ s)) (omega (arith, length-drop (length p) (b ∷ s), first_some (b ∷ s) (omega arith))))
    (called (change p) lent g))
  where
    p : List ℕ
    p = first_record (b ∷ s)

    go : ((x : Reg) → Stops (feeding lent x (drop (length p) (b ∷ s))) (length (drop (length p) (b ∷ s)))) → (st : Step)
        → Stops (feed_on g p (b ∷ s) (feeding lent) st) (length (b ∷ s))
    go ih (answered r) = record { within = omega arith; few = omega arith; refused = λ z. omega arith }
    go ih (becomes x) =
        let i = ih x in
        let k : length (drop (length p) (b ∷ s)) + length p ≡ length (b ∷ s) = omega (arith, length-drop (length p) (b ∷ s), first-within (b ∷ s)) in
        record {
          within = omega (arith, i.within);
          few = omega (arith, i.few, first_some (b ∷ s) (omega arith));
          refused = λ z. omega (arith, i.refused z);
        }

pub stops : (lent : ℕ) (g : Reg) (s : List ℕ) → Stops (feeding lent g s) (length s)
stops lent g s = stops-from (length s) lent g s (omega arith)

-- ---- bytes that end early

early-first : (lent : ℕ) (g : Reg) (s : List ℕ) (r : Reply) → called (change (first_record s)) lent g ≡ answered r → replied r ≡ 1 → length s < longest_record
unfolding first_record
early-first lent g s r e one = go (entry s) refl
  where
    go : (i : Res Entry) → entry s ≡ i → length s < longest_record
    go (bad j) q = entry-early s (unread-early s (early s lent g r (ap (λ (x : Res Entry). called (change (front s x)) lent g) (sym q) ∙ e) one))
    go (got x t) q = absurd (whole-early (first_record s) x (first-whole s x t q) (unread-early (first_record s) (early (first_record s) lent g r e one)))

early_from : (n lent : ℕ) (g : Reg) (s : List ℕ) → length s ≤ n → (feeding lent g s).number ≡ 1 → length (drop (feeding lent g s).taken s) < longest_record
unfolding fed
early_from zero lent g [] h z = absurd (omega arith)
early_from (suc n) lent g [] h z = absurd (omega arith)
early_from zero lent g (b ∷ s) h z = absurd (omega arith)
early_from (suc n) lent g (b ∷ s) h z =
    go (λ x. early_from n lent x (drop (length p) (b ∷ s)) (omega (arith, length-drop (length p) (b ∷ s), first_some (b ∷ s) (omega arith))))
    (called (change p) lent g) refl
  where
    p : List ℕ
    p = first_record (b ∷ s)

    Short : FeedReply → Type 0
    Short f = f.number ≡ 1 → length (drop f.taken (b ∷ s)) < longest_record

    go : ((x : Reg) → (feeding lent x (drop (length p) (b ∷ s))).number ≡ 1 → length
        (drop (feeding lent x (drop (length p) (b ∷ s))).taken (drop (length p) (b ∷ s))) < longest_record)
        → (st : Step) → called (change p) lent g ≡ st → length (drop (feeding lent g (b ∷ s)).taken (b ∷ s)) < longest_record
    go ih st e = subst⁻¹ Short (first_then lent g (b ∷ s) (omega arith) ∙ ap (feed_on g p (b ∷ s) (feeding lent)) e) (by st e) z
      where
        by : (st : Step) → called (change p) lent g ≡ st → Short (feed_on g p (b ∷ s) (feeding lent) st)
        by (answered r) e w = early-first lent g (b ∷ s) r e w
        by (becomes x) e w = subst (λ (l : List ℕ). length l < longest_record) (drop-drop (feeding lent x (drop (length p) (b ∷ s))).taken (length p) (b ∷ s)) (ih x w)

-- what is left of a record that ends early is shorter than the longest one
pub early-short : (lent : ℕ) (g : Reg) (s : List ℕ) → (feeding lent g s).number ≡ 1 → length (drop (feeding lent g s).taken s) < longest_record
early-short lent g s = early_from (length s) lent g s (omega arith)
