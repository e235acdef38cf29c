-- What a reading rests on.
use Rattle.std.proofs.Common.{◌≡◌, ap, ◌∙◌, subst, Bool, false, List, ℕ, ◌+◌, min, length, take, drop}
use Rattle.std.proofs.Math.Path.{subst⁻¹}
use Rattle.money.specs.Answers.{fault_in}
use Rattle.records.specs.Changes.{put}
use Rattle.book.specs.FeedPromise.{Feeds}
use Rattle.book.specs.declared.feed.Fed.{Fed}
use Rattle.filter.specs.Reading.{counted, is_over, part, at_hand, waits, Reads, ReadsOn}
use Rattle.filter.proofs.laws.MoveLaws.{part_left, take-least}
use Rattle.filter.specs.declared.reading.Reading.{Reading}

module _ (r : Reading) (log input : List ℕ) (n end : ℕ) (e : end ≡ min (r.held + n) (length input)) where
  -- the bytes at hand
  hand-is : take end input ≡ at_hand r n input
  hand-is = ap (λ (k : ℕ). take k input) e ∙ take-least (r.held + n) input

  reads_on : {w : Bool} {r' : Reading} {log' input' : List ℕ} → is_over r ≡ false → w ≡ waits (take end input) → Reads false w r log input n r' log' input'
      → ReadsOn r log input n r' log' input'
  reads_on {w} {r'} {log'} {input'} g v x =
      let y : Reads false (waits (at_hand r n input)) r log input n r' log' input' = subst (λ (b : Bool). Reads false b r log input n r' log' input')
      (v ∙ ap waits hand-is) x in
      record { reads = subst⁻¹ (λ (b : Bool). Reads b (waits (at_hand r n input)) r log input n r' log' input') g y }

  module _ (f : Fed) where
    -- what is left of them
    left_is : part f.taken end input ≡ drop f.taken (at_hand r n input)
    left_is = part_left f.taken end input ∙ ap (drop f.taken) hand-is

    -- the records among them are taken
    pub going : {log' input' : List ℕ} {held count number : ℕ} → is_over r ≡ false → false ≡ waits (take end input) → Feeds r.book log (take end input) f log'
        → (input' ≡ put input 0 (part f.taken end input)) × (held ≡ length (part f.taken end input)) → count ≡ counted (r.count + f.count) → number ≡ fault_in f.end
        → ReadsOn r log input n (record { book = f.book; count = count; held = held; number = number }) log' input'
    going {log'} {input'} {held} {count} {number} g w m p q k =
        let h : held ≡ length (drop f.taken (at_hand r n input)) = p.1 ∙ ap length left_is in
        reads_on g w (record {
          fed = f;
          feeds = subst (λ (s : List ℕ). Feeds r.book log s f log') hand-is m;
          reading = λ i. record { book = f.book; count = q i; held = h i; number = k i };
          rest = p.0 ∙ ap (put input 0) left_is;
        })
