-- A change that is written of its view is the one that is written of what was read.
use Rattle.std.specs.Prelude.{◌≡◌, refl, List, [], ◌∷◌, ◌++◌, Bool, true, cond, ℕ, ◌+◌, ◌-◌, leb, length, drop, Some}
use Rattle.std.proofs.Common.{ap, ap₂, ◌∙◌, subst, append-nil, arith, length-append, drop_at, le-leb}
use Rattle.money.specs.Refusals.{mark_unknown, no_space}
use Rattle.records.specs.Reading.{Res, bad, got}
use Rattle.records.specs.Changes.{Change, kind, key_of, body_of, head_bytes, change, write, put, put_number, put_bytes, Input, fine, fault, whole, parse}
use Rattle.records.specs.Answers.{view, seen_view}
use Rattle.records.specs.tables.Viewed.{is_view, view_written, viewed_number, viewed_bytes}
use Rattle.records.proofs.laws.ChangeLaws.{change-good}
use Rattle.records.proofs.laws.KeyLaws.{good-few}
use Rattle.records.proofs.laws.FirmLaws.{change-ends}
use Rattle.records.specs.declared.scan.View.{View}
use Rattle.records.specs.declared.marks.Wanted.{Wanted}

-- ---- writing

-- what is written of the view of a change that was read: nothing but the change
record Right (v : View) (s : List ℕ) (c : Change) : Type 0 where
  is : is_view v (length s) ≡ true
  bytes : view_written v s ≡ write c
  len : v.len ≡ length (write c)

right-view : (want : Wanted) (s : List ℕ) (c : Change) → change want s ≡ got c [] → Right (view c) s c
unfolding is_view view_written write
right-view want s c e =
    let hd : List ℕ = head_bytes (kind c) (key_of c) in
    let size : length (write c) ≡ length hd + length (body_of c) = length-append (head_bytes (kind c) (key_of c)) (body_of c) in
    let x = change-ends want s c [] e in
    let all : s ≡ x.front ++ body_of c = x.whole ∙ ap (λ l. x.front ++ l) (append-nil (body_of c)) in
    let sizes : length s ≡ length x.front + length (body_of c) = ap length all ∙ length-append x.front (body_of c) in
    let n : length s - (length (write c) - length hd) ≡ length x.front = omega (arith, size, sizes) in
    record {
      is = rw (
        le-leb (key_of c).name.len 12 (good-few c (change-good want s c [] e)),
        le-leb (length hd) (length (write c)) (omega (arith, size)),
        le-leb
            (length (write c) - length hd) (length s) (omega (arith, size, sizes)),
      ) refl;
      bytes = ap (λ l. hd ++ l) (ap₂ drop n all ∙ drop_at x.front (body_of c) (length x.front) refl);
      len = refl;
    }

parse-right : (want : Wanted) (s : List ℕ) (c : Change) → parse want s ≡ fine c → Right (view c) s c
unfolding parse
parse-right want s c = go (change want s) refl
  where
    go : (r : Res Change) → change want s ≡ r → whole r ≡ fine c → Right (view c) s c
    go (bad k) q e = absurd (let z : ◌≡◌ {A = ℕ} 0 1 = cc in omega arith)
    go (got d []) q e = let p : d ≡ c = cc in right-view want s c (q ∙ ap (λ (x : Change). got x []) p)
    go (got d (x ∷ t)) q e = absurd (let z : ◌≡◌ {A = ℕ} 0 1 = cc in omega arith)

-- a view of what an argument is writes what the argument is
pub viewed-put : (want : Wanted) (s : List ℕ) (v : View) → seen_view (parse want s) ≡ fine v → (at : ℕ) (d : List ℕ)
    → (viewed_number (Some v) at s d ≡ put_number (parse want s) at d) × (viewed_bytes (Some v) at s d ≡ put_bytes (parse want s) at d)
viewed-put want s v e at d = go (parse want s) refl e
  where
    both : (c : Change) (v : View) → Right v s c → (viewed_number (Some v) at s d ≡ put_number (fine c) at d) × (viewed_bytes (Some v) at s d ≡ put_bytes (fine c) at d)
    both c v x = (
      ap (λ (b : Bool). cond b (cond (leb (at + v.len) (length d)) 0 no_space) mark_unknown) x.is ∙ ap (λ (n : ℕ). cond (leb (at + n) (length d)) 0 no_space)
          x.len,
      ap (λ (b : Bool). cond b (cond (leb (at + v.len) (length d)) (put d at (view_written v s)) d) d) x.is ∙
          (λ i. cond (leb (at + x.len i) (length d)) (put d at (x.bytes i)) d),
    )

    go : (i : Input Change) → parse want s ≡ i → seen_view i ≡ fine v
        → (viewed_number (Some v) at s d ≡ put_number i at d) × (viewed_bytes (Some v) at s d ≡ put_bytes i at d)
    go (fine c) q f =
        let w : view c ≡ v = cc f in
        both c v (subst (λ (x : View). Right x s c) w (parse-right want s c q))
    go (fault n) q f = absurd (let z : ◌≡◌ {A = ℕ} 0 1 = cc f in omega arith)
