-- A filing after a list that can be played: the refusals that it meets, and what stands behind it, by mark, hour and name.
use Rattle.std.specs.Prelude.{ℕ, ◌+◌, ◌≡◌, refl, List, [], ◌∷◌, Bool, true, false, not, ltb, length}
use Rattle.std.proofs.Common.{sym, ap₂, ◌∙◌, arith}
use Rattle.std.proofs.Math.Path.{ap}
use Rattle.std.proofs.Math.Bool.{cond}
use Rattle.std.proofs.Math.ListN.{length-append}
use Rattle.laws.specs.Lists.{All, done, also}
use Rattle.records.specs.Amounts.{same_name}
use Rattle.book.specs.Layer.{Key, Name, Rec, Change, filed, write, Good, Pr, same, same_hour, limit_of, decoded_bytes, name_before}
use Rattle.book.specs.laws.LayerLaws.{same_refl, same_hour-same, hour-parts, hour-mark, same_by, price-name}
use Rattle.book.specs.Register.{write_all, standing, stands, count, room_for, refusal}
use Rattle.book.specs.Amounts.{is, nil, pick, hour_key, absent}
use Rattle.book.specs.ByName.{in_order, by_name}
use Rattle.book.specs.Meaning.{Valid}
use Rattle.book.specs.laws.RegisterLaws.{by-test, true≠false}

-- ---- the records of a mark and hour

-- whether a name is among records
abbrev pub named : Name → List Rec → Bool
named n [] = false
named n (r ∷ rs) = cond (same_name n r.key.name) true (named n rs)

named-in-order : (n : Name) (r : Rec) (xs : List Rec) → named n (in_order r xs) ≡ cond (same_name n r.key.name) true (named n xs)
unfolding in_order
named-in-order n r [] = refl
named-in-order n r (x ∷ xs) = go (name_before (decoded_bytes r.key.name) (decoded_bytes x.key.name)) (same_name n r.key.name)
    (same_name n x.key.name) refl refl (named-in-order n r xs)
  where
    both : (c : Bool) → true ≡ cond c true true
    both true = refl
    both false = refl

    go : (b p q : Bool) → same_name n r.key.name ≡ p → same_name n x.key.name ≡ q
        → named n (in_order r xs) ≡ cond (same_name n r.key.name) true (named n xs)
        → named n (cond b (r ∷ x ∷ xs) (x ∷ in_order r xs)) ≡ cond p true (cond q true (named n xs))
    go true p q ep eq w = ap₂ (λ (a b : Bool). cond a true (cond b true (named n xs))) ep eq
    go false p true ep eq w = ap (λ (b : Bool). cond b true (named n (in_order r xs))) eq ∙ both p
    go false p false ep eq w = ap (λ (b : Bool). cond b true (named n (in_order r xs))) eq ∙ w ∙ ap (λ (b : Bool). cond b true (named n xs)) ep

-- a key stands whose name is among those of its mark and hour
pub stands-named : (k j : Key) → same_hour j k ≡ true → (rs : List Rec) → stands k rs ≡ named k.name (by_name j rs)
unfolding stands by_name
stands-named k j h [] = refl
stands-named k j h (x ∷ xs) = go (same_hour j x.key) refl (stands-named k j h xs)
  where
    go : (b : Bool) → same_hour j x.key ≡ b → stands k xs ≡ named k.name (by_name j xs)
        → cond (same k x.key) true (stands k xs) ≡ named k.name (cond b (in_order x (by_name j xs)) (by_name j xs))
    go true e w =
        ap₂ (λ (a b : Bool). cond a true b) (same_by k x.key true (sym (same_hour-same j k h x.key) ∙ e)) w
        ∙ sym (named-in-order k.name x (by_name j xs))
    go false e w = ap (λ (a : Bool). cond a true (stands k xs)) (same_by k x.key false (sym (same_hour-same j k h x.key) ∙ e)) ∙ w

in-order-length : (r : Rec) (xs : List Rec) → length (in_order r xs) ≡ length xs + 1
unfolding in_order
in-order-length r [] = refl
in-order-length r (x ∷ xs) = go (name_before (decoded_bytes r.key.name) (decoded_bytes x.key.name)) (in-order-length r xs)
  where
    go : (b : Bool) → length (in_order r xs) ≡ length xs + 1 → length (cond b (r ∷ x ∷ xs) (x ∷ in_order r xs)) ≡ length (x ∷ xs) + 1
    go true e = omega arith
    go false e = omega arith

pub count-named : (k j : Key) → same_hour k j ≡ true → (rs : List Rec) → count k rs ≡ length (by_name j rs)
unfolding count by_name
count-named k j e [] = refl
count-named k j e (x ∷ xs) = ap (λ (b : Bool). cond b (count k xs + 1) (count k xs)) (same_hour-same k j e x.key) ∙ go (same_hour j x.key)
    (count-named k j e xs)
  where
    go : (b : Bool) → count k xs ≡ length (by_name j xs) → cond b (count k xs + 1) (count k xs) ≡ length (cond b (in_order x (by_name j xs)) (by_name j xs))
    go true q = omega (arith, in-order-length x (by_name j xs))
    go false q = q

-- ---- the hour's prices

-- a `PR` has no name: its key is its hour's
pub price-key : (h : ℕ) (r : Rec) → Good (filed r) → same_hour (hour_key Pr h) r.key ≡ true → hour_key Pr h ≡ r.key
price-key h r g e =
    let m = hour-mark (hour_key Pr h) r.key refl e in
    let n = price-name r g m in
    (λ i. record { mark = sym m i; hour = (hour-parts (hour_key Pr h) r.key e).1 i; name = sym n i })

pub no-prices : (h : ℕ) {rs : List Rec} → All (λ (x : Rec). Good (filed x)) rs → stands (hour_key Pr h) rs ≡ false → count (hour_key Pr h) rs ≡ 0
unfolding stands count
no-prices h done e = refl
no-prices h (also {r = x} {rs = xs} g a) e =
    by-test (same (hour_key Pr h) x.key)
    (λ t. true≠false (ap (λ (b : Bool). cond b true (stands (hour_key Pr h) xs)) t) e)
    (λ t. by-test (same_hour (hour_key Pr h) x.key)
    (λ u. true≠false (ap (same (hour_key Pr h)) (sym (price-key h x g u)) ∙ same_refl (hour_key Pr h)) t)
    (λ u. ap (λ (b : Bool). cond b (count (hour_key Pr h) xs + 1) (count (hour_key Pr h) xs)) u ∙ no-prices h a
    (sym (ap (λ (b : Bool). cond b true (stands (hour_key Pr h) xs)) t) ∙ e)))

pub stands-pick : (k : Key) (rs : List Rec) → stands k rs ≡ not (absent (pick k rs))
unfolding stands pick
stands-pick k [] = refl
stands-pick k (x ∷ xs) = go (same k x.key) (stands-pick k xs)
  where
    go : (b : Bool) → stands k xs ≡ not (absent (pick k xs)) → cond b true (stands k xs) ≡ not (absent (cond b (is x) (pick k xs)))
    go true e = refl
    go false e = e

-- ---- before the first record

pub none-used : length (write_all []) ≡ 0
unfolding write_all
none-used = refl

pub none_named : (k : Key) → by_name k (standing []) ≡ []
unfolding standing by_name
none_named k = refl

pub none-picked : (k : Key) → pick k (standing []) ≡ nil
unfolding standing pick
none-picked k = refl

-- ---- a filing

module _ (l : List Change) (r : Rec) where
  -- 10 and 12 are all that it meets where there is room
  pub filing-refused : room_for l 65535 (filed r) ≡ 0 → (f w : Bool) → stands r.key (standing l) ≡ f
      → ltb (count r.key (standing l)) (limit_of r.key) ≡ w
      → refusal l 65535 (filed r) ≡ cond f 10 (cond w 0 12)
  unfolding refusal
  filing-refused z f w p q = (λ i. cond (p i) 10 (cond (q i) (z i) 12))

  pub filing-valid : Good (filed r) → refusal l 65535 (filed r) ≡ 0 → Valid l → Valid (filed r ∷ l)
  unfolding Valid
  filing-valid g z v = (g, z, v)

  pub filing-length : length (write_all (filed r ∷ l)) ≡ length (write_all l) + length (write (filed r))
  unfolding write_all
  filing-length = length-append (write_all l) (write (filed r))

  pub filing-named : (k : Key) (b : Bool) → same_hour k r.key ≡ b
      → by_name k (standing (filed r ∷ l)) ≡ cond b (in_order r (by_name k (standing l))) (by_name k (standing l))
  unfolding standing by_name
  filing-named k b e = ap (λ (t : Bool). cond t (in_order r (by_name k (standing l))) (by_name k (standing l))) e

  pub filing-picked : (k : Key) (b : Bool) → same k r.key ≡ b → pick k (standing (filed r ∷ l)) ≡ cond b (is r) (pick k (standing l))
  unfolding standing pick
  filing-picked k b e = ap (λ (t : Bool). cond t (is r) (pick k (standing l))) e
