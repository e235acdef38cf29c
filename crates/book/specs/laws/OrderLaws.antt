-- No amount depends on the order in which the standing records are listed.
use Rattle.std.specs.Prelude.{ℕ, ◌+◌, ◌≡◌, refl, ◌⊎◌, List, [], ◌∷◌, Bool, true, false}
use Rattle.std.proofs.Common.{sym, ◌∙◌, inl, inr}
use Rattle.std.proofs.Math.Path.{ap, ap₂}
use Rattle.std.proofs.Math.Bool.{cond}
use Rattle.laws.specs.SumLaws.{Σℤ-ext, every-ext}
use Rattle.book.specs.Layer.{Key, Rec, Im, Ex, Pr, same, same_hour, decoded_bytes, name_before, reversal, at_hour}
use Rattle.book.specs.laws.LayerLaws.{same_left, same_hour-same, names_apart, name-trans, name-tri, name-self}
use Rattle.book.specs.Register.{stands, refused, unit_day}
use Rattle.book.specs.Amounts.{Pick, is, pick, HourPricing, price_from, price_of, hour_key, guarantees_at, guarantees_of, hour_ticks, absent, payable, unit_at, day_total, unit_day_of, charge_at, charge_of, charges_at, charges_of}
use Rattle.book.specs.ByName.{in_order, by_name}
use Rattle.book.specs.laws.RegisterLaws.{by-test, true≠false, same-turned, Once}

-- the same records, listed otherwise
pub data Reordered : List Rec → List Rec → Type 0 where
  none : Reordered [] []
  keep : {xs ys : List Rec} (r : Rec) → Reordered xs ys → Reordered (r ∷ xs) (r ∷ ys)
  swap : (a b : Rec) (xs : List Rec) → Reordered (a ∷ b ∷ xs) (b ∷ a ∷ xs)
  next : {xs ys zs : List Rec} → Reordered xs ys → Reordered ys zs → Reordered xs zs

stands_same : (k : Key) {xs ys : List Rec} → Reordered xs ys → stands k xs ≡ stands k ys
unfolding stands
stands_same k none = refl
stands_same k (keep r p) = ap (cond (same k r.key) true) (stands_same k p)
stands_same k (swap a b xs) = go (same k a.key) (same k b.key)
  where
    go : (s t : Bool) → cond s true (cond t true (stands k xs)) ≡ cond t true (cond s true (stands k xs))
    go true true = refl
    go true false = refl
    go false t = refl
stands_same k (next p q) = stands_same k p ∙ stands_same k q

-- the head's key is none of the others'
apart-key : (k j : Key) (xs : List Rec) (b : Rec) → b.key ≡ j → stands k (b ∷ xs) ≡ false → (same k j ≡ false) × (stands k xs ≡ false)
unfolding stands
apart-key k j xs b e h =
    by-test (same k b.key)
    (λ t. true≠false (ap (λ (x : Bool). cond x true (stands k xs)) t) h)
    (λ t. (ap (same k) (sym e) ∙ t, sym (ap (λ (x : Bool). cond x true (stands k xs)) t) ∙ h))

stands-but : (k : Key) (xs : List Rec) (b : Rec) → same k b.key ≡ false → stands k xs ≡ false → stands k (b ∷ xs) ≡ false
unfolding stands
stands-but k xs b t h = ap (λ (x : Bool). cond x true (stands k xs)) t ∙ h

pub once-same : {xs ys : List Rec} → Reordered xs ys → Once xs → Once ys
unfolding Once
once-same none u = u
once-same (keep r p) u = (sym (stands_same r.key p) ∙ u.0, once-same p u.1)
once-same (swap a b xs) u =
    let w = apart-key a.key b.key xs b refl u.0 in
    (stands-but b.key xs a (same-turned a.key b.key w.0) u.1.0, (w.1, u.1.1))
once-same (next p q) u = once-same q (once-same p u)

pub pick_same : (k : Key) {xs ys : List Rec} → Reordered xs ys → Once xs → pick k xs ≡ pick k ys
unfolding pick Once
pick_same k none s = refl
pick_same k (keep r p) s = ap (cond (same k r.key) (is r)) (pick_same k p s.1)
pick_same k (swap a b xs) s =
    by-test (same k a.key)
    (λ t. by-test (same k b.key)
    (λ u. true≠false (sym (same_left k a.key t b.key) ∙ u) (apart-key a.key b.key xs b refl s.0).0)
    (λ u. ap₂ (λ (x y : Bool). cond x (is a) (cond y (is b) (pick k xs))) t u ∙ sym (ap₂ (λ (x y : Bool). cond y (is b) (cond x (is a) (pick k xs))) t u)))
    (λ t. ap (λ (x : Bool). cond x (is a) (cond (same k b.key) (is b) (pick k xs))) t ∙ sym
    (ap (λ (x : Bool). cond (same k b.key) (is b) (cond x (is a) (pick k xs))) t))
pick_same k (next p q) s = pick_same k p s ∙ pick_same k q (once-same p s)

-- ---- by name

abbrev before : Rec → Rec → Bool
before a b = name_before (decoded_bytes a.key.name) (decoded_bytes b.key.name)

one_way : (a b : Rec) → before a b ≡ true → before b a ≡ false
one_way a b h =
    by-test (before b a)
    (λ t. absurd
    (name-self (decoded_bytes a.key.name) (name-trans (decoded_bytes a.key.name) (decoded_bytes b.key.name) (decoded_bytes a.key.name) h t)))
    (λ t. t)

two-in-order : (a b : Rec) → before a b ≡ true → (xs : List Rec) → in_order a (in_order b xs) ≡ in_order b (in_order a xs)
unfolding in_order
two-in-order a b h [] = ap (λ (t : Bool). cond t (a ∷ b ∷ []) (b ∷ a ∷ [])) h ∙ sym (ap (λ (t : Bool). cond t (b ∷ a ∷ []) (a ∷ b ∷ [])) (one_way a b h))
two-in-order a b h (x ∷ xs) = go (two-in-order a b h xs) (before b x) refl (before a x) refl
  where
    go : in_order a (in_order b xs) ≡ in_order b (in_order a xs) → (u : Bool) → before b x ≡ u → (v : Bool) → before a x ≡ v
        → in_order a (cond u (b ∷ x ∷ xs) (x ∷ in_order b xs)) ≡ in_order b (cond v (a ∷ x ∷ xs) (x ∷ in_order a xs))
    go ih true eu true ev =
        ap (λ (t : Bool). cond t (a ∷ b ∷ x ∷ xs) (b ∷ in_order a (x ∷ xs))) h
        ∙ sym (ap (λ (t : Bool). cond t (b ∷ a ∷ x ∷ xs) (a ∷ in_order b (x ∷ xs))) (one_way a b h) ∙ ap
        (λ (t : Bool). a ∷ cond t (b ∷ x ∷ xs) (x ∷ in_order b xs)) eu)
    go ih true eu false ev = true≠false (name-trans (decoded_bytes a.key.name) (decoded_bytes b.key.name) (decoded_bytes x.key.name) h eu) ev
    go ih false eu true ev =
        ap (λ (t : Bool). cond t (a ∷ x ∷ in_order b xs) (x ∷ in_order a (in_order b xs))) ev
        ∙ sym (ap (λ (t : Bool). cond t (b ∷ a ∷ x ∷ xs) (a ∷ in_order b (x ∷ xs))) (one_way a b h) ∙ ap
        (λ (t : Bool). a ∷ cond t (b ∷ x ∷ xs) (x ∷ in_order b xs)) eu)
    go ih false eu false ev =
        ap (λ (t : Bool). cond t (a ∷ x ∷ in_order b xs) (x ∷ in_order a (in_order b xs))) ev ∙ ap (λ (y : List Rec). x ∷ y) ih
        ∙ sym (ap (λ (t : Bool). cond t (b ∷ x ∷ in_order a xs) (x ∷ in_order b (in_order a xs))) eu)

any-two : (a b : Rec) → (decoded_bytes a.key.name ≡ decoded_bytes b.key.name → ⊥) → (xs : List Rec) → in_order a (in_order b xs) ≡ in_order b (in_order a xs)
any-two a b d xs = go (name-tri (decoded_bytes a.key.name) (decoded_bytes b.key.name))
  where
    go : (before a b ≡ true) ⊎ ((decoded_bytes a.key.name ≡ decoded_bytes b.key.name) ⊎ (before b a ≡ true))
        → in_order a (in_order b xs) ≡ in_order b (in_order a xs)
    go (inl h) = two-in-order a b h xs
    go (inr (inl e)) = absurd (d e)
    go (inr (inr h)) = sym (two-in-order b a h xs)

pub by_name-same : (k : Key) {xs ys : List Rec} → Reordered xs ys → Once xs → by_name k xs ≡ by_name k ys
unfolding by_name Once
by_name-same k none s = refl
by_name-same k (keep r p) s = ap (λ (y : List Rec). cond (same_hour k r.key) (in_order r y) y) (by_name-same k p s.1)
by_name-same k (swap a b xs) s = go (same_hour k a.key) refl (same_hour k b.key) refl
  where
    go : (u : Bool) → same_hour k a.key ≡ u → (v : Bool) → same_hour k b.key ≡ v
        → cond u (in_order a (cond v (in_order b (by_name k xs)) (by_name k xs))) (cond v (in_order b (by_name k xs)) (by_name k xs))
        ≡ cond v (in_order b (cond u (in_order a (by_name k xs)) (by_name k xs))) (cond u (in_order a (by_name k xs)) (by_name k xs))
    go true eu true ev =
        any-two a b (names_apart a.key b.key (sym (same_hour-same k a.key eu b.key) ∙ ev) (apart-key a.key b.key xs b refl s.0).0)
        (by_name k xs)
    go true eu false ev = refl
    go false eu true ev = refl
    go false eu false ev = refl
by_name-same k (next p q) s = by_name-same k p s ∙ by_name-same k q (once-same p s)

-- ---- the amounts

module _ {xs ys : List Rec} (p : Reordered xs ys) (s : Once xs) where
  pub price-any-order : (h : ℕ) → price_of xs h ≡ price_of ys h
  unfolding price_of
  price-any-order h = ap price_from (pick_same (hour_key Pr h) p s)

  pub guarantees-any-order : (price : ℕ → HourPricing) (h : ℕ) → guarantees_of xs price h ≡ guarantees_of ys price h
  unfolding guarantees_of
  guarantees-any-order price h = ap₂ (guarantees_at (price h)) (by_name-same (hour_key Im h) p s) (by_name-same (hour_key Ex h) p s)

  pub day-any-order : (k : Key) (price : ℕ → HourPricing) → unit_day_of k xs price ≡ unit_day_of k ys price
  unfolding unit_day_of day_total
  day-any-order k price =
      let e : (j : ℕ) → unit_at k xs j ≡ unit_at k ys j = λ j. pick_same (at_hour k (1 + j)) p s in
      let t = Σℤ-ext 24 (λ (j : ℕ). hour_ticks (unit_at k xs j) (price (1 + j))) (λ (j : ℕ). hour_ticks (unit_at k ys j) (price (1 + j)))
      (λ j lt. ap (λ (x : Pick). hour_ticks x (price (1 + j))) (e j)) in
      let a = every-ext 24 (λ (j : ℕ). absent (unit_at k xs j)) (λ (j : ℕ). absent (unit_at k ys j)) (λ j lt. ap absent (e j)) in
      let b = every-ext 24 (λ (j : ℕ). payable (unit_at k xs j) (price (1 + j))) (λ (j : ℕ). payable (unit_at k ys j) (price (1 + j)))
      (λ j lt. ap (λ (x : Pick). payable x (price (1 + j))) (e j)) in
      (λ i. cond (a i) (refused 11) (cond (b i) (unit_day (t i) (reversal (t i))) (refused 15)))

  pub charge-any-order : (k : Key) (price : ℕ → HourPricing) → charge_of k xs price ≡ charge_of k ys price
  unfolding charge_of
  charge-any-order k price = ap (λ (x : Pick). charge_at x (price k.hour)) (pick_same k p s)

  pub charges-any-order : (k : Key) (price : ℕ → HourPricing) → charges_of k xs price ≡ charges_of k ys price
  unfolding charges_of
  charges-any-order k price = ap (charges_at (price k.hour)) (by_name-same k p s)
