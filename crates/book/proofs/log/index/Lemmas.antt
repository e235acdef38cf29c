-- The index of a replay: its numbers, and the latest change of a number.
use Rattle.std.proofs.Common.{◌≡◌, sym, ap, ◌∙◌, ℕ, suc, ◌+◌, ◌-◌, ◌*◌, ◌%◌, ◌≤◌, ◌<◌, List, [], ◌∷◌, Bool, true, false, cond, arith, mul-le-mul, add-one, length, drop, get_or, set, eqb, drop_of_length-le, drop-cons, get_or-set_same, get_or-set_other, eq-eqb, eqb-true}
use Rattle.book.specs.Layer.{Key, Change, Good, key_of, kind_of, same, same_hour, order, key_order, is_filing, is_withdrawal}
use Rattle.book.specs.laws.LayerLaws.{Padded, good-padded, same_alike, same-name, one-mark, hour-parts, parts-hour}
use Rattle.book.specs.tables.Tables.{survey}
use Rattle.book.specs.tables.Index.{hour_slot, hashed, bucket, latest_of}
use Rattle.book.specs.laws.RegisterLaws.{by-test, true≠false}

-- ---- the numbers

-- the loop over a name's bytes, of which i are hashed
pub record Hashing (start : ℕ) (bytes : List ℕ) (sum weight i : ℕ) : Type 0 where
  pub so_far : hashed sum weight (drop i bytes) ≡ hashed start 449 bytes
  pub most : sum ≤ 512 + i * 2097152
  pub light : weight < 8192
  pub inside : i ≤ 12

pub byte-hashes : (b weight : ℕ) → b < 256 → weight < 8192 → b * weight ≤ 2097152
byte-hashes b weight h w = mul-le-mul {n₁ = b} {m₁ = weight} {n₂ = 256} {m₂ = 8192} (omega arith) (omega arith)

pub hashing-next : (start : ℕ) (bytes : List ℕ) (sum weight i d b : ℕ) → length bytes ≡ 12 → Hashing start bytes sum weight i → i < 12 → b ≡ get_or bytes i d
    → b < 256
    → Hashing start bytes (sum + b * weight) (weight * 31 % 8192) (i + 1)
unfolding hashed
hashing-next start bytes sum weight i d b size h lt e w =
    record {
      so_far =
          ap (λ (x : ℕ). hashed (sum + x * weight) (weight * 31 % 8192) (drop (i + 1) bytes)) e
          ∙ rw add-one (sym (ap (hashed sum weight) (drop-cons bytes i d (omega arith)))) ∙ h.so_far;
      most = omega (arith, byte-hashes b weight w h.light, h.most);
      light = omega arith;
      inside = omega arith;
    }

pub hashing-end : (k : Key) (sum weight i : ℕ) → length k.name.bytes ≡ 12 → Hashing (hour_slot k) k.name.bytes sum weight i → 12 ≤ i
    → (sum % 8192 ≡ bucket k) × (sum % 8192 < 8192)
unfolding bucket hashed
hashing-end k sum weight i size h le =
    (ap (λ (x : ℕ). x % 8192) (sym (ap (hashed sum weight) (drop_of_length-le k.name.bytes {i = i} (omega arith))) ∙ h.so_far), omega arith)

-- ---- the latest change of a number

pub latest-few : (h : ℕ) (l : List Change) → latest_of h l ≤ length l
unfolding latest_of
latest-few h [] = omega arith
latest-few h (c ∷ l) = go (eqb (bucket (key_of c)) h) (latest-few h l)
  where
    go : (t : Bool) → latest_of h l ≤ length l → cond t (length l + 1) (latest_of h l) ≤ suc (length l)
    go true ih = omega arith
    go false ih = omega arith

-- another number is another key: the number is made of mark, hour and all places of a name, which are as reading makes them
bucket-same : (a b : Key) → Padded a.name → Padded b.name → same a b ≡ true → bucket a ≡ bucket b
unfolding bucket
bucket-same a b p q h =
    let w = same_alike a b h in
    let n = same-name a b p q h in
    λ i. hashed (order (w.mark i) * 32 + w.hour i) 449 (n i).bytes % 8192

pub other-slot : (k : Key) → Padded k.name → (c : Change) → Good c → eqb (bucket (key_of c)) (bucket k) ≡ false → same k (key_of c) ≡ false
other-slot k p c g h =
    by-test (same k (key_of c)) (λ t. true≠false (eq-eqb (bucket (key_of c)) (bucket k) (sym (bucket-same k (key_of c) p (good-padded c g) t))) h) (λ t. t)

-- ---- one change more

pub latest-next : (latest : List ℕ) (c : Change) (l : List Change) (h : ℕ) → bucket (key_of c) < length latest → get_or latest h 0 ≡ latest_of h l
    → get_or (set latest (bucket (key_of c)) (length l + 1)) h 0 ≡ latest_of h (c ∷ l)
unfolding latest_of
latest-next latest c l h fits is =
    by-test (eqb (bucket (key_of c)) h)
    (λ t. ap (λ (n : ℕ). get_or (set latest (bucket (key_of c)) (length l + 1)) n 0) (sym (eqb-true (bucket (key_of c)) h t)) ∙ get_or-set_same latest
    (bucket (key_of c)) (length l + 1) 0 fits ∙ sym (ap (λ (b : Bool). cond b (length l + 1) (latest_of h l)) t))
    (λ t. get_or-set_other latest (bucket (key_of c)) h (length l + 1) 0 (λ e. true≠false (eq-eqb (bucket (key_of c)) h (sym e)) t) ∙ is ∙ sym
    (ap (λ (b : Bool). cond b (length l + 1) (latest_of h l)) t))

-- two keys of different mark or hour are counted at different places
pub slot-hour : (a b : Key) → a.hour < 32 → b.hour < 32 → hour_slot a ≡ hour_slot b → same_hour a b ≡ true
slot-hour a b h k e =
    let m : key_order a.mark ≡ key_order b.mark = omega arith in
    parts-hour a b (one-mark a b (eq-eqb (key_order a.mark) (key_order b.mark) m)) (omega arith)

pub counts-next : (counts : List ℕ) (c : Change) (l : List Change) (k : Key) (n : ℕ) → hour_slot (key_of c) < length counts → (key_of c).hour < 32 → k.hour < 32
    → get_or counts (hour_slot k) 0 ≡ (survey k l).count → n ≡ cond (is_filing (kind_of c)) (get_or counts (hour_slot (key_of c)) 0 + 1)
    (cond (is_withdrawal (kind_of c)) (get_or counts (hour_slot (key_of c)) 0 - 1) (get_or counts (hour_slot (key_of c)) 0))
    → get_or (set counts (hour_slot (key_of c)) n) (hour_slot k) 0 ≡ (survey k (c ∷ l)).count
unfolding survey
counts-next counts c l k n fits h j is e = by-test (same_hour k (key_of c)) with_it beside
  where
    after : ℕ → ℕ
    after m = cond (is_filing (kind_of c)) (m + 1) (cond (is_withdrawal (kind_of c)) (m - 1) m)

    with_it : same_hour k (key_of c) ≡ true
        → get_or (set counts (hour_slot (key_of c)) n) (hour_slot k) 0 ≡ cond (same_hour k (key_of c)) (after (survey k l).count) (survey k l).count
    with_it t =
        let p = hour-parts k (key_of c) t in
        let s : hour_slot k ≡ hour_slot (key_of c) = λ i. order (p.0 i) * 32 + p.1 i in
        ap (λ (m : ℕ). get_or (set counts (hour_slot (key_of c)) n) m 0) s ∙ get_or-set_same counts (hour_slot (key_of c)) n 0 fits ∙ e
        ∙ ap after (ap (λ (m : ℕ). get_or counts m 0) (sym s) ∙ is) ∙ sym (ap (λ (b : Bool). cond b (after (survey k l).count) (survey k l).count) t)

    beside : same_hour k (key_of c) ≡ false
        → get_or (set counts (hour_slot (key_of c)) n) (hour_slot k) 0 ≡ cond (same_hour k (key_of c)) (after (survey k l).count) (survey k l).count
    beside t =
        get_or-set_other counts (hour_slot (key_of c)) (hour_slot k) n 0 (λ w. true≠false (slot-hour k (key_of c) j h w) t) ∙ is
        ∙ sym (ap (λ (b : Bool). cond b (after (survey k l).count) (survey k l).count) t)
