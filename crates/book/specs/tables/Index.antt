-- The index with which a replay finds what stands: by a number of each key, and by mark and hour.
use Rattle.std.specs.Prelude.{ℕ, ◌+◌, ◌*◌, ◌%◌, List, [], ◌∷◌, cond, length, eqb}
use Rattle.book.specs.Layer.{Key, Change, key_of, key_order}

-- a mark has 32 slots, one for each hour and some that none has; 16 marks have them
abbrev pub mark_slots : ℕ
mark_slots = 32

abbrev pub slots : ℕ
slots = 512

-- the numbers that a key may have
abbrev pub buckets : ℕ
buckets = 8192

-- mark and hour as one number
abbrev pub hour_slot : Key → ℕ
hour_slot k = key_order k.mark * mark_slots + k.hour

-- the bytes of a name, each with its weight
unfoldable pub hashed : ℕ → ℕ → List ℕ → ℕ
hashed sum weight [] = sum
hashed sum weight (b ∷ bs) = hashed (sum + b * weight) (weight * 31 % buckets) bs

unfoldable pub bucket : Key → ℕ
bucket k = hashed (hour_slot k) 449 k.name.bytes % buckets

-- 1 more than the place of the latest change whose key has a number, 0 for none
unfoldable pub latest_of : ℕ → List Change → ℕ
latest_of h [] = 0
latest_of h (c ∷ l) = cond (eqb (bucket (key_of c)) h) (length l + 1) (latest_of h l)
