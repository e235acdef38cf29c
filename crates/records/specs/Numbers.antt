-- 01, "Records": the numbers and the lists that records hold. Assumes nothing.
use Rattle.std.specs.Prelude.{List, [], ◌∷◌, map, Bool, cond, ◌&&◌, ◌||◌, ℕ, zero, suc, ◌+◌, ◌*◌, ◌-◌, ltb, leb, eqb, ℤ, pos, negsuc, length}
use Rattle.money.specs.Refusals.{ends_early, hour_outside, number_outside, list_fault}
use Rattle.money.specs.Units.{price_ok, quantity_ok, no_price, no_quantity, day_hours}
use Rattle.money.specs.Offers.{offer_fault, max_pairs}
use Rattle.money.specs.declared.units.Price.{Price}
use Rattle.money.specs.declared.units.Quantity.{Quantity}
use Rattle.money.specs.declared.offers.Offer.{Offer}
use Rattle.records.specs.Reading.{bad, got, Reader, ◌>>=◌, check, byte, many}

abbrev pub between : ℕ → ℕ → ℕ → Bool
between lo hi x = leb lo x && leb x hi

-- "prices i32 and quantities u32, little-endian"
abbrev pub le32 : ℕ → ℕ → ℕ → ℕ → ℕ
le32 a b c d = a + 256 * b + 65536 * c + 16777216 * d

unfoldable pub word : Reader ℕ
word [] = bad ends_early
word (a ∷ []) = bad ends_early
word (a ∷ b ∷ []) = bad ends_early
word (a ∷ b ∷ c ∷ []) = bad ends_early
word (a ∷ b ∷ c ∷ d ∷ s) = got (le32 a b c d) s

-- an i32 by its 32 bits
abbrev pub signed : ℕ → ℤ
signed u = cond (ltb u 2147483648) (pos u) (negsuc (4294967295 - u))

-- "number outside its range"
unfoldable pub price : Reader Price
price s = word s >>= λ u t. check (price_ok (record { 0 = signed u })) number_outside (got (record { 0 = signed u }) t)

unfoldable pub quantity : Reader Quantity
quantity s = word s >>= λ u t. check (quantity_ok (record { 0 = u })) number_outside (got (record { 0 = u }) t)

-- "start-up cents u32 (0 for no start), speed no-load cents u32 (each at most 100,000,000)"
unfoldable pub amount : ℕ → Reader ℕ
amount most s = word s >>= λ v t. check (leb v most) number_outside (got v t)

-- "hour byte 1 to 24"
unfoldable pub hour : Reader ℕ
hour s = byte s >>= λ h t. check (between 1 day_hours h) hour_outside (got h t)

-- "(i32 price, u32 quantity) pairs"
unfoldable pub pair : Reader (Price × Quantity)
pair s = price s >>= λ p t. quantity t >>= λ q u. got (p, q) u

-- n places, of which the first hold xs and the others z
abbrev pub pad : {A : Type 0} → A → ℕ → List A → List A
pad z zero xs = []
pad z (suc n) [] = z ∷ pad z n []
pad z (suc n) (x ∷ xs) = x ∷ pad z n xs

-- "An offer holds its count and places for 20 pairs"
abbrev pub offer_of : List (Price × Quantity) → Offer
offer_of xs = record { count = length xs; prices = pad no_price max_pairs (map (λ x. x.0) xs); quantities = pad no_quantity max_pairs (map (λ x. x.1) xs) }

unfoldable pub pairs : ℕ → Reader Offer
pairs n s = many n pair s >>= λ xs t. got (offer_of xs) t

-- the rule of a list is that of any offer; its count and numbers are in range by then, so that only its order can break it.
-- An empty list has no order to break.
abbrev pub list_ok : Offer → Bool
list_ok o = eqb o.count 0 || eqb (offer_fault o) 0

-- "List: count byte, then (i32 price, u32 quantity) pairs"; "a list's count by [itself], a list's order after its last pair".
-- The least count is lo.
unfoldable pub list_from : ℕ → Reader Offer
list_from lo s = byte s >>= λ n t. check (between lo max_pairs n) list_fault (pairs n t >>= λ o u. check (list_ok o) list_fault (got o u))
