-- 01, "Records" and "Intertie guarantee and wheel offset": decoded names and their order.
use Rattle.std.specs.Prelude.{Bool, true, false, cond, ◌&&◌, List, [], ◌∷◌, ℕ, leb, ltb, eqb, get_or, take}
use Rattle.laws.specs.Sums.{every}
use Rattle.money.specs.declared.names.Name.{Name}

-- "1 to 12 bytes" of a decoded name
abbrev pub max_name : ℕ
max_name = 12

-- the bytes of a decoded name
abbrev pub decoded_bytes : Name → List ℕ
decoded_bytes a = take a.len a.bytes

-- "decoded name in byte order, a prefix first"
unfoldable pub name_before : List ℕ → List ℕ → Bool
name_before xs [] = false
name_before [] (y ∷ ys) = true
name_before (x ∷ xs) (y ∷ ys) = cond (ltb x y) true (cond (ltb y x) false (name_before xs ys))

-- the same bytes in the same order
unfoldable pub same_bytes : List ℕ → List ℕ → Bool
same_bytes [] [] = true
same_bytes [] (y ∷ ys) = false
same_bytes (x ∷ xs) [] = false
same_bytes (x ∷ xs) (y ∷ ys) = eqb x y && same_bytes xs ys

-- the same decoded bytes
unfoldable pub same_name : Name → Name → Bool
same_name a b = same_bytes (decoded_bytes a) (decoded_bytes b)

-- "each 0x21 to 0x7E": the first and the last visible byte
abbrev pub first_visible : ℕ
first_visible = 33

abbrev pub last_visible : ℕ
last_visible = 126

-- "Decoded .., 1 to 12 bytes, each 0x21 to 0x7E"
abbrev pub name_byte_ok : ℕ → Bool
name_byte_ok b = leb first_visible b && leb b last_visible

-- "1 to 12 bytes, each 0x21 to 0x7E"
unfoldable pub name_ok : Name → Bool
name_ok a = (leb 1 a.len && leb a.len max_name) && every a.len (λ i. name_byte_ok (get_or a.bytes i 0))
