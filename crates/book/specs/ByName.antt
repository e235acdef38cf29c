-- 01, "The statement and its examples": "per import by name", "for each unit by name". What stands, by decoded name.
use Rattle.std.specs.Prelude.{List, [], ◌∷◌, cond}
use Rattle.book.specs.Layer.{Key, Name, Rec, same_hour, same_key_mark, decoded_bytes, name_before}

-- ---- the records of a mark and hour

-- "decoded name in byte order, a prefix first": a record before the first whose name comes after its own
unfoldable pub in_order : Rec → List Rec → List Rec
in_order r [] = r ∷ []
in_order r (x ∷ xs) = cond (name_before (decoded_bytes r.key.name) (decoded_bytes x.key.name)) (r ∷ x ∷ xs) (x ∷ in_order r xs)

-- the records of the key's mark and hour, in that order
unfoldable pub by_name : Key → List Rec → List Rec
by_name k [] = []
by_name k (r ∷ rs) = cond (same_hour k r.key) (in_order r (by_name k rs)) (by_name k rs)

-- ---- the names of a mark

-- a name in that order, once
unfoldable pub add_name : Name → List Name → List Name
add_name n [] = n ∷ []
add_name n (x ∷ xs) = cond (name_before (decoded_bytes n) (decoded_bytes x)) (n ∷ x ∷ xs)
    (cond (name_before (decoded_bytes x) (decoded_bytes n)) (x ∷ add_name n xs) (x ∷ xs))

-- the names under which records of the key's mark stand, in any hour
unfoldable pub names_of : Key → List Rec → List Name
names_of k [] = []
names_of k (r ∷ rs) = cond (same_key_mark k r.key) (add_name r.key.name (names_of k rs)) (names_of k rs)
