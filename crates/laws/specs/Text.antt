-- Text as the numbers of its characters. Assumes nothing.
use Rattle.std.specs.Prelude.{List, [], ◌∷◌, ℕ}
use Prim.Native.Char.{Char, code}
use Prim.Native.String.{String, [] as end, ◌∷◌ as next}

-- a character: `char "%"` is 37
abbrev pub char : Char → ℕ
char c = code c

-- a text: `bytes "PR"` is `80 ∷ 82 ∷ []`
abbrev pub bytes : String → List ℕ
bytes end = []
bytes (next c s) = char c ∷ bytes s
