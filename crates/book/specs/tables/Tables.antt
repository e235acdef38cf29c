-- What the changes say of a key, and the refusal of a change by numbers.
use Rattle.std.specs.Prelude.{ℕ, ◌+◌, ◌-◌, List, [], ◌∷◌, Bool, true, false, cond, not, length, ltb}
use Rattle.money.specs.Refusals.{key_stands, no_such_key, hour_full}
use Rattle.book.specs.Layer.{Key, View, Kind, Change, key_of, kind_of, is_filing, is_correction, is_withdrawal, write, same, same_hour}
use Rattle.book.specs.Register.{write_all, space_fault}
use Rattle.book.specs.Meaning.{Load, belongs, mismatched}

abbrev pub viewed : Change → View
viewed c = record { kind = kind_of c; key = key_of c; len = length (write c) }

-- ---- what the changes say of a key, the newest last

-- whether it stands, where its record is written, and how many records of its mark and hour stand
pub record Survey : Type 0 where
  pub found : Bool
  pub start : ℕ
  pub len : ℕ
  pub count : ℕ

abbrev pub none : Survey
none = record { found = false; start = 0; len = 0; count = 0 }

-- one change more, which begins at q
abbrev pub noted : Key → ℕ → Change → Survey → Survey
noted k q c s =
    record {
      found = cond (same k (key_of c)) (not (is_withdrawal (kind_of c))) s.found;
      start = cond (same k (key_of c)) (cond (is_correction (kind_of c)) (q + 2) q) s.start;
      len = cond (same k (key_of c)) (cond (is_correction (kind_of c)) (length (write c) - 2) (length (write c))) s.len;
      count = cond (same_hour k (key_of c)) (cond (is_filing (kind_of c)) (s.count + 1) (cond (is_withdrawal (kind_of c)) (s.count - 1) s.count)) s.count;
    }

unfoldable pub survey : Key → List Change → Survey
survey k [] = none
survey k (c ∷ l) = noted k (length (write_all l)) c (survey k l)

-- whether book and bytes belong together
abbrev pub together : Load → Bool
together (belongs l) = true
together mismatched = false

-- ---- the refusal of a change, by what the code knows of it
-- n of its mark stand in the hour, which holds at most most
unfoldable pub change_fault : Kind → Bool → ℕ → ℕ → ℕ → ℕ → ℕ → ℕ → ℕ
change_fault kind found n most changes used len lent =
    cond (is_filing kind) (cond found key_stands (cond (ltb n most) (space_fault changes used len lent) hour_full))
    (cond found (space_fault changes used len lent) no_such_key)
