-- The records of a mark and name in the 24 hours are all that stand: each is the one of its hour's key.
use Rattle.std.specs.Prelude.{◌≤◌, ◌≡◌, refl, List, true, ◌&&◌}
use Rattle.std.proofs.Common.{ap₂, ◌∙◌, eq-eqb}
use Rattle.laws.specs.Lists.{All}
use Rattle.book.specs.Layer.{Key, Rec, Change, filed, Good, same, same_name, at_hour}
use Rattle.book.specs.laws.LayerLaws.{same_at, good-hour}
use Rattle.book.specs.Register.{standing}
use Rattle.book.specs.Meaning.{Valid}
use Rattle.book.specs.laws.StandLaws.{all_map, standing-good}

pub record InDay (k j : Key) : Type 0 where
  pub low : 1 ≤ j.hour
  pub high : j.hour ≤ 24
  pub key : same (at_hour k j.hour) j ≡ true

pub name-in-day : (k : Key) (l : List Change) → Valid l → All (λ (r : Rec). same_name k r.key ≡ true → InDay k r.key) (standing l)
name-in-day k l v = all_map in-day (standing-good l v)
  where
    in-day : (r : Rec) → Good (filed r) → same_name k r.key ≡ true → InDay k r.key
    in-day r g t =
        let j = r.key in
        let h = good-hour (filed r) g in
        record { low = h.0; high = h.1; key = same_at k j j.hour ∙ ap₂ ◌&&◌ t (eq-eqb j.hour j.hour refl) }
