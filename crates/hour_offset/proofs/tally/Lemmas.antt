-- The search for a name among an hour's places.
use Rattle.std.specs.Prelude.{◌≡◌, refl, List, [], ◌∷◌, Bool, true, false, cond, ◌||◌}
use Rattle.std.specs.List.{list_any}
use Rattle.money.specs.Names.{same_name}
use Rattle.money.specs.declared.names.Name.{Name}
use Rattle.book.specs.declared.amounts.places.Spot.{Spot}
use Rattle.hour_offset.specs.tables.Tally.{among}

pub among_any : (n : Name) (xs : List Spot) → list_any (λ (x : Spot). same_name n x.name) xs ≡ among n xs
unfolding among
among_any n [] = refl
among_any n (x ∷ xs) =
    let any : Bool = list_any (λ (y : Spot). same_name n y.name) xs in
    elim (same_name n x.name) as (λ b. (b || any) ≡ cond b true (among n xs)) [ true ↦ refl | false ↦ among_any n xs ]
