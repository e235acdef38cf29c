-- An hour's limit, the hour of a change, and keys of one name.
use Rattle.std.specs.Prelude.{◌≡◌, refl, [], Bool, true, false, ◌&&◌, ℕ, ◌≤◌, leb, eqb}
use Rattle.std.proofs.Common.{sym, ap, ◌∙◌, arith, eq-eqb, leb-true}
use Rattle.money.specs.Names as names
use Rattle.records.specs.Reading.{got, ◌>>=◌}
use Rattle.records.specs.Names.{spell, bytes_of}
use Rattle.records.specs.Marks.{has_name, hour_limit, limit}
use Rattle.records.proofs.laws.MarkLaws.{every-mark, key-limit}
use Rattle.records.specs.Changes.{Rec, Change, filed, key_of, Good}
use Rattle.records.specs.Keys.{same_key_mark, same_hour, same, ask_unit}
use Rattle.records.specs.Hours.{limit_of, at_hour, same_name}
use Rattle.records.proofs.laws.ChangeLaws.{and_left, and_right, good-kept, hour-range}
use Rattle.records.proofs.laws.KeyLaws.{hour-parts, own_name}
use Rattle.records.specs.declared.marks.Mark.{Mark}
use Rattle.records.specs.declared.marks.Mark.TheVariants.{Gh}
use Rattle.records.specs.declared.keys.Key.{Key}

pub limit-most : (k : Key) → limit_of k ≤ hour_limit
unfolding limit_of
limit-most k = leb-true (limit k.mark) hour_limit (every-mark (λ (m : Mark). leb (limit m) hour_limit) refl k.mark)

pub limit-same : (a b : Key) → same_hour a b ≡ true → limit_of a ≡ limit_of b
unfolding limit_of
limit-same a b h = sym (key-limit a.mark) ∙ ap limit (hour-parts a b h).0 ∙ key-limit b.mark

-- a change's hour is one of the day's
pub good-hour : (c : Change) → Good c → (1 ≤ (key_of c).hour) × ((key_of c).hour ≤ 24)
good-hour c g =
    let t = hour-range (key_of c).hour [] ((good-kept c g).hour-back []) in
    (leb-true 1 (key_of c).hour (and_left _ _ t), leb-true (key_of c).hour 24 (and_right (leb 1 (key_of c).hour) _ t))

-- a key is its mark and name, and its hour
pub same_at : (k j : Key) (h : ℕ) → same (at_hour k h) j ≡ (same_name k j && eqb h j.hour)
unfolding same same_hour same_name at_hour
same_at k j h =
    go (same_key_mark k j) (eqb h j.hour) (names.same_name k.name j.name) (eqb k.hour k.hour)
    (eq-eqb k.hour k.hour refl)
  where
    go : (a b c d : Bool) → d ≡ true → ((a && b) && c) ≡ (((a && d) && c) && b)
    go true true true true e = refl
    go true true false true e = refl
    go true false true true e = refl
    go true false false true e = refl
    go false b c d e = refl
    go true b c false e = absurd (let z : ◌≡◌ {A = ℕ} 0 1 = cc in omega arith)

pub at-hour : (k : Key) (h : ℕ) → at_hour k h ≡ record { mark = k.mark; hour = h; name = k.name }
unfolding at_hour
at-hour k h = refl

-- the name of a unit that stands can be asked for
pub unit-asked : (r : Rec) → Good (filed r) → r.key.mark ≡ Gh → ask_unit (spell (bytes_of r.key.name)) ≡ got (at_hour r.key 1) []
unfolding ask_unit at_hour
unit-asked r g e =
    (λ i. own_name (filed r) g (ap has_name e) i >>= λ n u. got (record { mark = Gh; hour = 1; name = n }) [])
    ∙ ap (λ (m : Mark). got (record { mark = m; hour = 1; name = r.key.name }) []) (sym e)
