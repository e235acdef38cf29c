-- A part of the bytes to their end, and what a survey counts.
use Rattle.std.proofs.Common.{◌≡◌, sym, ap, ◌∙◌, ℕ, zero, suc, ◌+◌, ◌-◌, ◌≤◌, List, [], ◌∷◌, Bool, true, false, cond, Option, Some, None, arith, length, take, drop, length-drop, take_all}
use Rattle.book.specs.Layer.{Key, View, Change, key_of, kind_of, is_filing, is_withdrawal, same_hour, unseen, scan, view_in}
use Rattle.book.specs.laws.LayerLaws.{Read, view-bad, view-got}
use Rattle.book.specs.Register.{write_all}
use Rattle.book.specs.Meaning.{Valid}
use Rattle.book.specs.tables.Tables.{Survey, survey, noted}
pub use Rattle.book.specs.laws.ValidLaws.{judge-room, room-facts, valid-size}

-- a part to the end is what is left
pub to_end : (q : ℕ) (log : List ℕ) → take (length log - q) (drop q log) ≡ drop q log
to_end q log = take_all (length log - q) (drop q log) (omega (arith, length-drop q log))

-- what stands at a place, by what was answered of the bytes from there on
module _ (log : List ℕ) (q : ℕ) {p : Option View} (e : p ≡ view_in (scan (take (length log - q) (drop q log)))) where
  pub read_there : {v : View} → p ≡ Some v → Read (drop q log) v
  read_there {v} h = view-got (drop q log) v (sym h ∙ e ∙ ap (λ y. view_in (scan y)) (to_end q log))

  pub unread_there : p ≡ None → scan (drop q log) ≡ unseen
  unread_there h = view-bad (drop q log) (sym h ∙ e ∙ ap (λ y. view_in (scan y)) (to_end q log))

pub counted : (k : Key) (q : ℕ) (d : Change) (s : Survey) → (noted k q d s).count ≤ s.count + 1
counted k q d s = go (same_hour k (key_of d)) (is_filing (kind_of d)) (is_withdrawal (kind_of d)) s.count
  where
    go : (a b c : Bool) (n : ℕ) → cond a (cond b (n + 1) (cond c (n - 1) n)) n ≤ n + 1
    go true true c n = omega arith
    go true false true n = omega arith
    go true false false n = omega arith
    go false b c n = omega arith

pub survey-few : (k : Key) (l : List Change) → (survey k l).count ≤ length l
unfolding survey
survey-few k [] = omega arith
survey-few k (c ∷ l) = omega (arith, counted k (length (write_all l)) c (survey k l), survey-few k l)

pub valid-drop : (m : ℕ) (l : List Change) → Valid l → Valid (drop m l)
unfolding Valid
valid-drop zero l v = v
valid-drop (suc m) [] v = tt
valid-drop (suc m) (c ∷ l) v = valid-drop m l v.2
