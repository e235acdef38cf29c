-- A change as it is written of its view and its bytes: the head of the view's kind and key, and the body that the bytes end with. Assumes nothing.
use Rattle.std.specs.Prelude.{List, ◌++◌, Bool, cond, ◌&&◌, ℕ, ◌+◌, ◌-◌, leb, length, drop, Option, Some, None}
use Rattle.money.specs.Names.{max_name}
use Rattle.money.specs.Refusals.{mark_unknown, no_space}
use Rattle.records.specs.Changes.{head_bytes, put}
use Rattle.records.specs.declared.scan.View.{View}

abbrev pub view_head : View → List ℕ
view_head v = head_bytes v.kind v.key

-- how many of the bytes are its body
abbrev pub view_rest : View → ℕ
view_rest v = v.len - length (view_head v)

-- a view of a filed, corrected or withdrawn record whose body n bytes have room for
unfoldable pub is_view : View → ℕ → Bool
is_view v n = leb v.key.name.len max_name && (leb (length (view_head v)) v.len && leb (view_rest v) n)

unfoldable pub view_written : View → List ℕ → List ℕ
view_written v s = view_head v ++ drop (length s - view_rest v) s

-- written at a place of lent bytes: 13 where it does not fit, 2 where there is no view or what is none, and then the bytes remain
abbrev pub viewed_number : Option View → ℕ → List ℕ → List ℕ → ℕ
viewed_number None at s d = mark_unknown
viewed_number (Some v) at s d = cond (is_view v (length s)) (cond (leb (at + v.len) (length d)) 0 no_space) mark_unknown

abbrev pub viewed_bytes : Option View → ℕ → List ℕ → List ℕ → List ℕ
viewed_bytes None at s d = d
viewed_bytes (Some v) at s d = cond (is_view v (length s)) (cond (leb (at + v.len) (length d)) (put d at (view_written v s)) d) d
