-- Writing a change of which the view is known: what a view is, by the tests that the code makes, and the parts that are written.
use Rattle.std.specs.Prelude.{◌≡◌, refl, List, ◌++◌, true, false, ℕ, ◌+◌, ◌-◌, ◌≤◌, ◌<◌, leb, length, take, drop, Some}
use Rattle.std.proofs.Common.{ap, ◌∙◌, arith, length-drop, take_all, le-leb, leb-true}
use Rattle.std.proofs.lemmas.Bool.{lt-leb}
use Rattle.money.specs.Names.{max_name}
use Rattle.records.specs.Changes.{put}
use Rattle.records.specs.tables.Viewed.{view_head, view_rest, is_view, view_written, viewed_number, viewed_bytes}
use Rattle.records.specs.tables.Inner.{Wrote}
use Rattle.records.specs.declared.scan.View.{View}
use Rattle.records.proofs.laws.ChangeLaws.{and_left, and_right}
use Rattle.records.proofs.writing.Putting.{wrote_then}
use Rattle.records.proofs.writing.Lemmas.{rest-fits}

module _ (v : View) (n : ℕ) where
  pub long-name : max_name < v.key.name.len → false ≡ is_view v n
  unfolding is_view
  long-name h = rw (lt-leb v.key.name.len max_name h) refl

  module _ (few : v.key.name.len ≤ max_name) where
    pub long-head : v.len < length (view_head v) → false ≡ is_view v n
    unfolding is_view
    long-head h = rw (le-leb v.key.name.len max_name few, lt-leb (length (view_head v)) v.len h) refl

    pub by-rest : length (view_head v) ≤ v.len → leb (view_rest v) n ≡ is_view v n
    unfolding is_view
    by-rest h = rw (le-leb v.key.name.len max_name few, le-leb (length (view_head v)) v.len h) refl

-- a view
pub record Seen (v : View) (n : ℕ) : Type 0 where
  pub few : v.key.name.len ≤ max_name
  pub head : length (view_head v) ≤ v.len
  pub rest : view_rest v ≤ n

pub seen-view : (v : View) (n : ℕ) → is_view v n ≡ true → Seen v n
unfolding is_view
seen-view v n e =
    let b = and_right (leb v.key.name.len max_name) _ e in
    record {
      few = leb-true _ _ (and_left (leb v.key.name.len max_name) _ e);
      head = leb-true _ _ (and_left (leb (length (view_head v)) v.len) _ b);
      rest = leb-true _ _ (and_right (leb (length (view_head v)) v.len) _ b);
    }

module _ (v : View) (at : ℕ) (s d : List ℕ) where
  pub viewed-done : is_view v (length s) ≡ true → at + v.len ≤ length d → (g : List ℕ) → g ≡ put d at (view_written v s)
      → (0 ≡ viewed_number (Some v) at s d) × (g ≡ viewed_bytes (Some v) at s d)
  viewed-done e h g w = let f = le-leb (at + v.len) (length d) h in (rw (e, f) refl, rw (e, f) w)

  -- the head and then the body
  pub viewed-both : {e g : List ℕ} {m r : ℕ} (b : ℕ) (hd : List ℕ) → hd ≡ view_head v → Wrote d e at m hd → b ≡ length s - view_rest v
      → Wrote e g m r (take (length s - b) (drop b s)) → g ≡ put d at (view_written v s)
  unfolding view_written
  viewed-both {e} {g} {m} {r} b hd q w l x =
      (wrote_then w x).bytes ∙ ap (put d at) ((λ i. q i ++ take (length s - b) (drop b s)) ∙ ap (λ y. view_head v ++ y)
      (take_all (length s - b) (drop b s) (omega (arith, length-drop b s)) ∙ ap (λ j. drop j s) l))

-- for `is_view`
pub ruleset views = (long-name, long-head, by-rest)

-- for `put_viewed`
pub ruleset viewed = (seen-view, rest-fits)
