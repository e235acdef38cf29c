-- Laws of writing.
use Rattle.std.specs.Prelude.{◌≡◌, refl, List, [], ◌∷◌, ◌++◌, ℕ, suc, ◌+◌, ◌-◌, ◌≤◌, ◌<◌, length, set, take, drop, get_or}
use Rattle.std.proofs.Common.{sym, ap, ◌∙◌, append_assoc, arith, add-suc, suc-add, add-zero, add-one, length-append, drop-drop, take-suc, take_all}
use Rattle.std.proofs.Math.Numerals.{towards_suc}
use Rattle.std.proofs.lemmas.List.Edits.{sets}
use Rattle.records.proofs.laws.PutLaws.{put-length, put_whole}
use Rattle.records.specs.Changes.{put}
use Rattle.records.specs.tables.Inner.{Wrote}

sets-append : (d : List ℕ) (at : ℕ) (xs ys : List ℕ) → sets (sets d at xs) (at + length xs) ys ≡ sets d at (xs ++ ys)
sets-append d at [] ys = rw add-zero
sets-append d at (x ∷ xs) ys = rw (add-suc, ← suc-add) (sets-append (set d at x) (suc at) xs ys)

pub wrote-length : {d e : List ℕ} {at next : ℕ} {xs : List ℕ} → Wrote d e at next xs → length e ≡ length d
wrote-length {d} {e} {at} {next} {xs} w = ap length w.bytes ∙ put-length d at xs

pub wrote_none : {d : List ℕ} {at : ℕ} → Wrote d d at at []
unfolding put
wrote_none = record { bytes = refl; after = omega arith }

-- what was written over a part of as many bytes
pub wrote_part : (d xs : List ℕ) (at : ℕ) (ys : List ℕ) → at + length xs ≤ length d → ys ≡ xs
    → Wrote d (take at d ++ (ys ++ drop (at + length xs - at) (drop at d))) at (at + length xs) xs
wrote_part d xs at ys h e =
    let n : at + (at + length xs - at) ≡ at + length xs = omega arith in
    record { bytes = rw (e, drop-drop, n) (sym (put_whole d at xs h ∙ append_assoc (take at d) xs (drop (at + length xs) d))); after = refl }

pub wrote_then : {d e f : List ℕ} {at m next : ℕ} {xs ys : List ℕ} → Wrote d e at m xs → Wrote e f m next ys → Wrote d f at next (xs ++ ys)
unfolding put
wrote_then {d} {e} {f} {at} {m} {next} {xs} {ys} w v = record {
  bytes = v.bytes ∙ rw (w.after, w.bytes) (sets-append d at xs ys);
  after = rw length-append (omega (arith, w.after, v.after));
}

pub wrote_one : (d : List ℕ) (at x : ℕ) → Wrote d (set d at x) at (at + 1) (x ∷ [])
unfolding put
wrote_one d at x = record { bytes = refl; after = refl }

pub wrote-three : (d : List ℕ) (at x y z : ℕ) → Wrote d (set (set (set d at x) (at + 1) y) (at + 2) z) at (at + 3) (x ∷ y ∷ z ∷ [])
unfolding put
wrote-three d at x y z = record { bytes = simp towards_suc; after = refl }

-- ---- copying

pub copy-none : (d : List ℕ) (at : ℕ) (s : List ℕ) → Wrote d d at (at + 0) (take 0 s)
unfolding put
copy-none d at s = record { bytes = refl; after = refl }

pub copy_more : (d e s : List ℕ) (at i : ℕ) → i < length s → Wrote d e at (at + i) (take i s)
    → Wrote d (set e (at + i) (get_or s i 0)) at (at + (i + 1)) (take (i + 1) s)
copy_more d e s at i h w =
    let n : at + i + 1 ≡ at + (i + 1) = omega arith in
    rw (add-one i, take-suc s i 0 h) (rw (n, add-one i) at (wrote_then w (wrote_one e (at + i) (get_or s i 0))))

pub copy-all : {d e s : List ℕ} {at i : ℕ} → length s ≤ i → Wrote d e at (at + i) (take i s) → Wrote d e at (at + i) s
copy-all {d} {e} {s} {at} {i} h w = rw (take_all i s h) at w

-- for what writes a part of a head
pub ruleset writes = (wrote_none, wrote_one)
