-- The head of a change is read back from what is written; a record of a mark has a name exactly when its bytes behind the hour begin with those of the name.
use Rattle.std.specs.Prelude.{◌≡◌, refl, List, [], ◌∷◌, ◌++◌, Bool, false, ◌&&◌, ℕ, suc, ◌≤◌, ◌<◌, eqb, leb, length, take, get_or}
use Rattle.std.proofs.Math.Path.{sym}
use Rattle.std.proofs.Common.{ap, ◌∙◌, append_assoc, true≢false, arith, length-append, get_or-take, leb-true, eqb-true}
use Rattle.std.proofs.Math.Bool.{true, cond}
use Rattle.std.proofs.Math.ListN.{drop}
use Rattle.laws.specs.Sums.{every}
use Rattle.laws.specs.SumLaws.{every-at, on}
use Rattle.money.specs.Names.{name_byte_ok, name_ok, same_name}
use Rattle.money.proofs.laws.NameLaws.{same_of, same_names}
use Rattle.money.specs.declared.names.Name.{Name}
use Rattle.records.specs.Reading.{Res, got, ◌>>=◌}
use Rattle.records.specs.Numbers.{hour}
use Rattle.records.specs.Names.{visible, spell, name_field, name_from, empty_name, bytes_of, stored_name}
use Rattle.records.specs.Marks.{mark_bytes, has_name}
use Rattle.records.specs.Changes.{Rec, Change, filed, key_of, kind, lead_bytes, body_of, name_for, name_bytes, head_bytes, write, begins, Good}
use Rattle.records.specs.Keys.{same_key_mark}
use Rattle.records.specs.tables.Heads.{head_key, nameable, name_head}
use Rattle.records.proofs.laws.MarkLaws.{two_bytes, key-named}
use Rattle.records.proofs.laws.NameLaws.{Visible, Valid, spelled_back, field-again}
use Rattle.records.proofs.laws.ChangeLaws.{and_left, and_right, head-again, good-kept, begins-append, begins-true}
use Rattle.records.proofs.laws.KeyLaws.{Padded, good-padded, one-mark, own-unnamed, both, got-value}
use Rattle.records.proofs.laws.AmountLaws.{name-sound}
use Rattle.records.specs.declared.marks.Mark.{Mark}
use Rattle.records.specs.declared.marks.Kind.{Kind}
use Rattle.records.specs.declared.marks.Kind.TheVariants.{File}
use Rattle.records.specs.declared.keys.Key.{Key}

-- a key whose hour and name are read back is read back
key-read : (k : Kind) (x : Key) → ((u : List ℕ) → hour (x.hour ∷ u) ≡ got x.hour u)
    → ((u : List ℕ) → name_for k x.mark (name_bytes k x.mark x.name ++ u) ≡ got x.name u) → (t : List ℕ) → head_key (head_bytes k x ++ t) ≡ got x t
unfolding head_key head_bytes
key-read k x h n t =
    simp append_assoc
    (rw (head-again k x.mark (x.hour ∷ (name_bytes k x.mark x.name ++ t)), h (name_bytes k x.mark x.name ++ t), n t))

-- so is the key of a change that may stand, whatever follows it
pub head-written : (c : Change) → Good c → (t : List ℕ) → head_key (write c ++ t) ≡ got (key_of c) (body_of c ++ t)
unfolding write
head-written c g t =
    let w = good-kept c g in
    ap head_key (append_assoc (head_bytes (kind c) (key_of c)) (body_of c) t) ∙ key-read (kind c) (key_of c) w.hour-back w.name_back (body_of c ++ t)

-- ---- a name that a record can have

fine-visible : (xs : List ℕ) → ((i : ℕ) → i < length xs → name_byte_ok (get_or xs i 0) ≡ true) → Visible xs
unfolding visible
fine-visible [] f = tt
fine-visible (x ∷ xs) f = (f 0 (omega arith), fine-visible xs (λ i h. f (suc i) (omega arith)))

fine-valid : (n : Name) → Padded n → name_ok n ≡ true → Valid (bytes_of n)
unfolding name_ok
fine-valid n p h =
    let sized = leb 1 n.len && leb n.len 12 in
    let f : ℕ → Bool = λ (i : ℕ). name_byte_ok (get_or n.bytes i 0) in
    let a = and_left sized (every n.len f) h in
    let l : length (bytes_of n) ≡ n.len = ap (λ (x : Name). x.len) p in
    record {
      some = omega (arith, leb-true 1 n.len (and_left (leb 1 n.len) (leb n.len 12) a), l);
      few = omega (arith, leb-true n.len 12 (and_right (leb 1 n.len) (leb n.len 12) a), l);
      seen = fine-visible (bytes_of n)
          (λ i q. ap name_byte_ok (get_or-take n.len n.bytes i 0 (omega arith)) ∙ every-at n.len f (and_right sized (every n.len f) h) i (omega arith));
    }

unnamed : (n : Name) → Padded n → n.len ≡ 0 → empty_name ≡ n
unnamed n p z = sym (ap (λ (m : ℕ). name_from (take m n.bytes)) z) ∙ p

name-read : (m : Mark) (n : Name) → Padded n → cond (has_name m) (name_ok n) (eqb n.len 0) ≡ true → (u : List ℕ)
    → name_for File m (name_bytes File m n ++ u) ≡ got n u
unfolding name_for name_bytes
name-read m n p h u = go (has_name m) h
  where
    go : (b : Bool) → cond b (name_ok n) (eqb n.len 0) ≡ true
        → cond b (name_field (cond b (length (spell (bytes_of n)) ∷ spell (bytes_of n)) [] ++ u) >>= λ v t. got (name_from v) t)
        (got empty_name (cond b (length (spell (bytes_of n)) ∷ spell (bytes_of n)) [] ++ u)) ≡ got n u
    go true e = ap (λ (r : Res (List ℕ)). r >>= λ v t. got (name_from v) t) (field-again (bytes_of n) (spelled_back (bytes_of n) (fine-valid n p e)) u) ∙ ap
        (λ (x : Name). got x u) p
    go false e = ap (λ (x : Name). got x u) (unnamed n p (eqb-true n.len 0 e))

able-read : (k : Key) → Padded k.name → nameable k ≡ true → (u : List ℕ) → name_for File k.mark (name_head k ++ u) ≡ got k.name u
unfolding nameable
able-read k p e u = name-read k.mark k.name p e u

-- that of a change which may stand is one
pub good-able : (c : Change) → Good c → nameable (key_of c) ≡ true
unfolding nameable
good-able c g = go (has_name (key_of c).mark) refl
  where
    go : (b : Bool) → has_name (key_of c).mark ≡ b → cond b (name_ok (key_of c).name) (eqb (key_of c).name.len 0) ≡ true
    go true h = name-sound c g h
    go false h = ap (λ (n : Name). eqb n.len 0) (own-unnamed c g h)

-- ---- the name behind mark and hour

marked-long : (m : Mark) (t : List ℕ) → length (mark_bytes m ++ t) ≡ suc (suc (length t))
marked-long m t = ap (λ (l : List ℕ). length (l ++ t)) (two_bytes m)

-- mark and hour take three bytes
head-long : (kind : Kind) (k : Key) → 3 ≤ length (head_bytes kind k)
unfolding head_bytes
head-long kind k =
    let t = k.hour ∷ name_bytes kind k.mark k.name in
    omega (arith, length-append (lead_bytes kind) (mark_bytes k.mark ++ t), marked-long k.mark t)

pub write-long : (c : Change) → 3 ≤ length (write c)
unfolding write
write-long c = omega (arith, head-long (kind c) (key_of c), length-append (head_bytes (kind c) (key_of c)) (body_of c))

behind-hour : (r : Rec) (t : List ℕ) → drop 3 (write (filed r) ++ t) ≡ name_head r.key ++ (r.body ++ t)
unfolding write head_bytes
behind-hour r t =
    ap (λ (l : List ℕ). drop 3 (((l ++ (r.key.hour ∷ name_head r.key)) ++ r.body) ++ t)) (two_bytes r.key.mark)
    ∙ append_assoc (name_head r.key) r.body t

-- of a record under the key's mark, in whatever hour
module _ (k : Key) (p : Padded k.name) (r : Rec) (g : Good (filed r)) (f : same_key_mark k r.key ≡ true) where
  named-alike : has_name k.mark ≡ has_name r.key.mark
  named-alike = sym (key-named k.mark) ∙ ap has_name (one-mark k r.key f) ∙ key-named r.key.mark

  name-is : same_name k.name r.key.name ≡ true → k.name ≡ r.key.name
  name-is h = sym p ∙ ap name_from (same_names k.name r.key.name h) ∙ good-padded (filed r) g

  -- it has the key's name exactly when its bytes behind the hour begin with those of the name
  pub name-told : nameable k ≡ true → (t : List ℕ) → begins (name_head k) (drop 3 (write (filed r) ++ t)) ≡ same_name k.name r.key.name
  unfolding name_for name_bytes
  name-told e t = both (begins (name_head k) (drop 3 (write (filed r) ++ t))) (same_name k.name r.key.name) there back
    where
      there : begins (name_head k) (drop 3 (write (filed r) ++ t)) ≡ true → same_name k.name r.key.name ≡ true
      there h =
          let s = drop 3 (write (filed r) ++ t) in
          let u = drop (length (name_head k)) s in
          let one : got k.name u ≡ got r.key.name (r.body ++ t) = sym (able-read k p e u) ∙ sym
          (ap (name_for File k.mark) (begins-true (name_head k) s h))
          ∙ (λ i. cond (named-alike i) (stored_name (name_field (behind-hour r t i))) (got empty_name (behind-hour r t i)))
          ∙ (good-kept (filed r) g).name_back (r.body ++ t) in
          same_of k.name r.key.name (ap bytes_of (got-value one))

      back : same_name k.name r.key.name ≡ true → begins (name_head k) (drop 3 (write (filed r) ++ t)) ≡ true
      back h =
          ap (begins (name_head k)) (behind-hour r t)
          ∙ (λ i. begins (cond (named-alike i) (length (spell (bytes_of (name-is h i))) ∷ spell (bytes_of (name-is h i))) []) (name_head r.key ++ (r.body ++ t)))
          ∙ begins-append (name_head r.key) (r.body ++ t)

  -- a name that no record can have is not its name
  pub name-untold : nameable k ≡ false → same_name k.name r.key.name ≡ false
  unfolding nameable
  name-untold e = on (same_name k.name r.key.name)
      (λ h. absurd (true≢false (sym (good-able (filed r) g) ∙ sym
      (λ i. cond (named-alike i) (name_ok (name-is h i)) (eqb (name-is h i).len 0)) ∙ e)))
      (λ h. h)
