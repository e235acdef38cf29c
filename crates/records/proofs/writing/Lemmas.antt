-- Writing a head and a body; what an argument and the bytes of a book are, by the tests that the code makes.
use Rattle.std.specs.Prelude.{◌≡◌, refl, List, [], ◌∷◌, ◌++◌, Bool, true, false, cond, ◌&&◌, ℕ, ◌+◌, ◌-◌, ◌≤◌, ◌<◌, eqb, length, take, drop, Some, None, Result, Ok, Err}
use Rattle.std.specs.Result.{result_ok}
use Rattle.std.proofs.Common.{sym, ap, ap₂, ◌∙◌, subst, append_assoc, arith, length-append, length-take, length-take-le, le-leb}
use Rattle.std.proofs.lemmas.Bool.{lt-leb}
use Rattle.money.specs.Names.{max_name}
use Rattle.money.specs.Refusals.{no_space, bytes_left_over}
use Rattle.money.specs.declared.names.Name.{Name}
use Rattle.money.specs.declared.refusals.Refusal.{Refusal}
use Rattle.records.specs.Reading.{bad, got, ◌>>=◌, from}
use Rattle.records.specs.Names.{spell, bytes_of}
use Rattle.records.specs.Marks.{has_name}
use Rattle.records.specs.Changes.{put, put_number, put_bytes, Change, kind, key_of, body_of, made, lead_bytes, no_name, name_bytes, head_bytes, body_for, change, write, Input, fine, fault, whole, parse, seen, unseen, begins, written, scan}
use Rattle.records.specs.Answers.{view, view_in}
use Rattle.records.specs.tables.Inner.{Wrote, max_name_head, max_head, ReadIs, change_view}
use Rattle.records.specs.declared.marks.Mark.{Mark}
use Rattle.records.specs.declared.marks.Kind.{Kind}
use Rattle.records.specs.declared.marks.Kind.TheVariants.{File, Correct, Withdraw}
use Rattle.records.specs.declared.marks.Wanted.{Wanted}
use Rattle.records.specs.declared.marks.Wanted.TheVariants.{Any}
use Rattle.records.specs.declared.keys.Key.{Key}
use Rattle.records.specs.declared.scan.View.{View}
use Rattle.records.specs.declared.changes.Read.{Read}
use Rattle.records.proofs.writing.Putting.{wrote_then, wrote-length}
use Rattle.records.proofs.fields.Step.{fault-out}
use Rattle.records.proofs.laws.MarkLaws.{mark-two}
use Rattle.records.proofs.laws.NameLaws.{spell-length}
use Rattle.records.proofs.laws.ReaderLaws.{bind-got}
use Rattle.records.proofs.laws.ChangeLaws.{change-kept, head_read, body-rest, begins-append, begins-true}
use Rattle.records.proofs.changes.Lemmas.{body_own, length_from, whole-left, whole-all}

-- ---- the head

pub name-length : (k : Kind) (m : Mark) (n : Name) → n.len ≤ max_name → length (name_bytes k m n) ≤ max_name_head
unfolding name_bytes
name-length k m n h = go (has_name m)
  where
    none : (k : Kind) → length (no_name k) ≤ max_name_head
    none File = omega arith
    none Correct = omega arith
    none Withdraw = omega arith

    go : (b : Bool) → length (cond b (length (spell (bytes_of n)) ∷ spell (bytes_of n)) (no_name k)) ≤ max_name_head
    go true = omega (arith, spell-length (bytes_of n), length-take n.len n.bytes)
    go false = none k

pub lead-length : (k : Kind) → length (lead_bytes k) ≤ 2
lead-length File = omega arith
lead-length Correct = omega arith
lead-length Withdraw = omega arith

pub head-length : (k : Kind) (x : Key) → x.name.len ≤ max_name → length (head_bytes k x) ≤ max_head
unfolding head_bytes
head-length k x h = simp length-append (omega (arith, lead-length k, mark-two x.mark, name-length k x.mark x.name h))

-- ---- what was read

-- the change that was read
abbrev pub read_of : List ℕ → Read → Change
read_of s c = made c.kind c.key (take (c.end - c.body) (from s c.body))

-- and its view, of its head's length
abbrev pub view_read : Read → ℕ → View
view_read c m = record { kind = c.kind; key = c.key; len = m + (c.end - c.body) }

write-made : (k : Kind) (x : Key) (y : List ℕ) → body_of (made k x y) ≡ y → write (made k x y) ≡ head_bytes k x ++ y
unfolding write
write-made File x y e = refl
write-made Correct x y e = refl
write-made Withdraw x y e = ap (λ l. head_bytes Withdraw x ++ l) e

made-view : (k : Kind) (x : Key) (y : List ℕ) (n : ℕ)
    → ◌≡◌ {A = View} (record { kind = kind (made k x y); key = key_of (made k x y); len = n }) (record { kind = k; key = x; len = n })
made-view File x y n = refl
made-view Correct x y n = refl
made-view Withdraw x y n = refl

made-kind : (k : Kind) (x : Key) (y : List ℕ) → head_bytes (kind (made k x y)) (key_of (made k x y)) ≡ head_bytes k x
made-kind File x y = refl
made-kind Correct x y = refl
made-kind Withdraw x y = refl

begins-more : (xs ys s : List ℕ) → begins xs s ≡ false → begins (xs ++ ys) s ≡ false
begins-more [] ys s e = absurd (let z : ◌≡◌ {A = ℕ} 0 1 = cc in omega arith)
begins-more (x ∷ xs) ys [] e = refl
begins-more (x ∷ xs) ys (y ∷ s) e = go (eqb x y) (begins-more xs ys s) e
  where
    go : (b : Bool) → (begins xs s ≡ false → begins (xs ++ ys) s ≡ false) → (b && begins xs s) ≡ false → (b && begins (xs ++ ys) s) ≡ false
    go true i f = i f
    go false i f = refl

module _ (s : List ℕ) (want : Wanted) (c : Read) (h : ReadIs s want (Ok c)) where
  full-bytes : write (read_of s c) ≡ head_bytes c.kind c.key ++ take (c.end - c.body) (from s c.body)
  full-bytes = write-made c.kind c.key _ h.placed.0.own

  body-length : length (take (c.end - c.body) (from s c.body)) ≡ c.end - c.body
  body-length =
      let l = h.placed.0.low in
      let u = h.placed.0.high in
      length-take-le (c.end - c.body) (from s c.body) (omega (arith, length_from s c.body))

  pub full-length : (m : ℕ) → m ≡ length (head_bytes c.kind c.key) → length (write (read_of s c)) ≡ m + (c.end - c.body)
  full-length m e = ap length full-bytes ∙ length-append (head_bytes c.kind c.key) (take (c.end - c.body) (from s c.body)) ∙ ap₂ ◌+◌ (sym e) body-length

  pub parse-left : c.end < length s → parse want s ≡ fault bytes_left_over
  unfolding parse
  parse-left l = sym (whole-left s c.end h.value l)

  pub parse-all : length s ≤ c.end → parse want s ≡ fine (read_of s c)
  unfolding parse
  parse-all l = sym (whole-all s c.end h.value l)

  full-view : (m : ℕ) → m ≡ length (head_bytes c.kind c.key) → view_read c m ≡ view (read_of s c)
  full-view m e = (λ i. record { kind = c.kind; key = c.key; len = sym (full-length m e) i }) ∙ sym (made-view c.kind c.key _ (length (write (read_of s c))))

  pub view_full : (m : ℕ) → m ≡ length (head_bytes c.kind c.key) → got (view_read c m) (from s c.end) ≡ change_view (change want s)
  view_full m e = ap (λ v. got v (from s c.end)) (full-view m e) ∙ ap change_view h.value

pub parse-refused : (s : List ℕ) (want : Wanted) {k : ℕ} → bad k ≡ change want s → parse want s ≡ fault k
unfolding parse
parse-refused s want e = sym (ap whole e)

-- the bytes begin with the written form exactly where they begin with its head
begins-body : (s : List ℕ) (d : Change) (y v : List ℕ) → body_of d ≡ y → s ≡ head_bytes (kind d) (key_of d) ++ (y ++ v) → begins (write d) s ≡ true
unfolding write
begins-body s d y v q w =
    ap₂ (λ l m. begins (head_bytes (kind d) (key_of d) ++ l) m) q (w ∙ sym (append_assoc (head_bytes (kind d) (key_of d)) y v)) ∙ begins-append
    (head_bytes (kind d) (key_of d) ++ y) v

begins-yes : (s : List ℕ) (d : Change) (t : List ℕ) → change Any s ≡ got d t → begins (head_bytes (kind d) (key_of d)) s ≡ true → begins (write d) s ≡ true
begins-yes s d t f b =
    let hd : List ℕ = head_bytes (kind d) (key_of d) in
    let u : List ℕ = drop (length hd) s in
    let w : s ≡ hd ++ u = begins-true hd s b in
    let r : (body_for (kind d) (key_of d).mark u >>= λ y v. got (made (kind d) (key_of d) y) v) ≡ got d t = sym (head_read d (change-kept Any s d t f) u) ∙ sym
    (ap (change Any) w) ∙ f in
    let x = bind-got (body_for (kind d) (key_of d).mark u) (λ y v. got (made (kind d) (key_of d) y) v) d t r in
    let p : made (kind d) (key_of d) x.0 ≡ d = cc x.3 in
    let q : body_of d ≡ x.0 = ap body_of (sym p) ∙ body_own (kind d) (key_of d) u x.0 x.1 x.2 in
    let z : u ≡ x.0 ++ x.1 = body-rest (kind d) (key_of d).mark u x.0 x.1 x.2 in
    begins-body s d x.0 x.1 q (w ∙ ap (λ l. hd ++ l) z)

module _ (s : List ℕ) (c : Read) (h : ReadIs s Any (Ok c)) where
  pub peek-yes : (m : ℕ) → m ≡ length (head_bytes c.kind c.key) → begins (head_bytes c.kind c.key) s ≡ true → Some (view_read c m) ≡ view_in (scan s)
  unfolding scan
  peek-yes m e b =
      let g = begins-yes s (read_of s c) (from s c.end) (sym h.value) (ap (λ l. begins l s) (made-kind c.kind c.key _) ∙ b) in
      ap (λ (v : View). Some v) (full-view s Any c h m e) ∙ sym
      (ap (λ r. view_in (written s r)) (sym h.value) ∙ ap (λ t. view_in (cond t (seen (read_of s c) (length (write (read_of s c)))) unseen)) g)

  pub peek-no : begins (head_bytes c.kind c.key) s ≡ false → None ≡ view_in (scan s)
  unfolding scan
  peek-no b =
      let g : begins (write (read_of s c)) s ≡ false = ap (λ l. begins l s) (full-bytes s Any c h) ∙ begins-more (head_bytes c.kind c.key) _ s b in
      sym (ap (λ r. view_in (written s r)) (sym h.value) ∙ ap (λ t. view_in (cond t (seen (read_of s c) (length (write (read_of s c)))) unseen)) g)

-- a result whose fault is let go
pub read-ok : (s : List ℕ) (want : Wanted) (r : Result Read Refusal) (c : Read) → Some c ≡ result_ok r → ReadIs s want r → ReadIs s want (Ok c)
read-ok s want (Ok x) c e h = let p : x ≡ c = cc e in subst (λ y. ReadIs s want (Ok y)) p h
read-ok s want (Err x) c e h = absurd (let z : ◌≡◌ {A = ℕ} 0 1 = cc e in omega arith)

pub peek-bad : (s : List ℕ) (r : Result Read Refusal) → None ≡ result_ok r → ReadIs s Any r → None ≡ view_in (scan s)
unfolding scan
peek-bad s (Ok x) e h = absurd (let z : ◌≡◌ {A = ℕ} 0 1 = cc e in omega arith)
peek-bad s (Err x) e h = ap (λ r. view_in (written s r)) h.value

-- ---- putting

module _ (i : Input Change) (at : ℕ) (d : List ℕ) where
  pub put-fault : (k : ℕ) → i ≡ fault k → (k ≡ put_number i at d) × (d ≡ put_bytes i at d)
  put-fault k e = (sym (ap (λ j. put_number j at d) e), sym (ap (λ j. put_bytes j at d) e))

  pub put_full : (c : Change) → i ≡ fine c → length d < at + length (write c) → (no_space ≡ put_number i at d) × (d ≡ put_bytes i at d)
  put_full c e h =
      let f = lt-leb (at + length (write c)) (length d) h in
      (sym (ap (λ j. put_number j at d) e ∙ ap (λ b. cond b 0 no_space) f), sym (ap (λ j. put_bytes j at d) e ∙ ap (λ b. cond b (put d at (write c)) d) f))

  pub put-done : (c : Change) (g : List ℕ) → i ≡ fine c → at + length (write c) ≤ length d → g ≡ put d at (write c)
      → (0 ≡ put_number i at d) × (g ≡ put_bytes i at d)
  put-done c g e h w =
      let f = le-leb (at + length (write c)) (length d) h in (
        sym (ap (λ j. put_number j at d) e ∙ ap (λ b. cond b 0 no_space) f),
        w ∙ sym (ap (λ j. put_bytes j at d) e ∙ ap (λ b. cond b (put d at (write c)) d) f),
      )

pub name-yes : (k : Kind) (m : Mark) (n : Name) → has_name m ≡ true → name_bytes k m n ≡ length (spell (bytes_of n)) ∷ spell (bytes_of n)
unfolding name_bytes
name-yes k m n h = ap (λ b. cond b (length (spell (bytes_of n)) ∷ spell (bytes_of n)) (no_name k)) h

-- ---- the two parts of a change that is put

pub rest-fits : {d e : List ℕ} {at next : ℕ} {xs : List ℕ} → Wrote d e at next xs → (m k : ℕ) (ys : List ℕ) → length xs ≡ m → at ≤ length d
    → m + k ≤ length d - at → next + length (take k ys) ≤ length e
rest-fits {d} {e} {at} {next} {xs} w m k ys l h f = omega (arith, w.after, wrote-length w, length-take k ys)

pub both-put : (s : List ℕ) (want : Wanted) (c : Read) → ReadIs s want (Ok c) → {d e g : List ℕ} {at m r : ℕ} (hd : List ℕ) → hd ≡ head_bytes c.kind c.key
    → Wrote d e at m hd → Wrote e g m r (take (c.end - c.body) (drop c.body s)) → g ≡ put d at (write (read_of s c))
unfolding from
both-put s want c h {d} {e} {g} {at} {m} {r} hd q w v =
    (wrote_then w v).bytes ∙ ap (λ l. put d at l) (ap (λ l. l ++ take (c.end - c.body) (drop c.body s)) q ∙ sym (full-bytes s want c h))

-- for `head_of`
pub ruleset heads = (head-length, append_assoc)

-- for `peek`
pub ruleset peeks = (read-ok, peek-yes, peek-no, peek-bad)

-- for `put`
pub ruleset puts = (parse-refused, parse-left, parse-all, full-length, put-fault, put_full, put-done, fault-out)
