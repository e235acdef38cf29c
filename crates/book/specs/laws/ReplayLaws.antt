-- A playable list as written is read back whole, and what is read back is playable and written so; no call leaves another.
use Rattle.std.specs.Prelude.{ℕ, zero, suc, ◌+◌, ◌≤◌, ◌≡◌, refl, List, [], ◌∷◌, ◌++◌, Bool, true, false, cond, length, take, drop, ltb, leb, eqb}
use Rattle.std.proofs.Common.{sym, ap, ◌∙◌, subst, append_assoc, append-nil, arith, take_all, eq-eqb, eqb-true, le-leb, ltb-true, ltb-false, leb-true}
use Rattle.std.proofs.Math.Seq.{drop-append_seam}
use Rattle.std.proofs.lemmas.Bool.{lt-leb}
use Rattle.book.specs.Layer.{Change, kind_of, key_of, write, Good, Scan, seen, unseen, scan, Input, fine, fault, parse, begins, take_back_bytes, close_bytes, limit_of, File, Correct, Withdraw, Any, Only, is_filing}
use Rattle.book.specs.laws.LayerLaws.{scan-write, scan-got, parse-fine}
use Rattle.book.specs.Register.{Reg, Call, file, correct, withdraw, take_back, close, change, ask, answered, becomes, refused, step_of, called, listed, judged, taken_back, closing, shorter, unless-closed, bare_take_back, bare_close, after, write_all, refusal, space_fault, stands, count, standing}
use Rattle.book.specs.Meaning.{belongs, mismatched, replay_on, replay, load, Valid, book_of, leaving, stepped, outcome}
use Rattle.book.specs.tables.Tables.{change_fault}
use Rattle.book.specs.laws.RegisterLaws.{refusal-judge}

pub replay-write : (l : List Change) → Valid l → (n m : ℕ) (rest : List ℕ) → n ≡ length l + m
    → replay n [] (write_all l ++ rest) ≡ replay m l rest
unfolding write_all Valid replay
replay-write [] v n m rest e = let p : n ≡ m = omega arith in ap (λ (k : ℕ). replay k [] rest) p
replay-write (c ∷ l) v n m rest e =
    ap (replay n []) (append_assoc (write_all l) (write c) rest)
    ∙ replay-write l v.2 n (suc m) (write c ++ rest) (omega arith)
    ∙ ap (replay_on l (write c ++ rest) (replay m)) (scan-write c rest v.0)
    ∙ ap (λ (b : Bool). cond b (replay m (c ∷ l) (drop (length (write c)) (write c ++ rest))) mismatched) (eq-eqb _ _ v.1)
    ∙ ap (replay m (c ∷ l)) (drop-append_seam (write c) rest)

pub replay-whole : (l : List Change) → Valid l → replay (length l) [] (write_all l) ≡ belongs l
unfolding replay
replay-whole l v = ap (replay (length l) []) (sym (append-nil (write_all l))) ∙ replay-write l v (length l) 0 [] (omega arith)

-- what a replay that belongs says
pub record Played (acc : List Change) (rest : List ℕ) (n : ℕ) (l : List Change) : Type 0 where
  pub valid : Valid l
  pub bytes : write_all l ≡ write_all acc ++ rest
  pub count : length l ≡ n + length acc

nowhere : {A : Type 0} {l : List Change} → mismatched ≡ belongs l → A
nowhere e = let z : ◌≡◌ {A = ℕ} 0 1 = cc in absurd (omega arith)

pub replay-sound : (n : ℕ) (acc : List Change) (rest : List ℕ) (l : List Change) → Valid acc → replay n acc rest ≡ belongs l → Played acc rest n l
unfolding replay Valid write_all
replay-sound zero acc [] l v e =
    let p : acc ≡ l = cc in
    subst (Played acc [] 0) p (record { valid = v; bytes = sym (append-nil (write_all acc)); count = omega arith })
replay-sound zero acc (b ∷ rest) l v e = nowhere e
replay-sound (suc n) acc rest l v e = go (λ c k w h. replay-sound n (c ∷ acc) (drop k rest) l w h) (scan rest) refl e
  where
    Later : Type 0
    Later = (c : Change) (k : ℕ) → Good c × (refusal acc 65535 c ≡ 0) × Valid acc → replay n (c ∷ acc) (drop k rest) ≡ belongs l → Played (c ∷ acc)
        (drop k rest) n l

    more : Later → (c : Change) (k : ℕ) → scan rest ≡ seen c k → (b : Bool) → eqb (refusal acc 65535 c) 0 ≡ b
        → cond b (replay n (c ∷ acc) (drop k rest)) mismatched ≡ belongs l → Played acc rest (suc n) l
    more ih c k e true t h =
        let f = scan-got rest c k e in
        let p = ih c k (f.good, eqb-true _ _ t, v) h in
        record {
          valid = p.valid;
          bytes = p.bytes ∙ append_assoc (write_all acc) (write c) (drop k rest) ∙ ap (λ (x : List ℕ). write_all acc ++ x) (sym f.bytes);
          count = omega (arith, p.count);
        }
    more ih c k e false t h = nowhere h

    go : Later → (r : Scan) → scan rest ≡ r → replay_on acc rest (replay n) r ≡ belongs l → Played acc rest (suc n) l
    go ih (seen c k) e h = more ih c k e (eqb (refusal acc 65535 c) 0) refl h
    go ih unseen e h = nowhere h

-- a change that is taken over some lent bytes is taken over 65,535
capped : (k f w : Bool) (a b : ℕ) → (a ≡ 0 → b ≡ 0)
    → cond k (cond f 10 (cond w a 12)) (cond f a 11) ≡ 0 → cond k (cond f 10 (cond w b 12)) (cond f b 11) ≡ 0
capped true true w a b h e = absurd (omega arith)
capped true false true a b h e = h e
capped true false false a b h e = absurd (omega arith)
capped false true w a b h e = h e
capped false false w a b h e = absurd (omega arith)

room-capped : (n u len lent : ℕ) → space_fault n u len lent ≡ 0 → space_fault n u len 65535 ≡ 0
room-capped n u len lent = go (ltb n 512) (leb (u + len) (cond (ltb 65535 lent) 65535 lent)) refl
  where
    most : (b : Bool) → ltb 65535 lent ≡ b → cond b 65535 lent ≤ 65535
    most true e = omega arith
    most false e = omega (arith, ltb-false 65535 lent e)

    go : (a b : Bool) → leb (u + len) (cond (ltb 65535 lent) 65535 lent) ≡ b
        → ◌≡◌ {A = ℕ} (cond a (cond b 0 13) 13) 0 → ◌≡◌ {A = ℕ} (cond a (cond (leb (u + len) 65535) 0 13) 13) 0
    go true true t e = simp (le-leb (u + len) 65535 (omega (arith, leb-true (u + len) _ t, most (ltb 65535 lent) refl)))
    go true false t e = absurd (omega arith)
    go false b t e = absurd (omega arith)

pub refusal-capped : (l : List Change) (lent : ℕ) (c : Change) → refusal l lent c ≡ 0 → refusal l 65535 c ≡ 0
unfolding change_fault
refusal-capped l lent c h =
    refusal-judge l 65535 c
    ∙ capped (is_filing (kind_of c)) (stands (key_of c) (standing l)) (ltb (count (key_of c) (standing l)) (limit_of (key_of c))) _ _
    (room-capped (length l) (length (write_all l)) (length (write c)) lent) (sym (refusal-judge l lent c) ∙ h)

-- no call leaves a list that cannot be played
pub listed-valid : (i : Input Change) (lent : ℕ) (g : Reg) → ((c : Change) → i ≡ fine c → Good c) → Valid g.list → Valid (after (listed i lent g) g).list
unfolding Valid
listed-valid (fault n) lent g ok v = v
listed-valid (fine c) lent g ok v = open-or g.closed
  where
    played : (n : ℕ) → refusal g.list lent c ≡ n → Valid (after (judged c g n) g).list
    played zero e = (ok c refl, refusal-capped g.list lent c e, v)
    played (suc n) e = v

    open-or : (b : Bool) → Valid (after (cond b (answered (refused 9)) (judged c g (refusal g.list lent c))) g).list
    open-or true = v
    open-or false = played (refusal g.list lent c) refl

taken-valid : (m lent : ℕ) (g : Reg) → Valid g.list → Valid (after (taken_back m lent g) g).list
unfolding Valid
taken-valid m lent g v = go m g.closed g.list v
  where
    go : (n : ℕ) (b : Bool) (l : List Change) → Valid l → Valid
        (after (unless-closed n (record { list = l; closed = b }) (shorter b l)) (record { list = l; closed = b })).list
    go zero true l v = v
    go zero false [] v = v
    go zero false (c ∷ l) v = v.2
    go (suc n) b l v = v

closing-valid : (m lent : ℕ) (g : Reg) → Valid g.list → Valid (after (closing m lent g) g).list
closing-valid m lent g v = go m g.closed
  where
    go : (n : ℕ) (b : Bool) → Valid
        (after (unless-closed n (record { list = g.list; closed = b }) (becomes (record { list = g.list; closed = true }))) g).list
    go zero true = v
    go zero false = v
    go (suc n) b = v

after-valid : (call : Call) (lent : ℕ) (g : Reg) → Valid g.list → Valid (after (step_of call lent g) g).list
after-valid (file s) lent g v = listed-valid (parse (Only File) s) lent g (λ c e. (parse-fine (Only File) s c e).good) v
after-valid (correct s) lent g v = listed-valid (parse (Only Correct) s) lent g (λ c e. (parse-fine (Only Correct) s c e).good) v
after-valid (withdraw s) lent g v = listed-valid (parse (Only Withdraw) s) lent g (λ c e. (parse-fine (Only Withdraw) s c e).good) v
after-valid (take_back s) lent g v = taken-valid (bare_take_back s) lent g v
after-valid (close s) lent g v = closing-valid (bare_close s) lent g v
after-valid (change s) lent g v = go (begins take_back_bytes s) (begins close_bytes s)
  where
    go : (a b : Bool) → Valid (after (cond a (taken_back (bare_take_back s)) (cond b (closing (bare_close s)) (listed (parse Any s))) lent g) g).list
    go true b = taken-valid (bare_take_back s) lent g v
    go false true = closing-valid (bare_close s) lent g v
    go false false = listed-valid (parse Any s) lent g (λ c e. (parse-fine Any s c e).good) v
after-valid (ask q) lent g v = v

pub called-valid : (call : Call) (lent : ℕ) (g : Reg) → Valid g.list → Valid (after (called call lent g) g).list
unfolding called
called-valid call lent g v = go (ltb lent (length (write_all g.list)))
  where
    go : (b : Bool) → Valid (after (cond b (answered (refused 16)) (step_of call lent g)) g).list
    go true = v
    go false = after-valid call lent g v

-- a book that is the register's, over bytes that stand as they were left, does what the register does
pub outcome-is : (call : Call) (g : Reg) (s : List ℕ) → Valid g.list
    → take (length (write_all g.list)) s ≡ take (length s) (write_all g.list)
    → outcome (step_of call) (book_of g) s ≡ leaving (book_of g) s (called call (length s) g)
unfolding outcome load called
outcome-is call g s v h = go (ltb (length s) (length (write_all g.list))) refl
  where
    w : List ℕ
    w = write_all g.list

    go : (b : Bool) → ltb (length s) (length w) ≡ b
        → leaving (book_of g) s
        (stepped (step_of call) (book_of g) s (cond (leb (length w) (length s)) (replay (length g.list) [] (take (length w) s)) mismatched))
        ≡ leaving (book_of g) s (cond b (answered (refused 16)) (step_of call (length s) g))
    go true t = simp (lt-leb (length w) (length s) (ltb-true (length s) (length w) t))
    go false t =
        let le = ltb-false (length s) (length w) t in
        simp (le-leb (length w) (length s) le, h, take_all (length s) w le, replay-whole g.list v)
