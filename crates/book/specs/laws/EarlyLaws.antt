-- 1, "bytes end early", is said of bytes that are no change for that reason, and of no others.
use Rattle.std.specs.Prelude.{◌≡◌, refl, Bool, true, false, cond, List, [], ◌∷◌, ℕ, zero, suc, ◌+◌, ltb, leb, length}
use Rattle.std.proofs.Common.{ap, ◌∙◌, arith}
use Rattle.book.specs.Layer.{Change, filed, corrected, withdrawn, write, Input, fine, fault, parse, begins, take_back_bytes, close_bytes, limit_of, Any}
use Rattle.book.specs.laws.LayerLaws.{Unread, bare-early}
use Rattle.book.specs.Register.{Reg, change, Reply, refused, Step, answered, becomes, called, listed, judged, taken_back, closing, shorter, unless-closed, bare_take_back, bare_close, refusal, capped, stands, count, standing, write_all}
use Rattle.book.specs.Replies.{replied}

-- a step that says something else
abbrev Else : Step → Type 0
Else (answered r) = replied r ≡ 1 → ⊥
Else (becomes g) = Unit {0}

else-said : (n : ℕ) → (n ≡ 1 → ⊥) → Else (answered (refused n))
else-said n z = z

-- 10 to 13
else-judged : (c : Change) (g : Reg) (lent : ℕ) → Else (judged c g (refusal g.list lent c))
unfolding refusal
else-judged c g lent = by c
  where
    roomy : (c d : Change) → Else
        (judged c g (cond (ltb (length g.list) 512) (cond (leb (length (write_all g.list) + length (write d)) (capped lent)) 0 13) 13))
    roomy c d = go (ltb (length g.list) 512) (leb (length (write_all g.list) + length (write d)) (capped lent))
      where
        go : (p q : Bool) → Else (judged c g (cond p (cond q 0 13) 13))
        go true true = tt
        go true false = else-said 13 (λ z. omega arith)
        go false q = else-said 13 (λ z. omega arith)

    standing-too : (c : Change) (a : Bool) (n : ℕ) → Else (judged c g n) → Else (judged c g (cond a n 11))
    standing-too c true n x = x
    standing-too c false n x = else-said 11 (λ z. omega arith)

    new : (c : Change) (a b : Bool) (n : ℕ) → Else (judged c g n) → Else (judged c g (cond a 10 (cond b n 12)))
    new c true b n x = else-said 10 (λ z. omega arith)
    new c false true n x = x
    new c false false n x = else-said 12 (λ z. omega arith)

    by : (c : Change) → Else (judged c g (refusal g.list lent c))
    by (filed r) = new (filed r) (stands r.key (standing g.list)) (ltb (count r.key (standing g.list)) (limit_of r.key)) _
        (roomy (filed r) (filed r))
    by (corrected r) = standing-too (corrected r) (stands r.key (standing g.list)) _ (roomy (corrected r) (corrected r))
    by (withdrawn k) = standing-too (withdrawn k) (stands k (standing g.list)) _ (roomy (withdrawn k) (withdrawn k))

-- 9, and what comes after it
else-open : (g : Reg) (st : Step) → Else st → Else (cond g.closed (answered (refused 9)) st)
else-open g st x = go g.closed
  where
    go : (b : Bool) → Else (cond b (answered (refused 9)) st)
    go true = else-said 9 (λ z. omega arith)
    go false = x

else-bare : (m : ℕ) (g : Reg) (st : Step) → (m ≡ 1 → ⊥) → Else st → Else (unless-closed m g st)
else-bare zero g st z x = else-open g st x
else-bare (suc n) g st z x = else-said (suc n) z

else-shorter : (cl : Bool) (l : List Change) → Else (shorter cl l)
else-shorter cl [] = else-said 14 (λ z. omega arith)
else-shorter cl (c ∷ l) = tt

pub early : (s : List ℕ) (lent : ℕ) (g : Reg) (r : Reply) → called (change s) lent g ≡ answered r → replied r ≡ 1 → Unread s 1
unfolding called
early s lent g r e one = go (ltb lent (length (write_all g.list))) (begins take_back_bytes s) refl (begins close_bytes s) refl e
  where
    no : (st : Step) → Else st → st ≡ answered r → Unread s 1
    no (answered q) x f = let p : q ≡ r = cc in absurd (x (ap replied p ∙ one))
    no (becomes h) x f = absurd (let z : ◌≡◌ {A = ℕ} 0 1 = cc in omega arith)

    read : begins take_back_bytes s ≡ false → begins close_bytes s ≡ false → (i : Input Change) → parse Any s ≡ i → listed i lent g ≡ answered r → Unread s 1
    read b c (fault n) p f =
        let q : refused n ≡ r = cc in
        let k : n ≡ 1 = ap replied q ∙ one in
        record { no-back = b; no-close = c; refused = p ∙ ap fault k }
    read b c (fine x) p f = no (listed (fine x) lent g) (else-open g (judged x g (refusal g.list lent x)) (else-judged x g lent)) f

    go : (x a : Bool) → begins take_back_bytes s ≡ a → (b : Bool) → begins close_bytes s ≡ b
        → cond x (answered (refused 16)) (cond a (taken_back (bare_take_back s)) (cond b (closing (bare_close s)) (listed (parse Any s))) lent g) ≡ answered r →
        Unread s 1
    go true a p b q f = no (answered (refused 16)) (else-said 16 (λ z. omega arith)) f
    go false true p b q f = no (taken_back (bare_take_back s) lent g)
        (else-bare (bare_take_back s) g (shorter g.closed g.list) (bare-early 84 66 s p) (else-shorter g.closed g.list)) f
    go false false p true q f = no (closing (bare_close s) lent g)
        (else-bare (bare_close s) g (becomes (record { list = g.list; closed = true })) (bare-early 67 76 s q) tt) f
    go false false p false q f = read p q (parse Any s) refl f
