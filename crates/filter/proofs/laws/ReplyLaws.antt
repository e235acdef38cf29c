-- The test on replies says that they are the same, all of each.
use Rattle.std.specs.Prelude.{◌≡◌, refl, Bool, true, false, ◌&&◌, List, [], ◌∷◌, ℕ, zero, suc, eqb, ℤ, nat_abs}
use Rattle.std.proofs.Common.{sym, ◌∙◌, arith, eqb-true}
use Rattle.laws.specs.SumLaws.{and-true}
use Rattle.money.specs.Names.{same_bytes}
use Rattle.money.proofs.laws.NameLaws.{bytes-is}
use Rattle.money.proofs.laws.UnitLaws.{same-is}
use Rattle.money.specs.Units.{sameℤ}
use Rattle.book.specs.Replies.{Reply, refused, accepted, place, number, guarantees, unit_day, charge}
use Rattle.book.specs.declared.answers.NamedAmount.{NamedAmount}
use Rattle.filter.proofs.laws.Replies.{parts, same_numbers, same_amount, same_named, same_reply}

never : {A : Type 0} → false ≡ true → A
never e = absurd (let z : ◌≡◌ {A = ℕ} 0 1 = cc in omega arith)

numbers-are : (xs ys : List ℤ) → same_numbers xs ys ≡ true → xs ≡ ys
numbers-are [] [] e = refl
numbers-are [] (y ∷ ys) e = never e
numbers-are (x ∷ xs) [] e = never e
numbers-are (x ∷ xs) (y ∷ ys) e =
    let a = and-true (sameℤ x y) (same_numbers xs ys) e in
    let h = same-is x y a.0 in
    let t = numbers-are xs ys a.1 in
    λ i. h i ∷ t i

amount-is : (a b : NamedAmount) → same_amount a b ≡ true → a ≡ b
amount-is a b e =
    let s : Bool = eqb a.name.len b.name.len && same_bytes a.name.bytes b.name.bytes in
    let x = and-true s (sameℤ a.ticks.0 b.ticks.0) e in
    let y = and-true (eqb a.name.len b.name.len) (same_bytes a.name.bytes b.name.bytes) x.0 in
    let l = eqb-true a.name.len b.name.len y.0 in
    let n = bytes-is a.name.bytes b.name.bytes y.1 in
    let v = same-is a.ticks.0 b.ticks.0 x.1 in
    λ i. record { name = record { len = l i; bytes = n i }; ticks = record { 0 = v i } }

named-are : (xs ys : List NamedAmount) → same_named xs ys ≡ true → xs ≡ ys
named-are [] [] e = refl
named-are [] (y ∷ ys) e = never e
named-are (x ∷ xs) [] e = never e
named-are (x ∷ xs) (y ∷ ys) e =
    let a = and-true (same_amount x y) (same_named xs ys) e in
    let h = amount-is x y a.0 in
    let t = named-are xs ys a.1 in
    λ i. h i ∷ t i

-- the reply of its parts
abbrev whole : ℕ → List ℤ → List NamedAmount → Reply
whole zero [] l = accepted
whole zero (x ∷ xs) l = refused (nat_abs x)
whole (suc zero) xs l = accepted
whole (suc (suc zero)) [] l = accepted
whole (suc (suc zero)) (x ∷ []) l = accepted
whole (suc (suc zero)) (x ∷ y ∷ xs) l = place (nat_abs x) (nat_abs y)
whole (suc (suc (suc zero))) [] l = accepted
whole (suc (suc (suc zero))) (x ∷ xs) l = number (nat_abs x)
whole (suc (suc (suc (suc zero)))) [] l = accepted
whole (suc (suc (suc (suc zero)))) (x ∷ xs) l = guarantees l x
whole (suc (suc (suc (suc (suc zero))))) [] l = accepted
whole (suc (suc (suc (suc (suc zero))))) (x ∷ []) l = accepted
whole (suc (suc (suc (suc (suc zero))))) (x ∷ y ∷ xs) l = unit_day x y
whole (suc (suc (suc (suc (suc (suc n)))))) [] l = accepted
whole (suc (suc (suc (suc (suc (suc n)))))) (x ∷ xs) l = charge x

whole_is : (r : Reply) → whole (parts r).kind (parts r).numbers (parts r).named ≡ r
whole_is (refused n) = refl
whole_is accepted = refl
whole_is (place a b) = refl
whole_is (number n) = refl
whole_is (guarantees cs o) = refl
whole_is (unit_day t v) = refl
whole_is (charge t) = refl

pub same-reply : (a b : Reply) → same_reply a b ≡ true → a ≡ b
same-reply a b e =
    let x = and-true (eqb (parts a).kind (parts b).kind) (same_numbers (parts a).numbers (parts b).numbers && same_named (parts a).named (parts b).named)
    e in
    let y = and-true (same_numbers (parts a).numbers (parts b).numbers) (same_named (parts a).named (parts b).named) x.1 in
    let k = eqb-true (parts a).kind (parts b).kind x.0 in
    let n = numbers-are (parts a).numbers (parts b).numbers y.0 in
    let l = named-are (parts a).named (parts b).named y.1 in
    sym (whole_is a) ∙ (λ i. whole (k i) (n i) (l i)) ∙ whole_is b
