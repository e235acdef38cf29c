-- A lent list that is taken entry by entry into the places of an hour has the answer of the list. Assumes nothing.
use Rattle.std.specs.Prelude.{◌≡◌, refl, Bool, List, [], ◌∷◌, ℕ, zero, suc, ◌+◌, ◌-◌, ◌≤◌, ◌<◌, min, leb, ◌-ℤ◌, set, length}
use Rattle.std.proofs.Math.Path.{ap}
use Rattle.std.proofs.Common.{◌∙◌, subst, arith, lt-ltb, le-ltb, length-set, get_or-set_same, get_or-set_other}
use Rattle.std.proofs.Math.Bool.{cond, not}
use Rattle.std.proofs.lemmas.Bool.{lt-leb}
use Rattle.laws.specs.Sums.{or_else}
use Rattle.laws.specs.SumLaws.{Σℤ-ext, Σℕ-ext, every-ext, first_of-ext, below_or}
use Rattle.money.specs.declared.units.Price.{Price}
use Rattle.money.specs.declared.units.Quantity.{Quantity}
use Rattle.money.specs.Answers.{Refused}
use Rattle.money.specs.declared.imports.Import.{Import}
use Rattle.money.specs.declared.offset.Taken.{Taken}
use Rattle.money.specs.Units.{quantity_at, unless, answer}
use Rattle.money.specs.Guarantee.{credit}
use Rattle.money.specs.Names.{same_name}
use Rattle.money.specs.Offset.{max_imports, no_import, entry, mqsi, counted, adj, offset, entry_fault, fresh_name, nth_fault, entries_fault, rates_ok, offset_answer}
use Rattle.money.proofs.laws.GuaranteeLaws.{credit-ext}
use Rattle.money.specs.tables.Taken.{start_of, fold_of, finish_of, offset_of}

-- ---- the answer hangs on the first n entries only
module _ (n : ℕ) (es es' : List Import) (same : (i : ℕ) → i < n → entry es i ≡ entry es' i) (ps : List Price) (ts : List Quantity) where
  adj-front : (i : ℕ) → i < n → (k : ℕ) → adj n es ts i k ≡ adj n es' ts i k
  adj-front i l k =
      let r = Σℕ-ext n (λ j. counted (entry es j) (entry es i) k) (λ j. counted (entry es' j) (entry es' i) k)
      (λ j h. (λ x. counted (same j h x) (same i l x) k)) in
      (λ x. min (mqsi (same i l x) k) (r x - quantity_at ts k))

  offset-front : offset n es ps ts ≡ offset n es' ps ts
  unfolding offset
  offset-front =
      let a = Σℤ-ext n (λ i. (entry es i).credit.0) (λ i. (entry es' i).credit.0) (λ i l. ap (λ (e : Import). e.credit.0) (same i l)) in
      let b = Σℤ-ext n (λ i. credit (entry es i).offer ps (adj n es ts i)) (λ i. credit (entry es' i).offer ps (adj n es' ts i))
      (λ i l. ap (λ (e : Import). credit e.offer ps (adj n es ts i)) (same i l) ∙ credit-ext (entry es' i).offer ps _ _ (λ k m. adj-front i l k)) in
      (λ x. a x -ℤ b x)

  fault-front : (i : ℕ) → i < n → nth_fault ps es i ≡ nth_fault ps es' i
  unfolding nth_fault fresh_name
  fault-front i l =
      let f = every-ext i (λ j. not (same_name (entry es i).name (entry es j).name)) (λ j. not (same_name (entry es' i).name (entry es' j).name))
      (λ j h. (λ x. not (same_name (same i l x).name (same j (omega arith) x).name))) in
      (λ x. or_else (entry_fault ps (same i l x)) (unless (f x) 10 0))

  pub answer-front : offset_answer n es ps ts ≡ offset_answer n es' ps ts
  unfolding offset_answer entries_fault
  answer-front =
      let f = first_of-ext n (nth_fault ps es) (nth_fault ps es') fault-front in
      (λ x. cond (leb n max_imports) (cond (rates_ok ps ts) (answer (f x) (offset-front x)) (Refused 5)) (Refused 12))

record Kept (s : Taken) (es : List Import) (t : Taken) : Type 0 where
  number : t.count ≡ s.count + length es
  prices : t.prices ≡ s.prices
  totals : t.totals ≡ s.totals
  old : (i : ℕ) → i < s.count → entry t.entries i ≡ entry s.entries i
  new : (j : ℕ) → j < length es → entry t.entries (s.count + j) ≡ entry es j

kept : (es : List Import) (s : Taken) → s.count + length es ≤ max_imports → length s.entries ≡ max_imports → Kept s es (fold_of s es)
unfolding fold_of
kept [] s h l = record { number = omega arith; prices = refl; totals = refl; old = λ i k. refl; new = λ j k. absurd (omega arith) }
kept (e ∷ es) s h l =
    let s' : Taken = record { count = s.count + 1; prices = s.prices; totals = s.totals; entries = set s.entries s.count e } in
    let k : Kept s' es (fold_of s' es) = kept es s' (omega arith) (simp length-set l) in
    rw (lt-ltb s.count max_imports (omega arith)) (record {
      number = omega (arith, k.number);
      prices = k.prices;
      totals = k.totals;
      old = λ i m. k.old i (omega arith) ∙ get_or-set_other s.entries s.count i e no_import (λ z. omega arith);
      new = at (fold_of s' es) (k.old s.count (omega arith) ∙ get_or-set_same s.entries s.count e no_import (omega arith)) k.new;
    })
  where
    at : (t : Taken) → entry t.entries s.count ≡ e → ((j : ℕ) → j < length es → entry t.entries (s.count + 1 + j) ≡ entry es j) → (j : ℕ)
        → j < suc (length es) → entry t.entries (s.count + j) ≡ entry (e ∷ es) j
    at t f g zero m = subst (λ (i : ℕ). entry t.entries i ≡ e) (omega arith) f
    at t f g (suc j) m = subst (λ (i : ℕ). entry t.entries i ≡ entry es j) (omega arith) (g j (omega arith))

over : (es : List Import) (s : Taken) → max_imports < s.count + length es → s.count ≤ max_imports + 1 → (fold_of s es).count ≡ max_imports + 1
unfolding fold_of
over [] s h l = omega arith
over (e ∷ es) s h l =
    let x : Taken = record { count = s.count + 1; prices = s.prices; totals = s.totals; entries = set s.entries s.count e } in
    let y : Taken = record { count = max_imports + 1; prices = s.prices; totals = s.totals; entries = s.entries } in
    below_or s.count max_imports
    (λ k. ap (λ (b : Bool). (fold_of (cond b x y) es).count) (lt-ltb s.count max_imports k) ∙ over es x (omega arith) (omega arith))
    (λ k. ap (λ (b : Bool). (fold_of (cond b x y) es).count) (le-ltb s.count max_imports k) ∙ over es y (omega arith) (omega arith))

-- for a list of any length
pub whole : (es : List Import) (ps : List Price) (ts : List Quantity) → offset_of es ps ts ≡ offset_answer (length es) es ps ts
unfolding offset_answer
whole es ps ts = below_or (length es) (max_imports + 1) few many
  where
    t : Taken
    t = fold_of (start_of ps ts) es

    few : length es < max_imports + 1 → finish_of t ≡ offset_answer (length es) es ps ts
    few h =
        let k = kept es (start_of ps ts) (omega arith) refl in
        let n : t.count ≡ length es = omega (arith, k.number) in
        (λ i. offset_answer (n i) t.entries (k.prices i) (k.totals i))
        ∙ answer-front (length es) t.entries es (λ i l. subst (λ (j : ℕ). entry t.entries j ≡ entry es i) (omega arith) (k.new i l)) ps ts

    many : max_imports + 1 ≤ length es → finish_of t ≡ offset_answer (length es) es ps ts
    many h =
        let n : t.count ≡ max_imports + 1 = over es (start_of ps ts) (omega arith) (omega arith) in
        rw (n, lt-leb (length es) max_imports (omega arith))
