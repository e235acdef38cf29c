-- The loops over the hours and the units of a day, and the answer that they make.
use Rattle.std.proofs.Common.{ℕ, zero, suc, ◌+◌, ◌≤◌, ◌<◌, ◌≡◌, refl, sym, ap, ◌∙◌, subst, List, [], ◌∷◌, ◌++◌, map, Option, Result, Ok, arith, append_assoc, length-append, length, get_or}
use Rattle.std.proofs.Math.Path.{subst⁻¹}
use Rattle.std.specs.Array.{IsFromFnResultFrom, IsFromFnResult}
use Rattle.std.proofs.lemmas.List.{map_push}
use Rattle.fixed_list.specs.FixedList.{FixedList as Items}
use Rattle.std.specs.Fn.{Mut, Called}
use Rattle.money.specs.Units.{day_hours}
use Rattle.money.specs.declared.production.DayTotals.{DayTotals}
use Rattle.book.specs.Layer.{Name, Change, filed, Gh, HourPrices, Refusal}
use Rattle.book.specs.laws.LayerLaws.{Padded, good-padded}
use Rattle.book.specs.declared.answers.HourAmounts.{HourAmounts}
use Rattle.book.specs.declared.answers.UnitAmounts.{UnitAmounts}
use Rattle.book.specs.declared.log.checked_log.CheckedLog.{CheckedLog}
use Rattle.book.specs.Register.{standing, max_changes}
use Rattle.book.specs.Amounts.{HourPricing, price_of, unit_day_of}
use Rattle.book.specs.ByName.{names_of}
use Rattle.book.specs.Meaning.{Load, belongs, Valid, day_reply}
use Rattle.book.specs.UnitNames.{gh_key, unit_key}
use Rattle.book.specs.tables.CheckedLog.{Says}
use Rattle.book.specs.tables.Prices.{TableOf}
use Rattle.book.specs.tables.Units.{Named}
use Rattle.book.specs.WholeDay.{HourReply, hour_reply, unit_reply, hours_from, day_amounts, whole, told_hour, told_unit, told_day}
use Rattle.book.specs.laws.StandLaws.{all_map, all-at, all-names, standing-good}
use Rattle.book.specs.laws.ValidLaws.{names-few}

-- ---- an array that a closure fills, which each call leaves as it was

module _ {F B : Type 0} (g : Mut F (ℕ × Unit {0}) B) (f : F) (P : ℕ → B → Type 0) (m : ℕ)
    (by : (i : ℕ) (y : B) (q : F) → i < m → Called g f (i, tt) y q → P i y × (q ≡ f)) where
  filled-from : (n k i : ℕ) (ys : List B) → i + n ≤ m → IsFromFnResultFrom g f ys i n → k < n → (e : B) → P (i + k) (get_or ys (i + k) e)
  filled-from zero k i ys le h lt e = absurd (omega arith)
  filled-from (suc n) zero i ys le h lt e =
      let z : i ≡ i + 0 = omega arith in
      subst (λ (j : ℕ). P j (get_or ys j e)) z (subst (P i) (sym (h.2.1 e)) (by i h.1 h.0 (omega arith) h.3).0)
  filled-from (suc n) (suc k) i ys le h lt e =
      let z : i + 1 + k ≡ i + suc k = omega arith in
      subst (λ (j : ℕ). P j (get_or ys j e)) z
      (filled-from n k (i + 1) ys (omega arith) (subst (λ (p : F). IsFromFnResultFrom g p ys (i + 1) n) (by i h.1 h.0 (omega arith) h.3).1 h.4) (omega arith) e)

  pub filled : (ys : List B) → IsFromFnResult g f ys m → (j : ℕ) → j < m → (e : B) → P j (get_or ys j e)
  filled ys h j lt e =
      let z : 0 + j ≡ j = omega arith in subst (λ (k : ℕ). P k (get_or ys k e)) z (filled-from m j 0 ys (omega arith) h.each lt e)

-- ---- the hours of a day

in-turn : {A B : Type 0} (g : A → B) (f : ℕ → B) (h : ℕ) (xs : List A) → ((j : ℕ) → j < length xs → (d : A) → g (get_or xs j d) ≡ f (h + j))
    → map g xs ≡ map f (hours_from h (length xs))
unfolding hours_from
in-turn g f h [] each = refl
in-turn g f h (x ∷ xs) each =
    let z : h + 0 ≡ h = omega arith in
    let first : g x ≡ f h = each 0 (omega arith) x ∙ ap f z in
    let rest = in-turn g f (h + 1) xs (λ j lt d. let n : h + suc j ≡ h + 1 + j = omega arith in each (suc j) (omega arith) d ∙ ap f n) in
    λ i. first i ∷ rest i

pub hours-told : (f : ℕ → HourReply) (xs : List HourAmounts) → length xs ≡ day_hours
    → ((j : ℕ) → j < day_hours → (x : HourAmounts) → told_hour (get_or xs j x) ≡ f (1 + j))
    → map told_hour xs ≡ map f (hours_from 1 day_hours)
hours-told f xs long each = in-turn told_hour f 1 xs (λ j lt. each j (omega (arith, long))) ∙ ap (λ (n : ℕ). map f (hours_from 1 n)) long

-- ---- the loop over the units

-- the units so far, and the names to come
pub record Dealt (h : CheckedLog) (t : List (Option HourPrices)) (names : List Name) (units : List UnitAmounts) (rest : List Name) : Type 0 where
  pub few : length units + length rest ≤ max_changes
  pub padded : (i : ℕ) → i < length rest → (d : Name) → Padded (get_or rest i d)
  pub both : (l : List Change) → Says h l → (q : ℕ → HourPricing) → TableOf q t
      → map told_unit units ++ map (unit_reply (standing l) q) rest ≡ map (unit_reply (standing l) q) names

-- there is room for one more
pub dealt-room : {h : CheckedLog} {t : List (Option HourPrices)} {names rest ns : List Name} {units : List UnitAmounts} → Dealt h t names units rest
    → (n : Name) → rest ≡ n ∷ ns → length units < max_changes
dealt-room d n e = omega (arith, d.few, ap length e)

-- one name more
pub dealt-more : {h : CheckedLog} {t : List (Option HourPrices)} {names rest ns : List Name} {units us : List UnitAmounts} → Dealt h t names units rest
    → (n : Name) (day : Result DayTotals Refusal) → rest ≡ n ∷ ns → us ≡ units ++ (record { name = n; day = day } ∷ [])
    → ((l : List Change) → Says h l → Gh ≡ Gh → (q : ℕ → HourPricing) → TableOf q t → day_reply day ≡ unit_day_of (unit_key n) (standing l) q)
    → Dealt h t names us ns
dealt-more {ns = ns} {units = units} d n day e k each = record {
  few = omega (arith, d.few, ap length e, ap length k, length-append units (u ∷ []));
  padded = λ i lt z. subst (λ (xs : List Name). Padded (get_or xs (suc i) z)) e (d.padded (suc i) (omega (arith, ap length e)) z);
  both = λ l s q w. let f = unit_reply (standing l) q in let same = each l s refl q w in
      ap (λ (xs : List UnitAmounts). map told_unit xs ++ map f ns) k ∙ ap (λ xs. xs ++ map f ns) (map_push told_unit units u)
      ∙ append_assoc (map told_unit units) (told_unit u ∷ []) (map f ns) ∙ (λ i. map told_unit units ++ (record { name = n; day = same i } ∷ map f ns))
      ∙ ap (λ (xs : List Name). map told_unit units ++ map f xs) (sym e) ∙ d.both l s q w;
}
  where
    u : UnitAmounts
    u = record { name = n; day = day }

-- ---- the answer

-- each name of the units is a record's
pub names-formed : (ns : List Name) (l : List Change) → Valid l → ns ≡ names_of gh_key (standing l) → Named ns
names-formed ns l v e = subst⁻¹ Named e (record {
  few = names-few gh_key l v;
  padded = λ i lt d. all-at {P = Padded} (all-names gh_key (all_map (λ r g q. good-padded (filed r) g) (standing-good l v))) d i lt;
})

pub day-made : {b : Load} {l : List Change} (hs : List HourAmounts) (us : Items UnitAmounts) → b ≡ belongs l
    → map told_hour hs ≡ map (hour_reply (standing l) (price_of (standing l))) (hours_from 1 day_hours)
    → map told_unit us.items ≡ map (unit_reply (standing l) (price_of (standing l))) (names_of gh_key (standing l))
    → told_day (Ok (record { hours = hs; units = us })) ≡ day_amounts b
day-made hs us e h u = (λ i. whole (h i) (u i)) ∙ sym (ap day_amounts e)
