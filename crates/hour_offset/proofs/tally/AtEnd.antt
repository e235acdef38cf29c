-- What the tally of an hour comes to at the end.
use Rattle.std.specs.Prelude.{◌≡◌, refl, List, Bool, true, false, cond, ℕ, eqb, pos, length, take, drop, get_or, Option, Some, None, Ok, Err}
use Rattle.std.proofs.Common.{sym, ap, ap₂, ◌∙◌, get_or-take}
use Rattle.std.specs.Option.{ok_or}
use Rattle.money.specs.Refusals.{number_of}
use Rattle.money.specs.declared.refusals.Refusal.{Refusal}
use Rattle.money.specs.declared.refusals.Refusal.TheVariants.{PriceMissing}
use Rattle.money.specs.declared.units.Quantity.{Quantity}
use Rattle.money.specs.declared.imports.Import.{Import}
use Rattle.money.specs.Answers.{Answer, Amount, Refused}
use Rattle.records.specs.Views.{prices_in}
use Rattle.records.specs.Amounts.{no_import, offset_answer}
use Rattle.records.proofs.laws.BookLaws.{answer-front}
use Rattle.records.specs.declared.layouts.HourPrices.{HourPrices}
use Rattle.book.specs.tables.Worked.{entries_in, totals_in}
use Rattle.hour_offset.specs.tables.Tally.{is_there, place_or, sheet_of, worked_at, end_of}
use Rattle.hour_offset.specs.declared.tally.Tally.{Tally}

-- the place of the prices, or the refusal without one
placed : (o : Option ℕ) (at : ℕ) → Ok at ≡ ok_or o PriceMissing → o ≡ Some at
placed None at e = cc
placed (Some n) at e = cc

unplaced : (o : Option ℕ) (r : Refusal) → Err r ≡ ok_or o PriceMissing → (o ≡ None) × (r ≡ PriceMissing)
unplaced None r e = (refl, cc)
unplaced (Some n) r e = cc

module _ (s : List ℕ) (t : Tally) where
  ends_in : Bool → Option ℕ → Answer
  ends_in a o = cond a (Amount (record { 0 = pos 0 })) (cond (is_there o) (worked_at s (prices_in (drop (place_or o) s)) (sheet_of t)) (Refused 15))

  by_tests : (a : Bool) (o : Option ℕ) → eqb (length t.imports.items) 0 ≡ a → t.price ≡ o → ends_in a o ≡ end_of s (sheet_of t)
  unfolding ends_in end_of
  by_tests a o e f = sym (ap₂ ends_in e f)

  pub end_none : eqb (length t.imports.items) 0 ≡ true → Amount (record { 0 = pos 0 }) ≡ end_of s (sheet_of t)
  unfolding ends_in
  end_none h = by_tests true t.price h refl

  module _ (h : eqb (length t.imports.items) 0 ≡ false) where
    pub end-unpriced : (r : Refusal) → Err r ≡ ok_or t.price PriceMissing → Refused (number_of r) ≡ end_of s (sheet_of t)
    unfolding ends_in
    end-unpriced r e =
        let u = unplaced t.price r e in
        ap (λ (x : Refusal). Refused (number_of x)) u.1 ∙ by_tests false None h u.0

    pub end-worked : (at : ℕ) → Ok at ≡ ok_or t.price PriceMissing → worked_at s (prices_in (drop at s)) (sheet_of t) ≡ end_of s (sheet_of t)
    unfolding ends_in
    end-worked at e = by_tests false (Some at) h (placed t.price at e)

  -- what is worked is that of the entries and sums as they are read
  pub worked-read : (at : ℕ) (p : HourPrices) → p ≡ prices_in (drop at s) → (es : List Import)
      → take (length t.imports.items) es ≡ entries_in s p t.imports.items → (ts : List Quantity) → ts ≡ totals_in s t.exports.items
      → offset_answer (length t.imports.items) es p.emp ts ≡ worked_at s (prices_in (drop at s)) (sheet_of t)
  worked-read at p ep es ee ts et =
      let n = length t.imports.items in
      answer-front n es (entries_in s p t.imports.items)
      (λ i l. sym (get_or-take n es i no_import l) ∙ ap (λ (x : List Import). get_or x i no_import) ee) p.emp ts
      ∙ ap (λ (x : List Quantity). offset_answer n (entries_in s p t.imports.items) p.emp x) et
      ∙ ap (λ (q : HourPrices). worked_at s q (sheet_of t)) ep

pub ruleset ends = (end_none, end-unpriced, end-worked, worked-read)
