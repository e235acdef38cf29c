-- Demand 2: the amounts of the answers are the formulas, and what is written reads back.
use Rattle.std.specs.Prelude.{ℕ, ◌+◌, ◌≡◌, Bool, not, ℤ, length, take, drop}
use Rattle.std.proofs.Math.Path.{refl, ap}
use Rattle.std.proofs.Common.{sym, ◌∙◌, arith, List, [], ◌∷◌, ◌++◌, map}
use Rattle.std.proofs.Math.Bool.{true, false, cond}
use Rattle.std.proofs.Math.Seq.{take-append_seam}
use Rattle.laws.specs.Sums.{Σℤ, every}
use Rattle.money.specs.Units.{day_hours}
use Rattle.money.specs.Offset.{offset}
use Rattle.records.specs.Amounts.{charge_ticks}
use Rattle.records.proofs.laws.BookLaws.{parse-fine, spelled_back, decoded-valid}
use Rattle.records.specs.Changes.{Good}
use Rattle.book.specs.Layer.{Key, Rec, Change, write, Im, Ex, Asked, HourPrices, offset_entry, reversal}
use Rattle.book.specs.laws.LayerLaws.{scan-got}
use Rattle.book.specs.declared.book.Book.{Book}
use Rattle.book.specs.ByName.{by_name}
use Rattle.book.specs.Amounts.{Pick, is, HourPricing, priced, price_of, hour_key, credit_at, totals_of, unit_at, absent, payable, guarantees_at, guarantees_of, unit_day_of, day_total, charge_at, charge_of}
use Rattle.book.specs.Register.{Reg, standing, write_all, keyed, asking, ask, Question, hour_guarantees, day_of, failure_charge, answer, Reply, refused, guarantees, unit_day}
use Rattle.book.specs.Meaning.{Load, belongs, load, leaving, stepped, outcome, Meets}
use Rattle.book.specs.laws.LoadLaws.{loaded-from}
use Rattle.demands.specs.Checks.{first_fault, checks_over, key_first, day_checks, ◌gives◌}
use Rattle.demands.specs.Demands.{Amounts, Demand2}
use Rattle.demands.proofs.laws.FormulaLaws.{formulas}

module _ (b : Book) (s : List ℕ) (l : List Change) (e : load b s ≡ belongs l) where
  abbrev g : Reg
  g = record { list = l; closed = b.closed }

  told_is : (q : Question) (b' : Book) (r : Reply) (s' : List ℕ) → Meets (ask q) b s b' r s' → r ≡ answer q (length s) g
  unfolding outcome
  told_is q b' r s' m = m.answer ∙ ap (λ (x : Load). (leaving b s (stepped (asking q) b s x)).answer) e

  hour-is : (p : HourPrices) (im es : List Rec)
      → guarantees_at (priced p) im es ≡ guarantees (map (credit_at p) im) (offset (length im) (map (offset_entry p) im) p.emp (totals_of es))
  unfolding offset Σℤ
  hour-is p [] es = refl
  hour-is p (i ∷ im) es = refl

  abbrev total : Key → ℤ
  total k = day_total k (standing l) (price_of (standing l))

  day-is : (k : Key) → first_fault (day_checks (standing l) k) ≡ 0 → unit_day_of k (standing l) (price_of (standing l)) ≡ unit_day (total k) (reversal (total k))
  unfolding unit_day_of
  day-is k = go (every day_hours (λ (j : ℕ). absent (unit_at k (standing l) j)))
      (every day_hours (λ (j : ℕ). payable (unit_at k (standing l) j) (price_of (standing l) (1 + j))))
    where
      go : (x y : Bool) → first_fault ((x gives 11) ∷ (not y gives 15) ∷ []) ≡ 0
          → cond x (refused 11) (cond y (unit_day (total k) (reversal (total k))) (refused 15)) ≡ unit_day (total k) (reversal (total k))
      go true y z = absurd (omega arith)
      go false true z = refl
      go false false z = absurd (omega arith)

  pub amounts : Amounts b s l
  unfolding guarantees_of charge_of charge_ticks day_total
  amounts = record {
    hour = λ h k t f p q b' r s' m.
        told_is (hour_guarantees h) b' r s' m
        ∙ ap (λ (x : Asked). keyed x (λ (j : Key). guarantees_of (standing l) (price_of (standing l)) j.hour)) f
        ∙ ap (λ (x : HourPricing). guarantees_at x (by_name (hour_key Im k.hour) (standing l)) (by_name (hour_key Ex k.hour) (standing l))) q
        ∙ hour-is p (by_name (hour_key Im k.hour) (standing l)) (by_name (hour_key Ex k.hour) (standing l));
    no-imports = λ h k t f z b' r s' m.
        told_is (hour_guarantees h) b' r s' m
        ∙ ap (λ (x : Asked). keyed x (λ (j : Key). guarantees_of (standing l) (price_of (standing l)) j.hour)) f
        ∙ ap (λ (x : List Rec). guarantees_at (price_of (standing l) k.hour) x (by_name (hour_key Ex k.hour) (standing l))) z;
    day = λ n k t f z b' r s' m.
        told_is (day_of n) b' r s' m
        ∙ ap (λ (x : Asked). keyed x (λ (j : Key). unit_day_of j (standing l) (price_of (standing l)))) f
        ∙ day-is k (sym (ap (λ (x : Load). first_fault (checks_over (ask (day_of n)) (length s) b.closed x)) e ∙ ap
        (λ (x : Asked). first_fault (key_first x (day_checks (standing l)))) f) ∙ z);
    failure = λ m h n k t f x u p q b' r s' w.
        told_is (failure_charge m h n) b' r s' w
        ∙ ap (λ (y : Asked). keyed y (λ (j : Key). charge_of j (standing l) (price_of (standing l)))) f
        ∙ ap (λ (y : Pick). charge_at y (price_of (standing l) k.hour)) u
        ∙ ap (λ (y : HourPricing). charge_at (is x) y) q;
  }

-- the theorem
pub demand2 : Demand2
unfolding Good
demand2 = record {
  formulas = formulas;
  amounts = amounts;
  back = λ want s c e rest. (parse-fine want s c e).good rest;
  spelled = λ s v t e. spelled_back v (decoded-valid s v t e);
  only = λ s c n e. let f = scan-got s c n e in ap (take n) f.bytes ∙ ap (λ (k : ℕ). take k (write c ++ drop n s)) f.len ∙ take-append_seam (write c)
      (drop n s);
  used = λ b s l e. let x = loaded-from b s l e in let p : x.list ≡ l = cc (x.is, e) in sym x.bytes ∙ ap write_all p;
}
