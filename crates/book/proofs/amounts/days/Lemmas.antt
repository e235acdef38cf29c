-- A unit's day: its loops, the places that they read, and its answer.
use Rattle.std.specs.List.{zip, list_all}
use Rattle.std.proofs.Common.{ℕ, ◌+◌, ◌≤◌, ◌<◌, ◌≡◌, refl, sym, ap, ap₂, ◌∙◌, List, Option, None, is_some, is_none, Result, Ok, Err, Bool, true, false, cond, arith, length, get_or, drop, set, eqb, eqb-true, subst, ◌∷◌, length-drop, length-set, get_or-set_same, get_or-set_other}
use Rattle.std.proofs.Math.Logic.{◌⊎◌, ⊎_elim}
use Rattle.std.proofs.lemmas.Bool.{eqb-false}
use Rattle.std.proofs.lemmas.List.{drop_more}
use Rattle.std.proofs.lemmas.List.{get_or_default}
use Rattle.std.proofs.lemmas.List.Sums.{AllPass-from_list_all, list_all-from_AllPass}
use Rattle.std.proofs.lemmas.Slice.Zip.{get_or-zip, length-zip}
use Rattle.laws.specs.Sums.{every}
use Rattle.records.specs.tables.Defaults.{default-part}
use Rattle.laws.specs.SumLaws.{every-ext, every-yes, every-at}
use Rattle.money.specs.declared.production.DayTotals.{DayTotals}
use Rattle.book.specs.Layer.{Key, Change, Gh, UnitPart, no_ticks, no_start, HourPrices, Ticks, CentsPerStart, Refusal, at_hour, day_answer, day_answer_of, reversal, Asked, got, bad, ask_unit, input_of, fine}
use Rattle.book.specs.laws.LayerLaws.{unit-marked}
use Rattle.book.specs.Register.{standing, Reply, refused, unit_day}
use Rattle.book.specs.Amounts.{HourPricing, absent, payable, unit_at, day_total, unit_day_of}
use Rattle.book.specs.Meaning.{day_reply}
use Rattle.book.specs.tables.Hours.{DayIs}
use Rattle.book.specs.tables.Prices.{TableOf}
use Rattle.book.specs.tables.Worked.{Begun, place_in, price_for, part_of, InDay, paid, Parts, total_reply}
use Rattle.book.specs.laws.RegisterLaws.{by-test}
use Rattle.book.specs.laws.StandLaws.{found_at}
use Rattle.book.specs.laws.DayLaws.{places-in, payable-is, day-is}

-- ---- a test of all of a list, as one of each number

every-all : {X : Type 0} (n : ℕ) (f : ℕ → Bool) (p : X → Bool) (xs : List X) (d : X) → length xs ≡ n → ((j : ℕ) (x : X) → j < n → p (get_or xs j x) ≡ f j)
    → list_all p xs ≡ every n f
every-all n f p xs d size is =
    by-test (list_all p xs)
    (λ t. t ∙ sym (every-yes n f (λ j h. sym (is j d h) ∙ AllPass-from_list_all p xs t j d (omega arith))))
    (λ t. by-test (every n f)
    (λ u. list_all-from_AllPass p xs (λ j x h. is j x (omega arith) ∙ every-at n f u j (omega arith)) ∙ sym u)
    (λ u. t ∙ sym u))

pub none-known : (d : List (Option ℕ)) → length d ≡ 24 → list_all (λ (u : Option ℕ). is_none u) d ≡ every 24 (λ (j : ℕ). is_none (place_in d j))
none-known d size =
    every-all 24 _ (λ (u : Option ℕ). is_none u) d None size (λ j u h. ap (λ (v : Option ℕ). is_none v) (get_or_default d j u None (omega arith)))

pub all-paid : (u : List (Option ℕ)) (t : List (Option HourPrices)) → length u ≡ 24 → length t ≡ 24
    → list_all (λ (x : Option ℕ × Option HourPrices). paid x.0 x.1) (zip u t) ≡ every 24 (λ (j : ℕ). paid (place_in u j) (price_for t j))
all-paid u t eu et =
    every-all 24 _ (λ (x : Option ℕ × Option HourPrices). paid x.0 x.1) (zip u t) (None, None) (omega (arith, length-zip u t))
    (λ j x h. ap (λ (y : Option ℕ × Option HourPrices). paid y.0 y.1) (get_or-zip u t j x (omega arith) (omega arith))
    ∙ ap₂ paid (get_or_default u j x.0 None (omega arith)) (get_or_default t j x.1 None (omega arith)))

-- ---- the default part is none

pub ruleset no_parts = (default-part)

-- ---- the loop over the hours

pub record Filled (s : List ℕ) (u : List (Option ℕ)) (t : List (Option HourPrices)) (ts : List Ticks) (ss : List CentsPerStart) (j : ℕ) : Type 0 where
  pub upto : j ≤ 24
  pub all-ticks : length ts ≡ 24
  pub all-starts : length ss ≡ 24
  pub parts : Parts s u t ts ss j

-- the hours and prices that are left
pub record Walked (s : List ℕ) (u : List (Option ℕ)) (t : List (Option HourPrices)) (ts : List Ticks) (ss : List CentsPerStart) (j : ℕ)
    (us : List (Option ℕ)) (ps : List (Option HourPrices)) : Type 0 where
  pub filled : Filled s u t ts ss j
  pub units-left : us ≡ drop j u
  pub prices-left : ps ≡ drop j t

-- the first of what is left is the next of all
next-of : {X : Type 0} (xs : List X) (n j : ℕ) (d : X) → length xs ≡ n → (left : List X) → left ≡ drop j xs → (x : X) (rest : List X) → left ≡ x ∷ rest
    → (j < n) × (x ≡ get_or xs j d) × (rest ≡ drop (j + 1) xs)
next-of xs n j d size left e x rest f =
    let more : j < length xs = omega (arith, length-drop j xs, ap length (sym e ∙ f)) in
    let p : x ∷ rest ≡ get_or xs j d ∷ drop (j + 1) xs = sym f ∙ e ∙ drop_more xs j d more in
    (omega arith, cc, cc)

pub walked-start : {s : List ℕ} {u : List (Option ℕ)} {t : List (Option HourPrices)} {ts : List Ticks} {ss : List CentsPerStart} {j : ℕ}
    {us : List (Option ℕ)} {ps : List (Option HourPrices)} → length ts ≡ 24 → length ss ≡ 24 → j ≡ 0 → us ≡ u → ps ≡ t → Walked s u t ts ss j us ps
walked-start {s} {u} {t} {ts} {ss} {j} {us} {ps} lt ls z eu et =
    subst (λ (i : ℕ). Walked s u t ts ss i us ps) (sym z) (record {
      filled = record {
        upto = omega arith;
        all-ticks = lt;
        all-starts = ls;
        parts = record { ticks = λ i h. absurd (omega (arith, h)); starts = λ i h. absurd (omega (arith, h)) };
      };
      units-left = eu;
      prices-left = et;
    })

module _ {s : List ℕ} {u : List (Option ℕ)} {t : List (Option HourPrices)} {ts : List Ticks} {ss : List CentsPerStart} {j : ℕ} {us : List (Option ℕ)}
    {ps : List (Option HourPrices)} (w : Walked s u t ts ss j us ps) (eu : length u ≡ 24) (et : length t ≡ 24) where
  module _ {x : Option ℕ} {vs : List (Option ℕ)} (ex : us ≡ x ∷ vs) where
    pub walked-unit : (j < 24) × (x ≡ place_in u j)
    walked-unit = let n = next-of u 24 j None eu us w.units-left x vs ex in (n.0, n.1)

    module _ {y : Option HourPrices} {qs : List (Option HourPrices)} (ey : ps ≡ y ∷ qs) (p : UnitPart) (ep : p ≡ part_of s x y) where
      here : p ≡ part_of s (place_in u j) (price_for t j)
      here = ep ∙ ap₂ (part_of s) (next-of u 24 j None eu us w.units-left x vs ex).1 (next-of t 24 j None et ps w.prices-left y qs ey).1

      upto-here : {X : Type 0} (xs : List X) (d : X) (f : ℕ → X) (v : X) → length xs ≡ 24 → v ≡ f j → ((i : ℕ) → i < j → get_or xs i d ≡ f i)
          → (i : ℕ) → i < j + 1 → get_or (set xs j v) i d ≡ f i
      upto-here xs d f v size is old i lt =
          by-test (eqb i j)
          (λ q. let e = eqb-true i j q in
          ap (λ (k : ℕ). get_or (set xs j v) k d) e ∙ get_or-set_same xs j v d (omega (arith, walked-unit.0)) ∙ is ∙ ap f (sym e))
          (λ q. get_or-set_other xs j i v d (eqb-false i j q) ∙ old i (omega (arith, eqb-false i j q)))

      more : Walked s u t (set ts j p.ticks) (set ss j p.start) (j + 1) vs qs
      more = record {
        filled = record {
          upto = omega (arith, walked-unit.0);
          all-ticks = length-set ts j p.ticks ∙ w.filled.all-ticks;
          all-starts = length-set ss j p.start ∙ w.filled.all-starts;
          parts = record {
            ticks = upto-here ts no_ticks (λ (i : ℕ). (part_of s (place_in u i) (price_for t i)).ticks) p.ticks w.filled.all-ticks
                (ap (λ (q : UnitPart). q.ticks) here) w.filled.parts.ticks;
            starts = upto-here ss no_start (λ (i : ℕ). (part_of s (place_in u i) (price_for t i)).start) p.start w.filled.all-starts
                (ap (λ (q : UnitPart). q.start) here) w.filled.parts.starts;
          };
        };
        units-left = (next-of u 24 j None eu us w.units-left x vs ex).2;
        prices-left = (next-of t 24 j None et ps w.prices-left y qs ey).2;
      }

      pub walked-more : (h n : ℕ) → h ≡ j → n ≡ j + 1 → Walked s u t (set ts h p.ticks) (set ss h p.start) n vs qs
      walked-more h n eh en =
          subst (λ (m : ℕ). Walked s u t (set ts h p.ticks) (set ss h p.start) m vs qs) (sym en)
          (subst (λ (i : ℕ). Walked s u t (set ts i p.ticks) (set ss i p.start) (j + 1) vs qs) (sym eh) more)

  -- none is left
  pub walked-all : (length us ≡ 0) ⊎ (length ps ≡ 0) → Parts s u t ts ss 24
  walked-all e =
      let done : j ≡ 24 =
      ⊎_elim (λ z. omega (arith, w.filled.upto, length-drop j u, ap length w.units-left, z))
      (λ z. omega (arith, w.filled.upto, length-drop j t, ap length w.prices-left, z)) e in
      subst (Parts s u t ts ss) done w.filled.parts

-- ---- the answer

day-told : (r : Result DayTotals Refusal) → day_reply r ≡ total_reply (day_answer_of r)
day-told (Ok d) = refl
day-told (Err e) = refl

module _ {s : List ℕ} {l : List Change} (o : Begun s l) (k : Key) (u : List (Option ℕ)) (du : DayIs k l u) where
  pub in-day : InDay s u
  in-day j lt e x h =
      let w = du.each j lt e in
      omega (arith, w.start x h, (found_at o (at_hour k (1 + j)) (sym w.known ∙ ap is_some h)).at.inside)

  absent-hours : every 24 (λ (j : ℕ). is_none (place_in u j)) ≡ every 24 (λ (j : ℕ). absent (unit_at k (standing l) j))
  absent-hours = every-ext 24 (λ (j : ℕ). is_none (place_in u j)) (λ (j : ℕ). absent (unit_at k (standing l) j)) (λ j lt. (places-in o k u du j lt).none)

  module _ (price : ℕ → HourPricing) where
    abbrev priced-day : Bool → Reply
    priced-day b = cond b (unit_day (day_total k (standing l) price) (reversal (day_total k (standing l) price))) (refused 15)

    abbrev whole-day : Reply
    whole-day = priced-day (every 24 (λ (j : ℕ). payable (unit_at k (standing l) j) (price (1 + j))))

    -- 11
    pub day-nowhere : every 24 (λ (j : ℕ). is_none (place_in u j)) ≡ true → refused 11 ≡ unit_day_of k (standing l) price
    unfolding unit_day_of
    day-nowhere h = sym (ap (λ (b : Bool). cond b (refused 11) whole-day) (sym absent-hours ∙ h))

    day-somewhere : every 24 (λ (j : ℕ). is_none (place_in u j)) ≡ false → unit_day_of k (standing l) price ≡ whole-day
    unfolding unit_day_of
    day-somewhere h = ap (λ (b : Bool). cond b (refused 11) whole-day) (sym absent-hours ∙ h)

    module _ (some : every 24 (λ (j : ℕ). is_none (place_in u j)) ≡ false) (marked : k.mark ≡ Gh) (t : List (Option HourPrices)) (dt : TableOf price t) where
      -- 15
      pub day-unpriced : every 24 (λ (j : ℕ). paid (place_in u j) (price_for t j)) ≡ false → refused 15 ≡ unit_day_of k (standing l) price
      day-unpriced h = sym (day-somewhere some ∙ ap priced-day (sym (payable-is o k marked u du price t dt) ∙ h))

      pub day-worked : every 24 (λ (j : ℕ). paid (place_in u j) (price_for t j)) ≡ true → (ts : List Ticks) (ss : List CentsPerStart) → Parts s u t ts ss 24
          → (r : Result DayTotals Refusal) → day_answer_of r ≡ day_answer ts ss → day_reply r ≡ unit_day_of k (standing l) price
      day-worked h ts ss ps r e =
          let y = sym (payable-is o k marked u du price t dt) ∙ h in
          day-told r ∙ ap total_reply e ∙ day-is o k marked u du price t dt ts ss ps y ∙ sym (day-somewhere some ∙ ap priced-day y)

-- ---- the mark of the key that is asked for

pub unit-is : (name : List ℕ) {k : Key} → fine k ≡ input_of (ask_unit name) → k.mark ≡ Gh
unit-is name {k} e = go (ask_unit name) refl e
  where
    go : (a : Asked) → ask_unit name ≡ a → fine k ≡ input_of a → k.mark ≡ Gh
    go (got j t) q v = let p : k ≡ j = cc in ap (λ (y : Key). y.mark) p ∙ unit-marked name j t q
    go (bad m) q v = cc
