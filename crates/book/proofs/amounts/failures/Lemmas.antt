-- What each answer of failure charges rests on.
use Rattle.std.proofs.Common.{ℕ, suc, ◌+◌, ◌≤◌, ◌<◌, ◌≡◌, refl, sym, ap, ap₂, ◌∙◌, subst, List, [], ◌∷◌, ◌++◌, map, Bool, true, false, cond, Option, Some, None, is_some, Result, Ok, Err, arith, length, length-drop, drop, drop-cons, get_or}
use Rattle.std.proofs.lemmas.List.{length-map}
use Rattle.fixed_list.specs.FixedList.{FixedList as Items}
use Rattle.money.specs.Refusals.{mark_unknown}
use Rattle.money.specs.declared.refusals.Refusal.TheVariants.{NotTogether}
use Rattle.book.specs.Layer.{Key, Change, Mark, HourPrices, Ticks, Refusal, is_failure, charge_in, answer_of, Asked, got, bad, ask_hour_of, ask_failure, input_of, fine, fault, told, number_of}
use Rattle.book.specs.laws.LayerLaws.{Padded, Wellformed, hour-asked, failure-marked, mark-hour-formed}
use Rattle.book.specs.declared.book.Book.{Book}
use Rattle.book.specs.declared.answers.NamedAmount.{NamedAmount}
use Rattle.book.specs.declared.amounts.places.Spot.{Spot}
use Rattle.book.specs.declared.log.rows.Standing.{Standing}
use Rattle.book.specs.Register.{standing, refused}
use Rattle.book.specs.Amounts.{HourPricing, hour_key, price_of, charge_of, charged, no, charges_of}
use Rattle.book.specs.ByName.{by_name}
use Rattle.book.specs.Meaning.{Load, load, belongs, mismatched, charge_reply, charges_reply, charges_keyed, hour_charges}
use Rattle.book.specs.tables.Places.{max_places, spot_of}
use Rattle.book.specs.tables.Prices.{PriceIs, price_in}
use Rattle.book.specs.tables.Rows.{Logged, Log, Sought}
use Rattle.book.specs.tables.Worked.{begun, no_spot, Inside, amount_reply, charge_at_spot, charges_in, named_of}
use Rattle.book.specs.laws.StandLaws.{found_at}
use Rattle.book.specs.laws.WorkedLaws.{inside}
use Rattle.book.specs.laws.ChargeLaws.{charge-absent, charge-unpriced, charge-found, charges-absent, charges-unpriced, charges-found}
use Rattle.book.proofs.book.Rows.{by-load}
use Rattle.book.proofs.log.rows.Lemmas.{bound-by}
use Rattle.book.proofs.amounts.guarantees.Pairing.{pair_of, Naming, naming-start, naming-more, naming-room, naming-all}
use Rattle.book.specs.declared.log.row.Row.{Row}

-- ---- the loop over the places

pub record Charging (s : List ℕ) (m : Mark) (q : HourPrices) (xs : List Spot) (done : List NamedAmount) (i : ℕ) : Type 0 where
  pub naming : Naming (named_of xs (charges_in s m q xs)) (length xs) done (drop i xs) (charges_in s m q (drop i xs))

pub charging-start : {s : List ℕ} {m : Mark} {q : HourPrices} {xs : List Spot} {done : List NamedAmount} → done ≡ [] → Charging s m q xs done 0
charging-start e = record { naming = naming-start refl refl e }

module _ {s : List ℕ} {m : Mark} {q : HourPrices} {xs : List Spot} {done : List NamedAmount} {i : ℕ} (w : Charging s m q xs done i) where
  module _ (h : i < length xs) where
    pub charging-room : Inside s xs → length done < 16
    charging-room p = naming-room w.naming (drop-cons xs i no_spot h) p.few

    pub charging-more : {t : Ticks} → t ≡ charge_at_spot s m q (get_or xs i no_spot) → {next : List NamedAmount}
        → next ≡ done ++ pair_of (get_or xs i no_spot) t ∷ [] → Charging s m q xs next (i + 1)
    unfolding charges_in
    charging-more et en =
        let one : suc i ≡ i + 1 = omega arith in
        let ex : drop i xs ≡ get_or xs i no_spot ∷ drop (i + 1) xs = drop-cons xs i no_spot h ∙ ap (λ (k : ℕ). get_or xs i no_spot ∷ drop k xs) one in
        record {
          naming = naming-more w.naming ex
              (ap (charges_in s m q) ex ∙ ap (λ (u : Ticks). u ∷ charges_in s m q (drop (i + 1) xs)) (sym et)) en;
        }

  pub charging-end : length xs ≤ i → done ≡ named_of xs (charges_in s m q xs)
  charging-end h = naming-all w.naming (omega (arith, length-drop i xs, h))

-- ---- of a key: f is what was sought

charge-told : (r : Result Ticks Refusal) → charge_reply r ≡ amount_reply (answer_of r)
charge-told (Ok t) = refl
charge-told (Err e) = refl

abbrev pub Seeks : List ℕ → List Row → Key → Option Standing → Type 0
Seeks s rows k f = (l : List Change) → Logged s rows (length rows) l → k.hour < 32 → Padded k.name → Sought rows k f l

module _ {s : List ℕ} {rows : List Row} {k : Key} {f : Option Standing} (ef : Seeks s rows k f) (wk : Wellformed k) where
  sought : (l : List Change) → Logged s rows (length rows) l → Sought rows k f l
  sought l g = ef l g wk.low wk.padded

  pub key-inside : ∥ Log s rows (length rows) ∥₁ → {x : Standing} → f ≡ Some x → x.start ≤ length s
  key-inside o {x} e = bound-by o (λ l g.
      let w = sought l g in
      let v = (found_at (begun g) k (sym w.found ∙ ap is_some e)).at.inside in
      omega (arith, (w.stood x e).start, v))

  module _ (l : List Change) (g : Logged s rows (length rows) l) (q : ℕ → HourPricing) where
    pub key-absent : f ≡ None → refused 11 ≡ charge_of k (standing l) q
    key-absent e = charge-absent (begun g) k q (sym (sought l g).found ∙ ap is_some e)

    module _ {x : Standing} (e : f ≡ Some x) {p : Option HourPrices} (w : PriceIs (q k.hour) p) where
      pub key-unpriced : p ≡ None → refused 15 ≡ charge_of k (standing l) q
      key-unpriced z = charge-unpriced (begun g) k q (sym (sought l g).found ∙ ap is_some e) (sym w.is ∙ ap price_in z)

      pub key-charged : is_failure k.mark ≡ true → {ps : HourPrices} → p ≡ Some ps → (r : Result Ticks Refusal)
          → answer_of r ≡ charge_in k.mark (drop x.start s) ps → charge_reply r ≡ charge_of k (standing l) q
      key-charged b {ps} z r er =
          let y = sought l g in
          charge-told r ∙ ap amount_reply (er ∙ ap (λ (a : ℕ). charge_in k.mark (drop a s) ps) (y.stood x e).start)
          ∙ charge-found (begun g) k q b (sym y.found ∙ ap is_some e) ps (w.fits ps z) (sym w.is ∙ ap price_in z)

-- ---- what a pass over the rows gathered for a mark and hour

pub record Placed (s : List ℕ) (rows : List Row) (m : Mark) (h : ℕ) (xs : List Spot) : Type 0 where
  pub are : (l : List Change) → Logged s rows (length rows) l → xs ≡ map (spot_of l) (by_name (hour_key m h) (standing l))

pub placed : {s : List ℕ} {rows : List Row} {h : ℕ} {m : Mark} {k : Key} {xs : List Spot} → k ≡ hour_key m h
    → ((l : List Change) → Logged s rows (length rows) l → xs ≡ map (spot_of l) (by_name k (standing l))) → Placed s rows m h xs
placed e w = record { are = λ l g. w l g ∙ ap (λ (x : Key). map (spot_of l) (by_name x (standing l))) e }

module _ {s : List ℕ} {rows : List Row} {h : ℕ} {m : Mark} {xs : List Spot} (w : Placed s rows m h xs) where
  pub placed-size : {l : List Change} → Logged s rows (length rows) l → length (by_name (hour_key m h) (standing l)) ≡ length xs
  placed-size {l} g = sym (length-map (by_name (hour_key m h) (standing l)) (spot_of l)) ∙ ap length (sym (w.are l g))

  pub placed-inside : ∥ Log s rows (length rows) ∥₁ → length xs ≤ max_places → Inside s xs
  placed-inside o few = record { few = few; each = λ i h'. bound-by o (λ l g. (inside (begun g) (hour_key m h) xs (w.are l g) few).each i h') }

  -- ---- of a mark and hour: xs are the places of its failures

  module _ (l : List Change) (g : Logged s rows (length rows) l) (q : ℕ → HourPricing) where
    pub hour-absent : length xs ≡ 0 → {cs : List NamedAmount} → cs ≡ [] → charged cs ≡ charges_of (hour_key m h) (standing l) q
    hour-absent z e = ap charged e ∙ charges-absent (begun g) m h q (placed-size g ∙ z)

    module _ (some : length xs ≡ 0 → ⊥) {p : Option HourPrices} (y : PriceIs (q h) p) where
      pub hour-unpriced : p ≡ None → no 15 ≡ charges_of (hour_key m h) (standing l) q
      hour-unpriced e = charges-unpriced (begun g) m h q (λ z. some (sym (placed-size g) ∙ z)) (sym y.is ∙ ap price_in e)

      pub hour-charged : is_failure m ≡ true → {ps : HourPrices} → p ≡ Some ps → {cs : List NamedAmount} → cs ≡ named_of xs (charges_in s m ps xs)
          → charged cs ≡ charges_of (hour_key m h) (standing l) q
      hour-charged b {ps} e ec =
          let a = w.are l g in
          ap charged (ec ∙ ap₂ named_of a (ap (charges_in s m ps) a))
          ∙ charges-found (begun g) m h q b (λ z. some (sym (placed-size g) ∙ z)) ps (y.fits ps e) (sym y.is ∙ ap price_in e)

-- ---- the questions of a book whose bytes are checked

-- the key of a question that is not refused
pub hour-is : (m : Mark) (h : ℕ) {k : Key} → fine k ≡ input_of (ask_hour_of m h) → k ≡ hour_key m h
hour-is m h {k} e = go (ask_hour_of m h) refl e
  where
    go : (a : Asked) → ask_hour_of m h ≡ a → fine k ≡ input_of a → k ≡ hour_key m h
    go (got j t) q w = let p : k ≡ j = cc in p ∙ hour-asked m h j t q
    go (bad n) q w = cc

-- its mark, of a failure
pub failure-is : (mark : List ℕ) (h : ℕ) (name : List ℕ) {k : Key} → fine k ≡ input_of (ask_failure mark h name) → is_failure k.mark ≡ true
failure-is mark h name {k} e = go (ask_failure mark h name) refl e
  where
    go : (a : Asked) → ask_failure mark h name ≡ a → fine k ≡ input_of a → is_failure k.mark ≡ true
    go (got j t) q v = let p : k ≡ j = cc in ap (λ (y : Key). is_failure y.mark) p ∙ failure-marked mark h name j t q
    go (bad n) q v = cc

-- its hour
pub hour-low : (m : Mark) (h : ℕ) {k : Key} → fine k ≡ input_of (ask_hour_of m h) → h < 32
hour-low m h {k} e = subst (λ (j : Key). j.hour < 32) (hour-is m h e) (mark-hour-formed m h k e).low

keyed-hour : (m : Mark) (h : ℕ) {k : Key} → fine k ≡ input_of (ask_hour_of m h) → (l : List Change)
    → charges_of (hour_key m h) (standing l) (price_of (standing l)) ≡ charges_keyed l (ask_hour_of m h)
keyed-hour m h {k} e l = go (ask_hour_of m h) refl e
  where
    go : (a : Asked) → ask_hour_of m h ≡ a → fine k ≡ input_of a → charges_of (hour_key m h) (standing l) (price_of (standing l)) ≡ charges_keyed l a
    go (got j t) q w = ap (λ (y : Key). charges_of y (standing l) (price_of (standing l))) (sym (hour-asked m h j t q))
    go (bad n) q w = cc

-- the key of a mark and hour that a question for charges asks for
module _ (m : Mark) (h : ℕ) {r : Result Key Refusal} (er : told r ≡ cond (is_failure m) (input_of (ask_hour_of m h)) (fault mark_unknown)) where
  failed : {k : Key} → r ≡ Ok k → (is_failure m ≡ true) × (fine k ≡ input_of (ask_hour_of m h))
  failed {k} q = go (is_failure m) refl (ap told (sym q) ∙ er)
    where
      go : (x : Bool) → is_failure m ≡ x → fine k ≡ cond x (input_of (ask_hour_of m h)) (fault mark_unknown)
          → (is_failure m ≡ true) × (fine k ≡ input_of (ask_hour_of m h))
      go true p v = (p, v)
      go false p v = cc

  pub failure-low : {k : Key} → r ≡ Ok k → h < 32
  failure-low q = hour-low m h (failed q).1

  unfailed : (l : List Change) {e : Refusal} → r ≡ Err e → no (number_of e) ≡ hour_charges m h (belongs l)
  unfailed l {e} q = go (is_failure m) (ask_hour_of m h) (ap told (sym q) ∙ er)
    where
      go : (x : Bool) (a : Asked) → fault (number_of e) ≡ cond x (input_of a) (fault mark_unknown) → no (number_of e) ≡ cond x (charges_keyed l a) (no mark_unknown)
      go true (got k t) v = cc
      go true (bad n) v = let p : number_of e ≡ n = cc in ap no p
      go false a v = let p : number_of e ≡ mark_unknown = cc in ap no p

  pub charges-so : (b : Book) (s : List ℕ) {t : Result (Items NamedAmount) Refusal} → (load b s ≡ mismatched → t ≡ Err NotTogether)
      → ((l : List Change) (e : Refusal) → load b s ≡ belongs l → r ≡ Err e → t ≡ Err e)
      → ((l : List Change) (k : Key) → load b s ≡ belongs l → r ≡ Ok k → is_failure m ≡ true
      → charges_reply t ≡ charges_of (hour_key m h) (standing l) (price_of (standing l))) → charges_reply t ≡ hour_charges m h (load b s)
  charges-so b s {t} apart wrong right = by-load (λ (d : Load). charges_reply t ≡ hour_charges m h d) b s (λ e. ap charges_reply (apart e)) (λ l e. go l e r refl)
    where
      go : (l : List Change) → load b s ≡ belongs l → (x : Result Key Refusal) → r ≡ x → charges_reply t ≡ hour_charges m h (belongs l)
      go l e (Err n) q = ap charges_reply (wrong l n e q) ∙ unfailed l q
      go l e (Ok k) q =
          let f = failed q in
          right l k e q f.0 ∙ keyed-hour m h f.1 l ∙ sym (ap (λ (x : Bool). cond x (charges_keyed l (ask_hour_of m h)) (no mark_unknown)) f.0)
