-- The price of an hour is that of the `PR` which is written where the survey of its key says.
use Rattle.std.specs.Prelude.{ℕ, ◌≡◌, refl, List, true, false, drop, Option, Some, None}
use Rattle.std.proofs.Common.{sym, ap, ◌∙◌, subst}
use Rattle.std.proofs.Math.Path.{subst⁻¹}
use Rattle.book.specs.Layer.{HourPrices, Rec, Change, Pr, prices_of, prices_in}
use Rattle.book.specs.laws.LayerLaws.{PricesFit, prices-there, standing-prices}
use Rattle.book.specs.Register.{standing}
use Rattle.book.specs.Amounts.{HourPricing, priced, unpriced, hour_key, price_from, price_of}
use Rattle.book.specs.tables.Tables.{survey}
use Rattle.book.specs.tables.Prices.{PriceIs, price_in, price_at}
use Rattle.book.specs.tables.Worked.{Begun}
use Rattle.book.specs.laws.StandLaws.{At, found_at, found-mark, none-at}

-- of a `PR` that is written at a place
pub price-written : {s : List ℕ} {x : ℕ} {r : Rec} → At s x r → r.key.mark ≡ Pr → PriceIs (priced (prices_of r)) (price_at s x)
price-written {s} {x} {r} w mk =
    let v : prices_in (drop x s) ≡ prices_of r = ap prices_in w.bytes ∙ prices-there r w.good w.rest mk in
    record {
      is = ap priced v;
      fits = λ p e. let z : p ≡ prices_of r = sym (let y : prices_in (drop x s) ≡ p = cc in y) ∙ v in subst PricesFit (sym z) (standing-prices r w.good mk);
    }

-- an entry that is not known is no price
pub price-unknown : {p : Option HourPrices} → p ≡ None → PriceIs unpriced p
price-unknown {p} h = record { is = ap price_in h; fits = λ x e. cc }

-- what an entry says of the price that it holds
pub known-priced : {q : HourPricing} {p : Option HourPrices} {x : HourPrices} → PriceIs q p → p ≡ Some x → q ≡ priced x
known-priced w t = sym w.is ∙ ap price_in t

pub unknown-unpriced : {q : HourPricing} {p : Option HourPrices} → PriceIs q p → p ≡ None → q ≡ unpriced
unknown-unpriced w t = sym w.is ∙ ap price_in t

module _ {s : List ℕ} {l : List Change} (o : Begun s l) (h : ℕ) where
  pub price-found : (survey (hour_key Pr h) l).found ≡ true → PriceIs (price_of (standing l) h) (price_at s (survey (hour_key Pr h) l).start)
  unfolding price_of
  price-found t =
      let f = found_at o (hour_key Pr h) t in
      subst⁻¹ (λ (q : HourPricing). PriceIs q (price_at s (survey (hour_key Pr h) l).start)) (ap price_from f.picked) (price-written f.at (found-mark f refl))

  pub price-gone : (survey (hour_key Pr h) l).found ≡ false → {p : Option HourPrices} → p ≡ None → PriceIs (price_of (standing l) h) p
  unfolding price_of
  price-gone t {p} k = subst⁻¹ (λ (q : HourPricing). PriceIs q p) (ap price_from (none-at o (hour_key Pr h) t)) (price-unknown k)
