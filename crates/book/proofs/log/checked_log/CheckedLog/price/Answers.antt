use Rattle.std.proofs.Common.{refl, ap}
use Rattle.std.specs.Prelude.{Some}
use Rattle.std.proofs.Math.Path.{subst⁻¹}
use Rattle.book.specs.tables.Prices.{PriceIs}
use Rattle.book.specs.tables.Worked.{begun}
use Rattle.book.proofs.amounts.prices.Lemmas.{price-formed, price-there, price-missing}
use Rattle.book.proofs.log.checked_log.CheckedLog.price.Goals as goal

pub returns-in_err-standing : goal.returns-in_err-standing
returns-in_err-standing c =
    let k = price-formed c.key_of.ensures c.requires in
    λ l g. subst⁻¹ (PriceIs _) c.from_residual.ensures (price-missing c.key_of.ensures (c.in_err-standing.ensures l g k.low k.padded) (begun g) refl)

pub returns : goal.returns
returns c =
    let k = price-formed c.key_of.ensures c.requires in
    λ l g. subst⁻¹ (PriceIs _) (ap (λ x. Some x) c.prices_at.ensures)
    (price-there c.key_of.ensures (c.in_ok-standing.ensures l g k.low k.padded) (begun g) refl)
