use Rattle.std.proofs.Common.{arith, rules}
use Rattle.statement.specs.Lines.{max_figure}
use Rattle.statement.proofs.laws.LineLaws.{number_err, number-other, figure-number, figure-dollars, sign-length, number_digits, dollar-digits}
use Rattle.statement.proofs.bytes.Lemmas.{writes_then, room-behind}
use Rattle.statement.proofs.lines.put_figure.Goals as goal

pub put_decimal-requires : goal.put_decimal-requires
put_decimal-requires c =
    let a = room-behind max_figure 20 c.put_sign-first.ensures c.requires (omega (arith, sign-length c.args.cents.0)) in
    omega (arith, a, number_digits c.magnitude-n.result c.magnitude-n.ensures.bounded)

pub returns-then-eq : goal.returns-then-eq
returns-then-eq c = (
  rw (figure-number _ _ (number_err c.args.kind (search rules)), ← c.magnitude-n.ensures.value)
      (writes_then c.put_sign-first.ensures c.put_decimal.ensures),
  omega (arith, c.magnitude-n.ensures.value, c.magnitude-n.ensures.bounded),
)

pub put_decimal-point-requires : goal.put_decimal-point-requires
put_decimal-point-requires c =
    let a = room-behind max_figure 20 c.put_sign-first.ensures c.requires (omega (arith, sign-length c.args.cents.0)) in
    omega (arith, a, dollar-digits c.magnitude-n.result c.magnitude-n.ensures.bounded)

pub put_byte-decimals-requires : goal.put_byte-decimals-requires
put_byte-decimals-requires c =
    let a = room-behind max_figure 20 c.put_sign-first.ensures c.requires (omega (arith, sign-length c.args.cents.0)) in
    let n = dollar-digits c.magnitude-n.result c.magnitude-n.ensures.bounded in
    let b = room-behind 20 3 c.put_decimal-point.ensures a (omega (arith, n)) in
    omega (arith, b)

pub put_two-requires : goal.put_two-requires
put_two-requires c =
    let a = room-behind max_figure 20 c.put_sign-first.ensures c.requires (omega (arith, sign-length c.args.cents.0)) in
    let n = dollar-digits c.magnitude-n.result c.magnitude-n.ensures.bounded in
    let b = room-behind 20 3 c.put_decimal-point.ensures a (omega (arith, n)) in
    room-behind 3 2 c.put_byte-decimals.ensures b (omega arith)

pub returns : goal.returns
returns c = (
  rw (figure-dollars _ _ (number-other c.args.kind (search rules)), ← c.magnitude-n.ensures.value)
      (writes_then (writes_then (writes_then c.put_sign-first.ensures c.put_decimal-point.ensures) c.put_byte-decimals.ensures) c.put_two.ensures),
  omega (arith, c.magnitude-n.ensures.value, c.magnitude-n.ensures.bounded),
)
