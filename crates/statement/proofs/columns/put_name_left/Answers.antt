use Rattle.std.proofs.Common.{◌≡◌, ◌+◌, ◌-◌, length, arith}
use Rattle.records.specs.Names.{max_spelling}
use Rattle.statement.specs.Lines.{name_bytes}
use Rattle.statement.specs.Pages.{left_in}
use Rattle.statement.proofs.laws.LineLaws.{name-length}
use Rattle.statement.proofs.laws.PageLineLaws.{blanks-length}
use Rattle.statement.proofs.bytes.Lemmas.{writes_then}
use Rattle.statement.proofs.columns.put_name_left.Goals as goal

pub overflow_sub-at : goal.overflow_sub-at
overflow_sub-at c =
    omega (arith, c.put_name-end.ensures.behind, name-length c.args.name)

pub returns : goal.returns
unfolding left_in
returns c =
    let n = length (name_bytes c.args.name) in
    let e : c.args.at + max_spelling - c.put_name-end.result ≡ max_spelling - n = omega (arith, c.put_name-end.ensures.behind) in
    let w = writes_then c.put_name-end.ensures c.put_blanks.ensures in
    let b = blanks-length (c.args.at + max_spelling - c.put_name-end.result) in
    (rw e at w, omega (arith, c.put_name-end.ensures.behind, c.put_blanks.ensures.behind, name-length c.args.name, b))
