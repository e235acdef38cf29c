use Rattle.std.proofs.Common.{length, refl, ap, arith, length-set, length-take-le}
use Rattle.fixed_list.proofs.Lists.{with_blanks_after_set}
use Rattle.fixed_list.proofs.FixedList.push.Goals as goal

pub invariant_of-self : goal.invariant_of-self
invariant_of-self g c =
    let s = c.self.inside in
    let is = c.self.invariant in
    let same = ap (λ v. length v.items) c.self.view_is in
    let long = length-take-le s.len s.cells (omega arith) in
    let written = length-set s.cells s.len c.args.element in (
      omega arith,
      omega arith,
      with_blanks_after_set _ _ s.cells s.cells s.len s.len c.args.element is.1 (omega arith) is.2 is.1 refl (omega arith),
    )
