use Rattle.std.proofs.Common.{length, insert, ap, ◌∙◌, arith, length-set, length-take-le}
use Rattle.fixed_list.proofs.Lists.{with_blanks_after_set, drop-moved_up, take-set_moved_up}
use Rattle.fixed_list.proofs.FixedList.insert.Goals as goal

pub invariant_of-self : goal.invariant_of-self
invariant_of-self g c =
    let s = c.self.inside in
    let is = c.self.invariant in
    let same = ap (λ v. length v.items) c.self.view_is in
    let long = length-take-le s.len s.cells (omega arith) in
    let moved = c.copy_within.ensures in
    let written = length-set c.copy_within.new.self c.args.index c.args.element in
    let behind = drop-moved_up s.cells s.len c.args.index (omega arith) (omega arith) c.copy_within.new.self moved.after in (
      omega arith,
      omega arith,
      with_blanks_after_set _ _ s.cells c.copy_within.new.self s.len c.args.index c.args.element is.1 (omega arith) is.2
          (omega arith) behind (omega arith),
    )

pub returns-then-len-clause-items : goal.returns-then-len-clause-items
returns-then-len-clause-items g c _ _ =
    let s = c.self.inside in
    let is = c.self.invariant in
    let same = ap (λ v. length v.items) c.self.view_is in
    let long = length-take-le s.len s.cells (omega arith) in
    take-set_moved_up s.cells s.len c.args.index (omega arith) (omega arith) c.copy_within.new.self c.args.element
    c.copy_within.ensures.after
    ∙ ap (λ v. insert v.items c.args.index c.args.element) c.self.view_is
