use Rattle.std.proofs.Common.{refl, arith}
use Rattle.std.proofs.lemmas.Result.{err_from_is_err_and}
use Rattle.book.proofs.log.checked.Lemmas.{listed-closed, listed-refused, listed-few, listed-clear, listed-row, makes-listed}
use Rattle.book.proofs.book.Book.checked_enter.Goals as goal

pub returns-then-self : goal.returns-then-self
returns-then-self c = λ want r. listed-closed c.requires.checked r c.if-self.true

pub returns-in_err-check_change : goal.returns-in_err-check_change
returns-in_err-check_change c =
    let p = err_from_is_err_and c.from_residual.result c.from_residual.ensures.1 in
    λ want r. rw (p.1, p.2) (listed-refused c.requires.checked r c.if-self.false c.requires.since c.new-held.ensures.rows
    c.new-held.ensures.count c.new-held.ensures.says c.find_from-standing.ensures c.count-count.ensures
    c.limit_of-most.ensures c.in_err-check_change.ensures _ refl)

pub clear_row-requires : goal.clear_row-requires
clear_row-requires c =
    listed-clear c.requires.checked c.requires.viewed.change c.if-self.false c.requires.since c.new-held.ensures.rows
    c.new-held.ensures.count c.new-held.ensures.says c.find_from-standing.ensures c.count-count.ensures
    c.limit_of-most.ensures c.in_ok-check_change.ensures refl

pub of-row-requires : goal.of-row-requires
of-row-requires c =
    listed-row c.requires.checked c.requires.viewed.change c.if-self.false c.requires.since c.new-held.ensures.rows
    c.new-held.ensures.count c.new-held.ensures.says c.find_from-standing.ensures c.count-count.ensures
    c.limit_of-most.ensures c.in_ok-check_change.ensures refl c.hour_slot-hour.ensures.1

pub bounds-rows-n : goal.bounds-rows-n
bounds-rows-n c =
    (listed-few c.requires.checked c.requires.viewed.change c.if-self.false c.requires.since c.new-held.ensures.rows
    c.new-held.ensures.count c.new-held.ensures.says c.find_from-standing.ensures c.count-count.ensures
    c.limit_of-most.ensures c.in_ok-check_change.ensures refl).0

pub overflow_add-self : goal.overflow_add-self
overflow_add-self c =
    omega (
      arith,
      (listed-few c.requires.checked c.requires.viewed.change c.if-self.false c.requires.since c.new-held.ensures.rows
          c.new-held.ensures.count c.new-held.ensures.says c.find_from-standing.ensures c.count-count.ensures
          c.limit_of-most.ensures c.in_ok-check_change.ensures refl).2,
    )

pub overflow_cast-self : goal.overflow_cast-self
overflow_cast-self c =
    omega (
      arith,
      (listed-few c.requires.checked c.requires.viewed.change c.if-self.false c.requires.since c.new-held.ensures.rows
          c.new-held.ensures.count c.new-held.ensures.says c.find_from-standing.ensures c.count-count.ensures
          c.limit_of-most.ensures c.in_ok-check_change.ensures refl).2,
    )

pub returns : goal.returns
returns c =
    λ want r. makes-listed c.requires.checked r c.if-self.false c.requires.since c.new-held.ensures.rows
    c.new-held.ensures.count c.new-held.ensures.says c.find_from-standing.ensures c.count-count.ensures
    c.limit_of-most.ensures c.in_ok-check_change.ensures refl c.hour_slot-hour.ensures.0
    c.put_viewed.ensures.log_after c.clear_row.ensures c.of-row.ensures
