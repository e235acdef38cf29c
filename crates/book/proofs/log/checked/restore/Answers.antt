use Rattle.std.proofs.Common.{sym, ◌∙◌, rules}
use Rattle.book.proofs.log.checked.Restoring.{restored, told, back-rows, undoing, newest-read, newest-able}
use Rattle.book.proofs.log.checked.restore.Goals as goal

pub returns-then-is_filing : goal.returns-then-is_filing
returns-then-is_filing c =
    ((λ d l g. back-rows (c.new-held.ensures.says _ g) c.kind.ensures (sym c.is_filing.ensures ∙ c.if-is_filing.true) g), (search rules))

-- the row is of a change that is written there
pub returns-in_default : goal.returns-in_default
returns-in_default c =
    absurd (newest-read c.requires.log_rows c.requires.some_row c.new-held.ensures.says c.start-start.ensures.0 c.in_default.ensures)

-- and a change that is written has a name
pub returns-in_default-name_head : goal.returns-in_default-name_head
returns-in_default-name_head c =
    absurd (newest-able c.requires.log_rows c.requires.some_row c.new-held.ensures.says c.start-start.ensures.0 c.in-Ok.ensures
    c.in_default-name_head.ensures)

-- one of the changes before it wrote the record that stood
pub returns-in_default-written_before : goal.returns-in_default-written_before
returns-in_default-written_before c =
    let e = c.as_slice.ensures.value ∙ c.in-Some.ensures.1 in (
      (λ d l g. absurd (told (undoing (c.new-held.ensures.says _ g) c.kind.ensures (sym c.is_filing.ensures ∙ c.if-is_filing.false)
          c.start-start.ensures.0 c.in-Ok.ensures c.hour_slot.ensures.0 e c.new-held.ensures.count) c.written_before.ensures.wrote c.in_default-written_before.is)),
      (search rules),
    )

pub returns : goal.returns
returns c =
    let e = c.as_slice.ensures.value ∙ c.in-Some.ensures.1 in
    restored (search rules) c.in-Some-written_before.at c.restored.ensures (λ d l g.
    told (undoing (c.new-held.ensures.says _ g) c.kind.ensures (sym c.is_filing.ensures ∙ c.if-is_filing.false) c.start-start.ensures.0 c.in-Ok.ensures
    c.hour_slot.ensures.0 e c.new-held.ensures.count) c.written_before.ensures.wrote c.in-Some-written_before.is)
