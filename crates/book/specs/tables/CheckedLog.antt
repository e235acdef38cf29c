-- What a log that was checked says.
use Rattle.std.specs.Prelude.{List, length}
use Rattle.book.specs.Layer.{Change}
use Rattle.book.specs.tables.Rows.{Logged}
use Rattle.book.specs.declared.log.checked_log.CheckedLog.{CheckedLog}

-- its bytes begin with these changes, and its rows are theirs
abbrev pub Says : CheckedLog → List Change → Type 0
Says h l = Logged h.bytes.now h.rows.now (length h.rows.now) l
