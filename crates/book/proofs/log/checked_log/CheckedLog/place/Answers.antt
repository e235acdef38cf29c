use Rattle.std.proofs.Common.{ap, ◌∙◌}
use Rattle.book.specs.Meaning.{place_reply}
use Rattle.book.proofs.book.Rows.{lacked, place-none, place-is}
use Rattle.book.proofs.amounts.failures.Lemmas.{key-inside}
use Rattle.book.proofs.log.checked_log.CheckedLog.place.Goals as goal

pub returns-in_err-start : goal.returns-in_err-start
returns-in_err-start c = λ l g.
    ap place_reply (lacked _ c.in_err-start.ensures.value _ c.from_residual.ensures.1)
    ∙ place-none g (c.find.ensures l g c.requires.low c.requires.padded) c.in_err-start.ensures.ok_part

pub written_len-len-requires : goal.written_len-len-requires
written_len-len-requires c = key-inside c.find.ensures c.requires c.args.self.now.log c.in_ok-start.ensures.ok_part

pub returns : goal.returns
returns c = λ l g.
    place-is g (c.find.ensures l g c.requires.low c.requires.padded) c.in_ok-start.ensures.ok_part c.written_len-len.ensures
