use Rattle.std.proofs.Common.{sym, arith, length-take-le}
use Rattle.stdio.proofs.output.put_out.Goals as goal

pub slice_bounds-write_all-end : goal.slice_bounds-write_all-end
slice_bounds-write_all-end c = sym (length-take-le _ c.args.out.now (omega (arith, c.printed_len.ensures, c.requires)))
