use Rattle.std.specs.Prelude.{ℕ}
use Rattle.std.proofs.Common.{◌∙◌}
use Rattle.std.proofs.lemmas.List.{length-replicate}
use Rattle.book.specs.Register.{max_used}
use Rattle.stdio.specs.laws.PrintingLaws.{printed}
use Rattle.stdio.proofs.output.print.Goals as goal

pub returns : goal.returns
returns g c =
    printed c.read_input-input.ensures.0 (c.read_input-input.ensures.1 ∙ length-replicate {A = ℕ} max_used 0) c.print_input.ensures
