use Rattle.std.proofs.Common.{◌≡◌, ◌∙◌, ap, sym, arith, ℕ, length, replicate, length-take, length-drop}
use Rattle.statement.specs.Pages.{blanks}
use Rattle.statement.proofs.laws.PageLineLaws.{blanks-length}
use Rattle.statement.proofs.bytes.Lemmas.{written}
use Rattle.statement.proofs.columns.put_blanks.Goals as goal

pub returns : goal.returns
unfolding blanks
returns c =
    let size : length c.fill.new.self ≡ c.args.n = omega (arith, c.fill.ensures.len, length-take {A = ℕ}, length-drop {A = ℕ}) in
    let filled = c.fill.ensures.after (λ (y : ℕ) e. e) in
    written c.requires (sym (blanks-length c.args.n)) (filled ∙ ap (λ (k : ℕ). replicate k 32) (sym c.fill.ensures.len ∙ size))
