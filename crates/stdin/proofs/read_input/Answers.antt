use Rattle.std.proofs.Common.{sym, refl, ◌∙◌, rules}
use Rattle.stdin.proofs.Rounds.{reached-none, reached-more}
use Rattle.stdin.proofs.read_input.Goals as goal

pub loop-init : goal.loop-init
loop-init g c = (reached-none c.unread-input.ensures _ _ (sym c.large_buffer-bytes.ensures), sym c.large_buffer-bytes.ensures, refl)

pub loop-preserved : goal.loop-preserved
loop-preserved g c = (
  reached-more c.loop.invariant.0 (search rules) (c.read_behind-got.ensures.kept.0 ∙ c.loop.invariant.1)
      c.read_behind-got.ensures.kept.1 c.read_behind-got.ensures.within c.take_in-input.ensures,
  search rules,
  search rules,
)
