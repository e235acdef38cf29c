use Rattle.std.proofs.Common.{rules, ◌<◌}
use Rattle.std.proofs.lemmas.List.{get_or-take}
use Rattle.money.proofs.laws.UnitLaws.{zeros}
use Rattle.money.proofs.laws.OffsetLaws.{reached-none, reached-room, reached-more}
use Rattle.money.specs.Units.{intervals}
use Rattle.money.specs.Offset.{no_import}
use Rattle.money.proofs.offset.GoodImports.reach_series.Goals as goal

pub loop-a-init : goal.loop-a-init
loop-a-init c = reached-none _ _ _ _ (λ k l. zeros intervals k)

pub counted_in-next-requires : goal.counted_in-next-requires
counted_in-next-requires c =
    let l : c.loop-a.a-index < c.args.self.n = search rules in
    rw (get_or-take c.args.self.n c.args.self.entries.now c.loop-a.a-index no_import l) (reached-room c.loop-a.invariant l c.args.self.listed)

pub loop-a-preserved : goal.loop-a-preserved
loop-a-preserved c =
    let l : c.loop-a.a-index < c.args.self.n = search rules in
    reached-more c.loop-a.invariant l (rw (← get_or-take c.args.self.n c.args.self.entries.now c.loop-a.a-index no_import l) c.counted_in-next.ensures)
