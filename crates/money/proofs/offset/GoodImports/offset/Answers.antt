use Rattle.std.proofs.Common.{rules, arith, ◌<◌}
use Rattle.std.proofs.lemmas.List.{get_or-take}
use Rattle.laws.specs.SumLaws.{summed-none, summed-more}
use Rattle.money.proofs.laws.OffsetLaws.{adj-ready, offsets-room, gives-is, gives-room, offsets-all}
use Rattle.money.proofs.laws.GuaranteeLaws.{credit-room}
use Rattle.money.specs.Units.{quantity_at}
use Rattle.money.specs.Offset.{no_import}
use Rattle.money.proofs.offset.GoodImports.offset.Goals as goal

pub loop-e-init : goal.loop-e-init
loop-e-init c = summed-none _ _

pub invariant_of-good : goal.invariant_of-good
invariant_of-good c =
    let l : c.loop-e.e-index < c.args.self.n = search rules in
    rw (get_or-take c.args.self.n c.args.self.entries.now c.loop-e.e-index no_import l) (record { good = (c.args.self.listed.each _ l).good })

pub minus-requires : goal.minus-requires
minus-requires c =
    let l : c.loop-e.e-index < c.args.self.n = search rules in
    let at = get_or-take c.args.self.n c.args.self.entries.now c.loop-e.e-index no_import l in
    let r = adj-ready c.args.self.hour.prices c.args.totals c.args.self.listed c.args.self.hour.rates {q = quantity_at c.adj_series-series.result}
    l at c.adj_series-series.ensures in
    record { self_moderate = rw at (omega (arith, (c.args.self.listed.each c.loop-e.e-index l).small)); other_moderate = credit-room r c.credit_of.ensures }

pub plus-sum-requires : goal.plus-sum-requires
plus-sum-requires c =
    let l : c.loop-e.e-index < c.args.self.n = search rules in
    let at = get_or-take c.args.self.n c.args.self.entries.now c.loop-e.e-index no_import l in
    record {
      self_moderate = offsets-room c.args.self.hour.prices c.args.totals c.args.self.listed c.args.self.hour.rates c.loop-e.invariant;
      other_moderate = gives-room c.args.self.hour.prices c.args.totals c.args.self.listed c.args.self.hour.rates c.loop-e.invariant
          l at c.adj_series-series.ensures c.credit_of.ensures c.minus.ensures.value;
    }

pub loop-e-preserved : goal.loop-e-preserved
loop-e-preserved c =
    let l : c.loop-e.e-index < c.args.self.n = search rules in
    let at = get_or-take c.args.self.n c.args.self.entries.now c.loop-e.e-index no_import l in
    summed-more c.loop-e.invariant l c.plus-sum.ensures.value (gives-is c.args.self.hour.prices c.args.totals c.args.self.listed
    c.args.self.hour.rates c.loop-e.invariant l at c.adj_series-series.ensures c.credit_of.ensures c.minus.ensures.value)

pub returns : goal.returns
returns c = offsets-all _ _ _ _ c.loop-e.invariant (search rules)
