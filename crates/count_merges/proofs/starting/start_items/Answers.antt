-- Item by item.
use Rattle.std.proofs.Common.{arith}
use Rattle.count_merges.specs.steps.Passing.{parts_of, started_parts}
use Rattle.count_merges.proofs.ListChanges.{changes_on}
use Rattle.count_merges.proofs.starting.start_items.Goals as goal

pub loop-number-preserved : goal.loop-number-preserved
loop-number-preserved g c =
    let item = c.index_mut.result.now in
    changes_on parts_of (started_parts (g.U.Units.number c.args.units.now) c.args.window c.args.from) c.args.items.now.items c.loop-number.items.items c.loop-number.number
    item (record { least = item.least; most = item.most; groups = c.start_groups.new.groups }) c.loop-number.invariant
    (omega (arith, c.loop-number-test.true, c.len-number-end.ensures, c.loop-number.invariant.long)) c.index_mut.ensures.value
    (λ i. record { least = item.least; most = item.most; groups = c.start_groups.ensures i })
