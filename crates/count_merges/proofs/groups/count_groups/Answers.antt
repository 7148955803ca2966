-- Group by group.
use Rattle.std.proofs.Common.{arith}
use Rattle.count_merges.specs.steps.Passing.{held, is_group_sound, shown_group}
use Rattle.count_merges.proofs.SumLemmas.{sum_ends, sum_goes_on}
use Rattle.count_merges.proofs.groups.count_groups.Goals as goal

pub loop-number-preserved : goal.loop-number-preserved
loop-number-preserved g c =
    let unit = g.U.Units.number c.args.units.now in
    let window = c.args.window in
    sum_goes_on (held g.H.Hits.stand unit window) (is_group_sound unit window) (shown_group g.H.Hits.stand g.H.Hits.plain) c.args.groups.now.items c.loop-number.groups.items
    c.args.last c.args.limit c.loop-number.until c.loop-number.count c.loop-number.number c.args.steps.now c.loop-number.steps c.count_group-held.new.steps c.loop-number.invariant
    c.index_mut.result.now c.count_group-held.new.group (omega (arith, c.loop-number-test.true, c.len-number-end.ensures, c.loop-number.invariant.long)) c.index_mut.ensures.value
    c.count_group-held.result.until c.count_group-held.result.count c.count_group-held.ensures.stays c.count_group-held.ensures.same c.count_group-held.ensures.sound c.count_group-held.ensures.moved
    c.min-until.result c.saturating_add-count.result c.min-until.ensures c.saturating_add-count.ensures

pub returns-clause-stays : goal.returns-clause-stays
returns-clause-stays g c =
    let unit = g.U.Units.number c.args.units.now in
    let window = c.args.window in
    sum_ends (held g.H.Hits.stand unit window) (is_group_sound unit window) (shown_group g.H.Hits.stand g.H.Hits.plain) c.args.groups.now.items c.loop-number.groups.items
    c.args.last c.args.limit c.loop-number.until c.loop-number.count c.loop-number.number c.args.steps.now c.loop-number.steps c.loop-number.invariant
    (omega (arith, c.loop-number-test.false, c.len-number-end.ensures, c.loop-number.invariant.long))
