-- Group by group.
use Rattle.std.proofs.Common.{ap, length, ◌∙◌, arith}
use Rattle.count_merges.specs.steps.Passing.{started}
use Rattle.count_merges.proofs.ListChanges.{all_changed, changed_length, goes_on}
use Rattle.count_merges.proofs.starting.start_groups.Goals as goal

pub loop-number-preserved : goal.loop-number-preserved
loop-number-preserved g c =
    let start = started (g.U.Units.number c.args.units.now) c.args.window c.args.from in
    let long = ap length c.loop-number.invariant ∙ changed_length start c.args.groups.now.items c.loop-number.number in
    goes_on start c.args.groups.now.items c.loop-number.groups.items c.loop-number.number c.index_mut.result.now c.start_group.new.group c.loop-number.invariant
    (omega (arith, c.loop-number-test.true, c.len-number-end.ensures, long)) c.index_mut.ensures.value c.start_group.ensures

pub returns : goal.returns
returns g c =
    let start = started (g.U.Units.number c.args.units.now) c.args.window c.args.from in
    let long = ap length c.loop-number.invariant ∙ changed_length start c.args.groups.now.items c.loop-number.number in
    c.loop-number.invariant ∙ all_changed start c.args.groups.now.items c.loop-number.number (omega (arith, c.loop-number-test.false, c.len-number-end.ensures, long))
