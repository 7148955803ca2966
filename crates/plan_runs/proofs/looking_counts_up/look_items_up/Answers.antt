-- One item more was looked up; one that is missing is enough.
use Rattle.std.proofs.Common.{◌<◌, length, map, refl, arith}
use Rattle.index_phrases.proofs.PartLemmas.{as_many, part_at, parts_kept}
use Rattle.plan_runs.specs.steps.RunShapes.{term_counts}
use Rattle.plan_runs.specs.steps.RunSkips.{item_skip}
use Rattle.plan_runs.proofs.MissingLemmas.{one_missing}
use Rattle.plan_runs.proofs.looking_counts_up.look_items_up.Goals as goal

pub returns-then-not-look_item_up-clause-same : goal.returns-then-not-look_item_up-clause-same
returns-then-not-look_item_up-clause-same c =
    parts_kept term_counts c.loop-number.items.items (map term_counts c.args.items.now.items) c.loop-number.number c.index_mut.result.now c.look_item_up.new.item
    c.loop-number.invariant c.index_mut.ensures.value c.look_item_up.ensures.same

pub returns-then-not-look_item_up-clause-none : goal.returns-then-not-look_item_up-clause-none
returns-then-not-look_item_up-clause-none c h =
    let views = map term_counts c.args.items.now.items in
    let old = as_many term_counts c.args.items.now.items views refl in
    let test = c.loop-number-test.true in
    let end = c.len-number-end.ensures in
    let within : c.loop-number.number < length views = omega arith in
    one_missing (λ part item. item_skip c.args.doc.0 part item) views c.loop-number.number (term_counts c.index_mut.result.now) within
    (part_at term_counts c.loop-number.items.items views c.loop-number.number c.index_mut.result.now c.loop-number.invariant c.index_mut.ensures.value)
    (c.look_item_up.ensures.none c.if-not-look_item_up.true)

pub loop-number-preserved : goal.loop-number-preserved
loop-number-preserved c =
    parts_kept term_counts c.loop-number.items.items (map term_counts c.args.items.now.items) c.loop-number.number c.index_mut.result.now c.look_item_up.new.item
    c.loop-number.invariant c.index_mut.ensures.value c.look_item_up.ensures.same
