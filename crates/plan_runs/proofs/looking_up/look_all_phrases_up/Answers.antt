-- One phrase more was looked up; one that is missing is enough.
use Rattle.std.proofs.Common.{◌<◌, length, map, refl, arith}
use Rattle.index_phrases.proofs.PartLemmas.{as_many, part_at, parts_kept}
use Rattle.plan_runs.specs.steps.RunShapes.{phrase_shape}
use Rattle.plan_runs.specs.steps.RunSkips.{phrase_skip}
use Rattle.plan_runs.specs.declared.run_node.RunPhrase.{RunPhrase}
use Rattle.plan_runs.proofs.MissingLemmas.{one_missing}
use Rattle.plan_runs.proofs.looking_up.look_all_phrases_up.Goals as goal

pub returns-then-not-look_groups_up-clause-same : goal.returns-then-not-look_groups_up-clause-same
returns-then-not-look_groups_up-clause-same c =
    let new : RunPhrase = record { groups = c.look_groups_up.new.groups } in
    parts_kept phrase_shape c.loop-number.phrases.items (map phrase_shape c.args.phrases.now.items) c.loop-number.number c.index_mut.result.now new
    c.loop-number.invariant c.index_mut.ensures.value c.look_groups_up.ensures.same

pub returns-then-not-look_groups_up-clause-none : goal.returns-then-not-look_groups_up-clause-none
returns-then-not-look_groups_up-clause-none c h =
    let views = map phrase_shape c.args.phrases.now.items in
    let old = as_many phrase_shape c.args.phrases.now.items views refl in
    let test = c.loop-number-test.true in
    let end = c.len-number-end.ensures in
    let within : c.loop-number.number < length views = omega arith in
    one_missing (λ part phrase. phrase_skip c.args.doc.0 part phrase) views c.loop-number.number (phrase_shape c.index_mut.result.now) within
    (part_at phrase_shape c.loop-number.phrases.items views c.loop-number.number c.index_mut.result.now c.loop-number.invariant c.index_mut.ensures.value)
    (c.look_groups_up.ensures.none c.if-not-look_groups_up.true)

pub loop-number-preserved : goal.loop-number-preserved
loop-number-preserved c =
    let new : RunPhrase = record { groups = c.look_groups_up.new.groups } in
    parts_kept phrase_shape c.loop-number.phrases.items (map phrase_shape c.args.phrases.now.items) c.loop-number.number c.index_mut.result.now new
    c.loop-number.invariant c.index_mut.ensures.value c.look_groups_up.ensures.same
