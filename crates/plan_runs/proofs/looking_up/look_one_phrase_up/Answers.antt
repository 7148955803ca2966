-- One phrase more was looked up.
use Rattle.std.proofs.Common.{◌<◌, length, map, refl, arith}
use Rattle.plan_runs.specs.steps.RunShapes.{phrase_shape}
use Rattle.plan_runs.specs.steps.RunSkips.{phrase_skip}
use Rattle.plan_runs.specs.declared.run_node.RunPhrase.{RunPhrase}
use Rattle.index_phrases.proofs.PartLemmas.{as_many, part_at, parts_kept}
use Rattle.plan_runs.proofs.MissingLemmas.{all_missing, missing_more}
use Rattle.plan_runs.proofs.looking_up.look_one_phrase_up.Goals as goal

pub loop-number-preserved : goal.loop-number-preserved
loop-number-preserved c =
    let views = map phrase_shape c.args.phrases.now.items in
    let old = as_many phrase_shape c.args.phrases.now.items views refl in
    let test = c.loop-number-test.true in
    let end = c.len-number-end.ensures in
    let within : c.loop-number.number < length views = omega arith in
    let at = part_at phrase_shape c.loop-number.phrases.items views c.loop-number.number c.index_mut.result.now c.loop-number.invariant.same c.index_mut.ensures.value in
    let new : RunPhrase = record { groups = c.look_groups_up.new.groups } in
    record {
      same = parts_kept phrase_shape c.loop-number.phrases.items views c.loop-number.number c.index_mut.result.now new
          c.loop-number.invariant.same c.index_mut.ensures.value c.look_groups_up.ensures.same;
      none = λ h.
          missing_more (λ part phrase. phrase_skip c.args.doc.0 part phrase) views c.loop-number.number (phrase_shape c.index_mut.result.now) within at (c.loop-number.invariant.none (c.either-may.ensures.other h))
          (c.look_groups_up.ensures.none (c.either-may.ensures.one h));
    }

pub returns-clause-none : goal.returns-clause-none
returns-clause-none c h =
    let views = map phrase_shape c.args.phrases.now.items in
    let old = as_many phrase_shape c.args.phrases.now.items views refl in
    let test = c.loop-number-test.false in
    let end = c.len-number-end.ensures in
    all_missing (λ part phrase. phrase_skip c.args.doc.0 part phrase) views c.loop-number.number (omega arith) (c.loop-number.invariant.none h)
