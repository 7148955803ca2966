-- One group more was looked up.
use Rattle.std.proofs.Common.{◌<◌, length, map, ap, refl, arith}
use Rattle.std.proofs.Common.{List}
use Rattle.index_phrases.specs.declared.word_terms.WordTerms.{WordTerms}
use Rattle.index_phrases.specs.steps.Aiming.{sizes_of}
use Rattle.plan_runs.specs.steps.RunShapes.{GroupShape, group_shape}
use Rattle.plan_runs.specs.steps.Skips.{variants_skip}
use Rattle.plan_runs.specs.declared.run_node.RunGroup.{RunGroup}
use Rattle.index_phrases.proofs.PartLemmas.{as_many, part_at, parts_kept}
use Rattle.plan_runs.proofs.MissingLemmas.{all_missing, missing_more}
use Rattle.plan_runs.proofs.looking_up.look_groups_up.Goals as goal

pub loop-number-preserved : goal.loop-number-preserved
loop-number-preserved c =
    let views = map group_shape c.args.groups.now.items in
    let old = as_many group_shape c.args.groups.now.items views refl in
    let test = c.loop-number-test.true in
    let end = c.len-number-end.ensures in
    let within : c.loop-number.number < length views = omega arith in
    let at = part_at group_shape c.loop-number.groups.items views c.loop-number.number c.index_mut.result.now c.loop-number.invariant.same c.index_mut.ensures.value in
    let variants = c.index_mut.result.now.variants in
    let new : RunGroup = record { terms = c.look_variants_up.new.variants; variants = variants } in
    let shaped = λ (terms : List (List WordTerms)). let made : GroupShape = record { terms = terms; sizes = map sizes_of variants.items } in made in
    record {
      same = parts_kept group_shape c.loop-number.groups.items views c.loop-number.number c.index_mut.result.now new
          c.loop-number.invariant.same c.index_mut.ensures.value (ap shaped c.look_variants_up.ensures.same);
      none = λ h.
          missing_more (λ part (group : GroupShape). variants_skip c.args.doc.0 part group.terms) views c.loop-number.number (group_shape c.index_mut.result.now) within at (c.loop-number.invariant.none (c.either-may.ensures.other h))
          (c.look_variants_up.ensures.none (c.either-may.ensures.one h));
    }

pub returns-clause-none : goal.returns-clause-none
returns-clause-none c h =
    let views = map group_shape c.args.groups.now.items in
    let old = as_many group_shape c.args.groups.now.items views refl in
    let test = c.loop-number-test.false in
    let end = c.len-number-end.ensures in
    all_missing (λ part (group : GroupShape). variants_skip c.args.doc.0 part group.terms) views c.loop-number.number (omega arith) (c.loop-number.invariant.none h)
