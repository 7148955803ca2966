-- One variant more was looked up.
use Rattle.std.proofs.Common.{◌<◌, length, map, refl, arith}
use Rattle.index_phrases.specs.steps.Aiming.{variant_words}
use Rattle.plan_runs.specs.steps.Skips.{variant_skip}
use Rattle.index_phrases.proofs.PartLemmas.{as_many, part_at, parts_kept}
use Rattle.plan_runs.proofs.MissingLemmas.{all_missing, missing_more}
use Rattle.plan_runs.proofs.looking_up.look_variants_up.Goals as goal

pub loop-number-preserved : goal.loop-number-preserved
loop-number-preserved c =
    let views = map variant_words c.args.variants.now.items in
    let old = as_many variant_words c.args.variants.now.items views refl in
    let test = c.loop-number-test.true in
    let end = c.len-number-end.ensures in
    let within : c.loop-number.number < length views = omega arith in
    let at = part_at variant_words c.loop-number.variants.items views c.loop-number.number c.index_mut.result.now c.loop-number.invariant.same c.index_mut.ensures.value in
    record {
      same = parts_kept variant_words c.loop-number.variants.items views c.loop-number.number c.index_mut.result.now c.look_variant_up.new.words
          c.loop-number.invariant.same c.index_mut.ensures.value c.look_variant_up.ensures.same;
      none = λ h.
          missing_more (λ part words. variant_skip c.args.doc.0 part words) views c.loop-number.number (variant_words c.index_mut.result.now) within at (c.loop-number.invariant.none (c.either-may.ensures.other h))
          (c.look_variant_up.ensures.none (c.either-may.ensures.one h));
    }

pub returns-clause-none : goal.returns-clause-none
returns-clause-none c h =
    let views = map variant_words c.args.variants.now.items in
    let old = as_many variant_words c.args.variants.now.items views refl in
    let test = c.loop-number-test.false in
    let end = c.len-number-end.ensures in
    all_missing (λ part words. variant_skip c.args.doc.0 part words) views c.loop-number.number (omega arith) (c.loop-number.invariant.none h)
