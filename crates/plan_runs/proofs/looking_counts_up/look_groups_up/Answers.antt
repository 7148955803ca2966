-- One group more was looked up.
use Rattle.std.proofs.Common.{◌<◌, ℕ, List, length, map, refl, arith}
use Rattle.index_phrases.specs.declared.word_terms.WordTerms.{WordTerms}
use Rattle.index_phrases.specs.steps.Aiming.{variant_words}
use Rattle.plan_runs.specs.steps.Skips.{variants_skip}
use Rattle.plan_runs.specs.declared.run_counts.TermGroup.{TermGroup}
use Rattle.index_phrases.proofs.PartLemmas.{as_many, part_at, parts_kept}
use Rattle.plan_runs.proofs.MissingLemmas.{all_missing, missing_more}
use Rattle.plan_runs.proofs.looking_counts_up.look_groups_up.Goals as goal

abbrev group_terms : TermGroup → ℕ × List (List WordTerms)
group_terms group = (group.words, map variant_words group.variants.items)

pub loop-number-preserved : goal.loop-number-preserved
loop-number-preserved c =
    let views = map group_terms c.args.groups.now.items in
    let old = as_many group_terms c.args.groups.now.items views refl in
    let test = c.loop-number-test.true in
    let end = c.len-number-end.ensures in
    let within : c.loop-number.number < length views = omega arith in
    let at = part_at group_terms c.loop-number.groups.items views c.loop-number.number c.index_mut.result.now c.loop-number.invariant.same c.index_mut.ensures.value in
    let words = c.index_mut.result.now.words in
    let new : TermGroup = record { words = words; variants = c.look_variants_up.new.variants } in
    record {
      same = parts_kept group_terms c.loop-number.groups.items views c.loop-number.number c.index_mut.result.now new
          c.loop-number.invariant.same c.index_mut.ensures.value (λ i. (words, c.look_variants_up.ensures.same i));
      none = λ h.
          missing_more (λ part (group : ℕ × List (List WordTerms)). variants_skip c.args.doc.0 part group.1) views c.loop-number.number (group_terms c.index_mut.result.now) within at
          (c.loop-number.invariant.none (c.either-may.ensures.other h)) (c.look_variants_up.ensures.none (c.either-may.ensures.one h));
    }

pub returns-clause-none : goal.returns-clause-none
returns-clause-none c h =
    let views = map group_terms c.args.groups.now.items in
    let old = as_many group_terms c.args.groups.now.items views refl in
    let test = c.loop-number-test.false in
    let end = c.len-number-end.ensures in
    all_missing (λ part (group : ℕ × List (List WordTerms)). variants_skip c.args.doc.0 part group.1) views c.loop-number.number (omega arith) (c.loop-number.invariant.none h)
