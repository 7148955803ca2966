-- The groups, without their lengths, are those of the phrases that the phrase stands for.
use Rattle.std.proofs.Common.{◌∙◌, ap, map}
use Rattle.match_options.specs.Items.{item}
use Rattle.all_matches.specs.Counting.{by_length}
use Rattle.plan_compiler.specs.ItemTests.{passes}
use Rattle.plan_compiler.specs.WordsMeaning as spec
use Rattle.plan_compiler.proofs.GroupLemmas.{without_lengths}
use Rattle.plan_compiler.proofs.phrase_plan.phrase_plan.Goals as goal

pub returns : goal.returns
returns c =
    ap (map spec.tests_of) c.in_ok-without_lengths.ensures
    ∙ without_lengths passes c.in_ok-groups.groups.entries
    ∙ ap (map (λ group. group.1)) (c.in_ok-groups.ensures
    ∙ ap (λ phrases. by_length (map (map (spec.item_test c.args.reading.now)) phrases)) (ap (map (map item)) c.as_slice.ensures ∙ c.in_ok-phrases.ensures))
