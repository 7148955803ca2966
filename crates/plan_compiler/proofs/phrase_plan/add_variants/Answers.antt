-- The tests of one phrase more are put to those of their number.
use Rattle.std.proofs.Common.{◌≡◌, ◌∙◌, sym, ap, map, []}
use Rattle.match_options.specs.Items.{item}
use Rattle.all_matches.specs.Counting.{with_variant}
use Rattle.plan_compiler.specs.GroupedTests.{group_tests}
use Rattle.plan_compiler.specs.ItemTests.{passes}
use Rattle.plan_compiler.specs.WordsMeaning as spec
use Rattle.plan_compiler.proofs.GroupLemmas.{fold_more, with_variant-map}
use Rattle.plan_compiler.proofs.phrase_plan.add_variants.Goals as goal

pub loop-phrase-init : goal.loop-phrase-init
loop-phrase-init c = ap (map group_tests) c.requires

pub loop-phrase-preserved : goal.loop-phrase-preserved
loop-phrase-preserved c =
    let test = spec.item_test c.args.reading.now in
    let tests : map passes c.in_ok-tests.tests ≡ map test (map item c.phrase-item.result) = c.in_ok-tests.ensures.passes ∙ ap (λ p. map test (map item p)) c.as_slice.ensures in
    ap (map group_tests) c.in_ok-add_variant.ensures
    ∙ sym (with_variant-map passes c.loop-phrase.groups.entries c.in_ok-tests.tests)
    ∙ (λ i. with_variant (c.loop-phrase.invariant i) (tests i))
    ∙ sym (fold_more with_variant [] (map test) (map item) c.args.phrases.now c.loop-phrase.phrase-index c.phrase-item.result c.loop-phrase-test.true c.phrase-item.is)
