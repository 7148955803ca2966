-- One variant more.
use Rattle.std.proofs.Common.{◌∙◌, ap, map, arith}
use Rattle.std.specs.List.{sum_by}
use Rattle.index_versions.specs.FirstPlaces.{soonest, sooner}
use Rattle.plan_runs.specs.steps.RunCosts.{term_count}
use Rattle.plan_runs.specs.steps.Skips.{variant_skip}
use Rattle.plan_runs.proofs.SkipLemmas.{fold_more}
use Rattle.plan_runs.proofs.SumLemmas.{read_more, so_far}
use Rattle.plan_runs.proofs.skipping.variants_skip.Goals as goal

pub loop-words-preserved : goal.loop-words-preserved
loop-words-preserved g c =
    let same = c.deref-words-items.ensures.value in
    let then = c.variant_skip.ensures.price in
    record {
      skip = fold_more sooner (λ words. variant_skip c.args.doc.0 c.args.part words.items) c.args.variants.now.items c.deref-words-items.result.now c.loop-words.words-index c.words-item.result c.loop-words.first c.sooner-first.result
          (soonest (map (λ words. variant_skip c.args.doc.0 c.args.part words.items) c.args.variants.now.items)) same c.loop-words-test.true c.words-item.is
          (c.sooner-first.ensures ∙ ap (sooner c.loop-words.first) c.variant_skip.ensures.says) c.loop-words.invariant.skip;
      price = read_more (λ words. sum_by term_count words.items) c.args.variants.now.items c.deref-words-items.result.now same c.loop-words.words-index c.args.moves.now c.words-item.result c.loop-words-test.true c.words-item.is
          c.loop-words.moves c.variant_skip.new.moves c.loop-words.invariant.price then;
      grown = omega (arith, c.loop-words.invariant.grown, c.variant_skip.ensures.grown);
    }

pub returns-clause-price : goal.returns-clause-price
returns-clause-price g c = so_far (λ words. sum_by term_count words.items) c.args.variants.now.items c.loop-words.words-index c.args.moves.now c.loop-words.moves c.loop-words.invariant.price
