-- One phrase more.
use Rattle.std.proofs.Common.{◌∙◌, ap, map, arith}
use Rattle.index_versions.specs.FirstPlaces.{soonest, sooner}
use Rattle.plan_runs.specs.steps.RunCosts.{phrase_cost, term_count}
use Rattle.plan_runs.specs.steps.RunShapes.{phrase_shape}
use Rattle.plan_runs.specs.steps.RunSkips.{phrase_skip}
use Rattle.plan_runs.proofs.SkipLemmas.{fold_more}
use Rattle.plan_runs.proofs.SumLemmas.{read_more, so_far}
use Rattle.plan_runs.proofs.skipping.first_phrase.Goals as goal

pub loop-phrase-preserved : goal.loop-phrase-preserved
loop-phrase-preserved g c =
    let same = c.deref-phrase-items.ensures.value in
    let then = c.phrase_skip.ensures.price in
    record {
      skip = fold_more sooner (λ phrase. phrase_skip c.args.doc.0 c.args.part (phrase_shape phrase)) c.args.phrases.now.items c.deref-phrase-items.result.now c.loop-phrase.phrase-index c.phrase-item.result c.loop-phrase.first c.sooner-first.result
          (soonest (map (λ phrase. phrase_skip c.args.doc.0 c.args.part (phrase_shape phrase)) c.args.phrases.now.items)) same c.loop-phrase-test.true c.phrase-item.is
          (c.sooner-first.ensures ∙ ap (sooner c.loop-phrase.first) c.phrase_skip.ensures.says) c.loop-phrase.invariant.skip;
      price = read_more (λ phrase. phrase_cost term_count (phrase_shape phrase)) c.args.phrases.now.items c.deref-phrase-items.result.now same c.loop-phrase.phrase-index c.args.moves.now c.phrase-item.result c.loop-phrase-test.true c.phrase-item.is
          c.loop-phrase.moves c.phrase_skip.new.moves c.loop-phrase.invariant.price then;
      grown = omega (arith, c.loop-phrase.invariant.grown, c.phrase_skip.ensures.grown);
    }

pub returns-clause-price : goal.returns-clause-price
returns-clause-price g c = so_far (λ phrase. phrase_cost term_count (phrase_shape phrase)) c.args.phrases.now.items c.loop-phrase.phrase-index c.args.moves.now c.loop-phrase.moves c.loop-phrase.invariant.price
