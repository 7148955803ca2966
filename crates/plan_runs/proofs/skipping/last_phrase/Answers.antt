-- One phrase more; where one of them stands nowhere in the part, they don't stand there together.
use Rattle.std.proofs.Common.{◌+◌, ◌∙◌, ap, map, sym, Some, arith}
use Rattle.plan_runs.specs.steps.RunCosts.{phrase_cost, term_count}
use Rattle.plan_runs.specs.steps.RunShapes.{phrase_shape}
use Rattle.plan_runs.specs.steps.RunSkips.{phrase_skip}
use Rattle.plan_runs.specs.steps.Skips.{later, latest}
use Rattle.plan_runs.proofs.SkipLemmas.{fold_more, one_is_none}
use Rattle.plan_runs.proofs.SumLemmas.{read_more, so_far}
use Rattle.plan_runs.proofs.skipping.last_phrase.Goals as goal

pub loop-phrase-preserved : goal.loop-phrase-preserved
loop-phrase-preserved g c =
    let same = c.deref-phrase-items.ensures.value in
    let then = c.phrase_skip.ensures.price in
    record {
      skip = fold_more later (λ phrase. phrase_skip c.args.doc.0 c.args.part (phrase_shape phrase)) c.args.phrases.now.items c.deref-phrase-items.result.now c.loop-phrase.phrase-index c.phrase-item.result (Some c.loop-phrase.last) (Some c.greater-last.result)
          (latest (map (λ phrase. phrase_skip c.args.doc.0 c.args.part (phrase_shape phrase)) c.args.phrases.now.items)) same c.loop-phrase-test.true c.phrase-item.is
          (ap Some c.greater-last.ensures ∙ ap (later (Some c.loop-phrase.last)) (sym c.in-Some.is ∙ c.phrase_skip.ensures.says)) c.loop-phrase.invariant.skip;
      price = read_more (λ phrase. phrase_cost term_count (phrase_shape phrase)) c.args.phrases.now.items c.deref-phrase-items.result.now same c.loop-phrase.phrase-index c.args.moves.now c.phrase-item.result c.loop-phrase-test.true c.phrase-item.is
          c.loop-phrase.moves c.phrase_skip.new.moves c.loop-phrase.invariant.price then;
      grown = omega (arith, c.loop-phrase.invariant.grown, c.phrase_skip.ensures.grown);
    }

pub returns-clause-price : goal.returns-clause-price
returns-clause-price g c = so_far (λ phrase. phrase_cost term_count (phrase_shape phrase)) c.args.phrases.now.items c.loop-phrase.phrase-index c.args.moves.now c.loop-phrase.moves c.loop-phrase.invariant.price

pub returns-in-None-clause-says : goal.returns-in-None-clause-says
returns-in-None-clause-says g c =
    one_is_none (λ phrase. phrase_skip c.args.doc.0 c.args.part (phrase_shape phrase)) c.args.phrases.now.items c.deref-phrase-items.result.now c.loop-phrase.phrase-index c.phrase-item.result (Some c.loop-phrase.last) c.deref-phrase-items.ensures.value
    c.loop-phrase-test.true c.phrase-item.is (sym c.phrase_skip.ensures.says ∙ c.in-None.is) c.loop-phrase.invariant.skip

pub returns-in-None-clause-price : goal.returns-in-None-clause-price
returns-in-None-clause-price g c =
    let same = c.deref-phrase-items.ensures.value in
    let then = c.phrase_skip.ensures.price in
    so_far (λ phrase. phrase_cost term_count (phrase_shape phrase)) c.args.phrases.now.items (c.loop-phrase.phrase-index + 1) c.args.moves.now c.phrase_skip.new.moves
    (read_more (λ phrase. phrase_cost term_count (phrase_shape phrase)) c.args.phrases.now.items c.deref-phrase-items.result.now same c.loop-phrase.phrase-index c.args.moves.now c.phrase-item.result c.loop-phrase-test.true c.phrase-item.is
    c.loop-phrase.moves c.phrase_skip.new.moves c.loop-phrase.invariant.price then)
