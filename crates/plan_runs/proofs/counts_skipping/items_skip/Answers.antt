-- One item more; where one of them has nothing there, they don't fit there together.
use Rattle.std.proofs.Common.{◌+◌, ◌∙◌, ap, map, sym, Some, arith}
use Rattle.plan_runs.specs.steps.Counts.{item_cost}
use Rattle.plan_runs.specs.steps.RunCosts.{term_count}
use Rattle.plan_runs.specs.steps.RunShapes.{term_counts}
use Rattle.plan_runs.specs.steps.RunSkips.{item_skip}
use Rattle.plan_runs.specs.steps.Skips.{later, latest}
use Rattle.plan_runs.proofs.SkipLemmas.{fold_more, one_is_none}
use Rattle.plan_runs.proofs.SumLemmas.{read_more, so_far}
use Rattle.plan_runs.proofs.counts_skipping.items_skip.Goals as goal

pub loop-item-preserved : goal.loop-item-preserved
loop-item-preserved g c =
    let same = c.deref-item-items.ensures.value in
    let then = c.item_skip.ensures.price in
    record {
      skip = fold_more later (λ item. item_skip c.args.doc.0 c.args.part (term_counts item)) c.args.items.now.items c.deref-item-items.result.now c.loop-item.item-index c.item-item.result (Some c.loop-item.last) (Some c.greater-last.result)
          (latest (map (λ item. item_skip c.args.doc.0 c.args.part (term_counts item)) c.args.items.now.items)) same c.loop-item-test.true c.item-item.is
          (ap Some c.greater-last.ensures ∙ ap (later (Some c.loop-item.last)) (sym c.in-Some.is ∙ c.item_skip.ensures.says)) c.loop-item.invariant.skip;
      price = read_more (λ item. item_cost term_count (term_counts item)) c.args.items.now.items c.deref-item-items.result.now same c.loop-item.item-index c.args.moves.now c.item-item.result c.loop-item-test.true c.item-item.is
          c.loop-item.moves c.item_skip.new.moves c.loop-item.invariant.price then;
      grown = omega (arith, c.loop-item.invariant.grown, c.item_skip.ensures.grown);
    }

pub returns-clause-price : goal.returns-clause-price
returns-clause-price g c = so_far (λ item. item_cost term_count (term_counts item)) c.args.items.now.items c.loop-item.item-index c.args.moves.now c.loop-item.moves c.loop-item.invariant.price

pub returns-in-None-clause-says : goal.returns-in-None-clause-says
returns-in-None-clause-says g c =
    one_is_none (λ item. item_skip c.args.doc.0 c.args.part (term_counts item)) c.args.items.now.items c.deref-item-items.result.now c.loop-item.item-index c.item-item.result (Some c.loop-item.last) c.deref-item-items.ensures.value
    c.loop-item-test.true c.item-item.is (sym c.item_skip.ensures.says ∙ c.in-None.is) c.loop-item.invariant.skip

pub returns-in-None-clause-price : goal.returns-in-None-clause-price
returns-in-None-clause-price g c =
    let same = c.deref-item-items.ensures.value in
    let then = c.item_skip.ensures.price in
    so_far (λ item. item_cost term_count (term_counts item)) c.args.items.now.items (c.loop-item.item-index + 1) c.args.moves.now c.item_skip.new.moves
    (read_more (λ item. item_cost term_count (term_counts item)) c.args.items.now.items c.deref-item-items.result.now same c.loop-item.item-index c.args.moves.now c.item-item.result c.loop-item-test.true c.item-item.is
    c.loop-item.moves c.item_skip.new.moves c.loop-item.invariant.price then)
