-- One group more.
use Rattle.std.proofs.Common.{◌∙◌, ap, map, arith}
use Rattle.std.specs.List.{sum_by}
use Rattle.index_versions.specs.FirstPlaces.{soonest, sooner}
use Rattle.plan_runs.specs.steps.RunCosts.{term_count}
use Rattle.plan_runs.specs.steps.Skips.{vectors_skip}
use Rattle.plan_runs.proofs.SkipLemmas.{fold_more}
use Rattle.plan_runs.proofs.SumLemmas.{read_more, so_far}
use Rattle.plan_runs.proofs.counts_skipping.groups_skip.Goals as goal

pub loop-group-preserved : goal.loop-group-preserved
loop-group-preserved g c =
    let same = c.deref-group-items.ensures.value in
    let then = c.variants_skip.ensures.price in
    record {
      skip = fold_more sooner (λ group. vectors_skip c.args.doc.0 c.args.part group.variants.items) c.args.groups.now.items c.deref-group-items.result.now c.loop-group.group-index c.group-item.result c.loop-group.first c.sooner-first.result
          (soonest (map (λ group. vectors_skip c.args.doc.0 c.args.part group.variants.items) c.args.groups.now.items)) same c.loop-group-test.true c.group-item.is
          (c.sooner-first.ensures ∙ ap (sooner c.loop-group.first) c.variants_skip.ensures.says) c.loop-group.invariant.skip;
      price = read_more (λ group. sum_by (λ words. sum_by term_count words.items) group.variants.items) c.args.groups.now.items c.deref-group-items.result.now same c.loop-group.group-index c.args.moves.now c.group-item.result c.loop-group-test.true c.group-item.is
          c.loop-group.moves c.variants_skip.new.moves c.loop-group.invariant.price then;
      grown = omega (arith, c.loop-group.invariant.grown, c.variants_skip.ensures.grown);
    }

pub returns-clause-price : goal.returns-clause-price
returns-clause-price g c = so_far (λ group. sum_by (λ words. sum_by term_count words.items) group.variants.items) c.args.groups.now.items c.loop-group.group-index c.args.moves.now c.loop-group.moves c.loop-group.invariant.price
