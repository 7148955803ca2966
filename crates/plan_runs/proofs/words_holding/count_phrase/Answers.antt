-- One summand more.
use Rattle.std.proofs.Common.{◌<◌, ◌+◌, ◌∙◌, ap, length, map, min, arith, refl}
use Rattle.plan_runs.specs.steps.RunCosts.{group_cost, moves_for}
use Rattle.plan_runs.specs.steps.RunShapes.{GroupShape, group_shape}
use Rattle.plan_runs.specs.steps.RunTruth.{IsGroup, group_count}
use Rattle.plan_runs.specs.steps.AskedPlaces.{text_at}
use Rattle.plan_runs.proofs.Capped.{sum_more}
use Rattle.index_phrases.proofs.PartLemmas.{as_many, holds_at, part_at, parts_kept}
use Rattle.plan_runs.proofs.SumLemmas.{one_more, so_far}
use Rattle.plan_runs.proofs.words_holding.count_phrase.Goals as goal

pub count_group-count-requires : goal.count_group-count-requires
count_group-count-requires g c =
    let views = map group_shape c.args.phrase.now.groups.items in
    let old = as_many group_shape c.args.phrase.now.groups.items views refl in
    let now = as_many group_shape c.loop-number.phrase.groups.items views c.loop-number.invariant.same in
    let test = c.loop-number-test.true in
    let end = c.len-number-end.ensures in
    holds_at group_shape (IsGroup c.args.place.now.version.now) c.loop-number.phrase.groups.items views c.loop-number.number c.index_mut.result.now
    c.requires c.loop-number.invariant.same (omega arith) c.index_mut.ensures.value

pub loop-number-preserved : goal.loop-number-preserved
loop-number-preserved g c =
    let place = c.args.place.now in
    let views = map group_shape c.args.phrase.now.groups.items in
    let old = as_many group_shape c.args.phrase.now.groups.items views refl in
    let test = c.loop-number-test.true in
    let end = c.len-number-end.ensures in
    let within : c.loop-number.number < length views = omega arith in
    let first = c.loop-number.invariant.grown in
    let then = c.count_group-count.ensures.grown in
    record {
      same = parts_kept group_shape c.loop-number.phrase.groups.items views c.loop-number.number c.index_mut.result.now c.count_group-count.new.group
          c.loop-number.invariant.same c.index_mut.ensures.value c.count_group-count.ensures.same;
      count = c.sum_upto-total.ensures
          ∙ ap (λ n. min (c.loop-number.total + n) c.args.most) c.count_group-count.ensures.count
          ∙ sum_more (λ (group : GroupShape). group_count place.version.now group (text_at place)) c.args.most views c.loop-number.number (group_shape c.index_mut.result.now) c.loop-number.total within
          (part_at group_shape c.loop-number.phrase.groups.items views c.loop-number.number c.index_mut.result.now c.loop-number.invariant.same c.index_mut.ensures.value)
          c.loop-number.invariant.count;
      price = one_more (group_cost (moves_for place)) views c.loop-number.number c.args.moves.now (group_shape c.index_mut.result.now) c.loop-number.moves c.count_group-count.new.moves within
          (part_at group_shape c.loop-number.phrase.groups.items views c.loop-number.number c.index_mut.result.now c.loop-number.invariant.same c.index_mut.ensures.value)
          c.loop-number.invariant.price c.count_group-count.ensures.price;
      grown = omega arith;
    }

pub returns-clause-price : goal.returns-clause-price
returns-clause-price g c =
    so_far (group_cost (moves_for c.args.place.now)) (map group_shape c.args.phrase.now.groups.items) c.loop-number.number c.args.moves.now c.loop-number.moves c.loop-number.invariant.price
