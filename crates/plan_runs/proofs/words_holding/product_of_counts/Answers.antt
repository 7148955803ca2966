-- One factor more.
use Rattle.std.proofs.Common.{◌<◌, ◌*◌, ◌∙◌, List, ap, length, map, min, arith, refl}
use Rattle.std.specs.List.{All}
use Rattle.plan_runs.specs.steps.RunCosts.{phrase_cost, moves_for}
use Rattle.plan_runs.specs.steps.RunShapes.{GroupShape, phrase_shape}
use Rattle.plan_runs.specs.steps.RunTruth.{IsGroup, phrase_total}
use Rattle.plan_runs.specs.steps.AskedPlaces.{text_at}
use Rattle.plan_runs.proofs.Capped.{product_more}
use Rattle.index_phrases.proofs.PartLemmas.{as_many, holds_at, part_at, parts_kept}
use Rattle.plan_runs.proofs.SumLemmas.{one_more, so_far}
use Rattle.plan_runs.proofs.words_holding.product_of_counts.Goals as goal

pub count_phrase-count-requires : goal.count_phrase-count-requires
count_phrase-count-requires g c =
    let views = map phrase_shape c.args.phrases.now.items in
    let old = as_many phrase_shape c.args.phrases.now.items views refl in
    let now = as_many phrase_shape c.loop-number.phrases.items views c.loop-number.invariant.same in
    let test = c.loop-number-test.true in
    let end = c.len-number-end.ensures in
    holds_at phrase_shape (All (IsGroup c.args.place.now.version.now)) c.loop-number.phrases.items views c.loop-number.number c.index_mut.result.now
    c.requires c.loop-number.invariant.same (omega arith) c.index_mut.ensures.value

pub loop-number-preserved : goal.loop-number-preserved
loop-number-preserved g c =
    let place = c.args.place.now in
    let views = map phrase_shape c.args.phrases.now.items in
    let old = as_many phrase_shape c.args.phrases.now.items views refl in
    let test = c.loop-number-test.true in
    let end = c.len-number-end.ensures in
    let within : c.loop-number.number < length views = omega arith in
    let first = c.loop-number.invariant.grown in
    let then = c.count_phrase-count.ensures.grown in
    record {
      same = parts_kept phrase_shape c.loop-number.phrases.items views c.loop-number.number c.index_mut.result.now c.count_phrase-count.new.phrase
          c.loop-number.invariant.same c.index_mut.ensures.value c.count_phrase-count.ensures.same;
      count = c.product_upto-total.ensures
          ∙ ap (λ n. min (c.loop-number.total * n) c.args.most) c.count_phrase-count.ensures.count
          ∙ product_more (λ (phrase : List GroupShape). phrase_total place.version.now phrase (text_at place)) c.args.most views c.loop-number.number (phrase_shape c.index_mut.result.now) c.loop-number.total within
          (part_at phrase_shape c.loop-number.phrases.items views c.loop-number.number c.index_mut.result.now c.loop-number.invariant.same c.index_mut.ensures.value)
          c.loop-number.invariant.count;
      price = one_more (phrase_cost (moves_for place)) views c.loop-number.number c.args.moves.now (phrase_shape c.index_mut.result.now) c.loop-number.moves c.count_phrase-count.new.moves within
          (part_at phrase_shape c.loop-number.phrases.items views c.loop-number.number c.index_mut.result.now c.loop-number.invariant.same c.index_mut.ensures.value)
          c.loop-number.invariant.price c.count_phrase-count.ensures.price;
      grown = omega arith;
    }

pub returns-clause-price : goal.returns-clause-price
returns-clause-price g c =
    so_far (phrase_cost (moves_for c.args.place.now)) (map phrase_shape c.args.phrases.now.items) c.loop-number.number c.args.moves.now c.loop-number.moves c.loop-number.invariant.price
