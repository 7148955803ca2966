-- One place more is passed.
use Rattle.std.proofs.Common.{◌<◌, ◌+◌, ◌-◌, ◌∷◌, ◌++◌, map, ap, sym, ◌∙◌, arith}
use Rattle.std.specs.List.{range_with_len}
use Rattle.index_cursors.specs.SpanHits.{started}
use Rattle.ignore_view.specs.steps.Kept.{found_with}
use Rattle.ignore_view.proofs.StartLemmas.{started-more}
use Rattle.ignore_view.proofs.WalkLemmas.{range-head}
use Rattle.ignore_view.proofs.starts.pass_part.Goals as goal

pub loop-place-preserved : goal.loop-place-preserved
loop-place-preserved c =
    let starts = c.args.starts.now in
    let place = c.loop-place.place in
    let to = c.args.part.to in
    let walk = c.loop-place.walk in
    let invariant = c.loop-place.invariant in
    let less : place < to = omega (arith, c.loop-place-test.true) in
    let number = c.started_from-number.ensures in
    let more = started-more starts place (place + 1) (omega arith) in
    let passed = c.in_ok-pass.ensures.passed in
    let before = invariant.passed in
    record {
      found = λ rest.
          let left = map (started starts) (range_with_len (place + 1) (to - (place + 1))) ++ rest in
          c.in_ok-pass.ensures.found left
          ∙ ap (λ n. found_with walk (n ∷ left)) number
          ∙ ap (λ ps. found_with walk (map (started starts) ps ++ rest)) (sym (range-head place to less))
          ∙ invariant.found rest;
      passed = omega (arith, passed, before, less);
      ahead = c.in_ok-pass.ensures.ahead;
      number = omega (arith, number, more);
    }
