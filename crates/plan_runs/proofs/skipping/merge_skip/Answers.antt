-- One word more; where one of them stands nowhere in the part, they don't stand there together.
use Rattle.std.proofs.Common.{◌≤◌, ◌+◌, ◌∙◌, ap, length, map, sym, Some, arith}
use Rattle.plan_runs.specs.steps.RunSkips.{terms_skip}
use Rattle.plan_runs.specs.steps.Skips.{later, latest}
use Rattle.plan_runs.proofs.SkipLemmas.{fold_more, one_is_none}
use Rattle.plan_runs.proofs.SumLemmas.{read_more, so_far}
use Rattle.plan_runs.proofs.skipping.merge_skip.Goals as goal

pub loop-terms-preserved : goal.loop-terms-preserved
loop-terms-preserved g c =
    let same = c.deref-terms-items.ensures.value in
    let counted = c.first_in.ensures.counted in
    let then : c.first_in.new.moves ≤ c.loop-terms.moves + length c.terms-item.result = omega (arith, counted) in
    record {
      skip = fold_more later (terms_skip c.args.doc.0 c.args.part) c.args.words.now.items c.deref-terms-items.result.now c.loop-terms.terms-index c.terms-item.result (Some c.loop-terms.last) (Some c.greater-last.result)
          (latest (map (terms_skip c.args.doc.0 c.args.part) c.args.words.now.items)) same c.loop-terms-test.true c.terms-item.is
          (ap Some c.greater-last.ensures ∙ ap (later (Some c.loop-terms.last)) (sym c.in-Some.is ∙ c.first_in.ensures.says)) c.loop-terms.invariant.skip;
      price = read_more (λ terms. length terms) c.args.words.now.items c.deref-terms-items.result.now same c.loop-terms.terms-index c.args.moves.now c.terms-item.result c.loop-terms-test.true c.terms-item.is
          c.loop-terms.moves c.first_in.new.moves c.loop-terms.invariant.price then;
      grown = omega (arith, c.loop-terms.invariant.grown, counted);
    }

pub returns-clause-price : goal.returns-clause-price
returns-clause-price g c = so_far (λ terms. length terms) c.args.words.now.items c.loop-terms.terms-index c.args.moves.now c.loop-terms.moves c.loop-terms.invariant.price

pub returns-in-None-clause-says : goal.returns-in-None-clause-says
returns-in-None-clause-says g c =
    one_is_none (terms_skip c.args.doc.0 c.args.part) c.args.words.now.items c.deref-terms-items.result.now c.loop-terms.terms-index c.terms-item.result (Some c.loop-terms.last) c.deref-terms-items.ensures.value
    c.loop-terms-test.true c.terms-item.is (sym c.first_in.ensures.says ∙ c.in-None.is) c.loop-terms.invariant.skip

pub returns-in-None-clause-price : goal.returns-in-None-clause-price
returns-in-None-clause-price g c =
    let same = c.deref-terms-items.ensures.value in
    let counted = c.first_in.ensures.counted in
    let then : c.first_in.new.moves ≤ c.loop-terms.moves + length c.terms-item.result = omega (arith, counted) in
    so_far (λ terms. length terms) c.args.words.now.items (c.loop-terms.terms-index + 1) c.args.moves.now c.first_in.new.moves
    (read_more (λ terms. length terms) c.args.words.now.items c.deref-terms-items.result.now same c.loop-terms.terms-index c.args.moves.now c.terms-item.result c.loop-terms-test.true c.terms-item.is
    c.loop-terms.moves c.first_in.new.moves c.loop-terms.invariant.price then)
