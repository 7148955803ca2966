-- One word more; where one of them stands nowhere in the part, they don't stand there together.
use Rattle.std.proofs.Common.{◌≤◌, ◌+◌, ◌∙◌, ap, map, sym, Some, arith}
use Rattle.plan_runs.specs.steps.RunCosts.{term_count}
use Rattle.plan_runs.specs.steps.Skips.{later, latest, word_skip}
use Rattle.plan_runs.proofs.SkipLemmas.{fold_more, one_is_none}
use Rattle.plan_runs.proofs.SumLemmas.{read_more, so_far}
use Rattle.plan_runs.proofs.skipping.variant_skip.Goals as goal

pub loop-word-preserved : goal.loop-word-preserved
loop-word-preserved g c =
    let same = c.deref-word-items.ensures.value in
    let counted = c.word_skip.ensures.counted in
    let then : c.word_skip.new.moves ≤ c.loop-word.moves + term_count c.word-item.result = omega (arith, counted) in
    record {
      skip = fold_more later (word_skip c.args.doc.0 c.args.part) c.args.words.now.items c.deref-word-items.result.now c.loop-word.word-index c.word-item.result (Some c.loop-word.last) (Some c.greater-last.result)
          (latest (map (word_skip c.args.doc.0 c.args.part) c.args.words.now.items)) same c.loop-word-test.true c.word-item.is
          (ap Some c.greater-last.ensures ∙ ap (later (Some c.loop-word.last)) (sym c.in-Some.is ∙ c.word_skip.ensures.says)) c.loop-word.invariant.skip;
      price = read_more term_count c.args.words.now.items c.deref-word-items.result.now same c.loop-word.word-index c.args.moves.now c.word-item.result c.loop-word-test.true c.word-item.is
          c.loop-word.moves c.word_skip.new.moves c.loop-word.invariant.price then;
      grown = omega (arith, c.loop-word.invariant.grown, counted);
    }

pub returns-clause-price : goal.returns-clause-price
returns-clause-price g c = so_far term_count c.args.words.now.items c.loop-word.word-index c.args.moves.now c.loop-word.moves c.loop-word.invariant.price

pub returns-in-None-clause-says : goal.returns-in-None-clause-says
returns-in-None-clause-says g c =
    one_is_none (word_skip c.args.doc.0 c.args.part) c.args.words.now.items c.deref-word-items.result.now c.loop-word.word-index c.word-item.result (Some c.loop-word.last) c.deref-word-items.ensures.value
    c.loop-word-test.true c.word-item.is (sym c.word_skip.ensures.says ∙ c.in-None.is) c.loop-word.invariant.skip

pub returns-in-None-clause-price : goal.returns-in-None-clause-price
returns-in-None-clause-price g c =
    let same = c.deref-word-items.ensures.value in
    let counted = c.word_skip.ensures.counted in
    let then : c.word_skip.new.moves ≤ c.loop-word.moves + term_count c.word-item.result = omega (arith, counted) in
    so_far term_count c.args.words.now.items (c.loop-word.word-index + 1) c.args.moves.now c.word_skip.new.moves
    (read_more term_count c.args.words.now.items c.deref-word-items.result.now same c.loop-word.word-index c.args.moves.now c.word-item.result c.loop-word-test.true c.word-item.is
    c.loop-word.moves c.word_skip.new.moves c.loop-word.invariant.price then)
