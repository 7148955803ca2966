-- Phrase by phrase.
use Rattle.std.proofs.Common.{arith}
use Rattle.phrase_merges.specs.steps.Ahead.{number_at}
use Rattle.phrase_merges.proofs.PhraseLemmas.{left_after, reach_fails, reach_goes_on, same_length}
use Rattle.phrase_merges.proofs.farthest.farthest.Goals as goal

pub returns-in-None-clause-farthest : goal.returns-in-None-clause-farthest
returns-in-None-clause-farthest g c =
    let state = g.P.PhraseHits.state in
    let many = same_length state c.args.by c.args.unit c.args.place c.args.phrases.now.items c.loop-number.phrases.items c.loop-number.invariant.left in
    reach_fails state c.args.by c.args.unit (number_at c.args.edge c.args.unit) c.args.place c.args.phrases.now.items c.loop-number.phrases.items c.loop-number.number c.loop-number.far c.args.steps.now c.loop-number.steps
    c.index_mut.result.now c.loop-number.invariant (omega (arith, c.loop-number-test.true, c.len-number-end.ensures, many)) c.index_mut.ensures.value c.in-None.ensures.least

pub returns-in-None-clause-left : goal.returns-in-None-clause-left
returns-in-None-clause-left g c =
    let state = g.P.PhraseHits.state in
    let many = same_length state c.args.by c.args.unit c.args.place c.args.phrases.now.items c.loop-number.phrases.items c.loop-number.invariant.left in
    let after = left_after state c.args.by c.args.unit (number_at c.args.edge c.args.unit) c.args.place c.args.phrases.now.items c.loop-number.phrases.items c.loop-number.number c.loop-number.far
    c.args.steps.now c.loop-number.steps c.least_number.new.steps c.index_mut.result.now c.least_number.new.sources c.loop-number.invariant
    (omega (arith, c.loop-number-test.true, c.len-number-end.ensures, many)) c.index_mut.ensures.value
    c.least_number.ensures.left c.least_number.ensures.rises c.least_number.ensures.aims c.least_number.ensures.grown in
    after.left

pub returns-in-None-clause-rises : goal.returns-in-None-clause-rises
returns-in-None-clause-rises g c =
    let state = g.P.PhraseHits.state in
    let many = same_length state c.args.by c.args.unit c.args.place c.args.phrases.now.items c.loop-number.phrases.items c.loop-number.invariant.left in
    let after = left_after state c.args.by c.args.unit (number_at c.args.edge c.args.unit) c.args.place c.args.phrases.now.items c.loop-number.phrases.items c.loop-number.number c.loop-number.far
    c.args.steps.now c.loop-number.steps c.least_number.new.steps c.index_mut.result.now c.least_number.new.sources c.loop-number.invariant
    (omega (arith, c.loop-number-test.true, c.len-number-end.ensures, many)) c.index_mut.ensures.value
    c.least_number.ensures.left c.least_number.ensures.rises c.least_number.ensures.aims c.least_number.ensures.grown in
    after.rises

pub returns-in-None-clause-aims : goal.returns-in-None-clause-aims
returns-in-None-clause-aims g c =
    let state = g.P.PhraseHits.state in
    let many = same_length state c.args.by c.args.unit c.args.place c.args.phrases.now.items c.loop-number.phrases.items c.loop-number.invariant.left in
    let after = left_after state c.args.by c.args.unit (number_at c.args.edge c.args.unit) c.args.place c.args.phrases.now.items c.loop-number.phrases.items c.loop-number.number c.loop-number.far
    c.args.steps.now c.loop-number.steps c.least_number.new.steps c.index_mut.result.now c.least_number.new.sources c.loop-number.invariant
    (omega (arith, c.loop-number-test.true, c.len-number-end.ensures, many)) c.index_mut.ensures.value
    c.least_number.ensures.left c.least_number.ensures.rises c.least_number.ensures.aims c.least_number.ensures.grown in
    after.aims

pub loop-number-preserved : goal.loop-number-preserved
loop-number-preserved g c =
    let state = g.P.PhraseHits.state in
    let many = same_length state c.args.by c.args.unit c.args.place c.args.phrases.now.items c.loop-number.phrases.items c.loop-number.invariant.left in
    reach_goes_on state c.args.by c.args.unit (number_at c.args.edge c.args.unit) c.args.place c.args.phrases.now.items c.loop-number.phrases.items c.loop-number.number c.loop-number.far
    c.args.steps.now c.loop-number.steps c.least_number.new.steps c.index_mut.result.now c.least_number.new.sources c.in-Some.end c.max-far.result c.loop-number.invariant
    (omega (arith, c.loop-number-test.true, c.len-number-end.ensures, many)) c.index_mut.ensures.value c.in-Some.ensures.least c.max-far.ensures
    c.least_number.ensures.left c.least_number.ensures.rises c.least_number.ensures.aims c.least_number.ensures.grown
