-- Phrase by phrase.
use Rattle.std.proofs.Common.{ap, sym, ◌∙◌, arith, Some}
use Rattle.phrase_merges.proofs.OrderLemmas.{aims_kept, rising_ends, rising_fails, rising_goes_on, rising_starts}
use Rattle.phrase_merges.proofs.in_order.begin_in_order.Goals as goal

pub loop-number-init : goal.loop-number-init
loop-number-init g c = rising_starts g.P.PhraseHits.state c.args.phrases.now.items c.args.steps.now c.requires

pub returns-in-None-clause-ordered : goal.returns-in-None-clause-ordered
returns-in-None-clause-ordered g c =
    sym (rising_fails g.P.PhraseHits.state c.args.phrases.now.items c.loop-number.phrases.items c.loop-number.place c.loop-number.number c.args.steps.now c.loop-number.steps
    c.index_mut-phrase.result.now c.loop-number.invariant (omega (arith, c.loop-number-test.true, c.len-number-end.ensures, c.loop-number.invariant.long)) c.index_mut-phrase.ensures.value c.in-None.ensures.least)

pub returns-in-None-clause-aims : goal.returns-in-None-clause-aims
returns-in-None-clause-aims g c =
    aims_kept g.P.PhraseHits.state c.args.phrases.now.items c.loop-number.phrases.items c.loop-number.place c.loop-number.number c.args.steps.now c.loop-number.steps
    c.index_mut-phrase.result.now c.least_number.new.sources c.loop-number.invariant (omega (arith, c.loop-number-test.true, c.len-number-end.ensures, c.loop-number.invariant.long)) c.index_mut-phrase.ensures.value
    c.least_number.ensures.aims

pub loop-number-preserved : goal.loop-number-preserved
loop-number-preserved g c =
    rising_goes_on g.P.PhraseHits.state c.args.phrases.now.items c.loop-number.phrases.items c.loop-number.place c.loop-number.number c.args.steps.now c.loop-number.steps c.least_number.new.steps
    c.index_mut-phrase.result.now c.least_number.new.sources c.from-place.result c.loop-number.invariant (omega (arith, c.loop-number-test.true, c.len-number-end.ensures, c.loop-number.invariant.long))
    c.index_mut-phrase.ensures.value (ap Some c.from-place.ensures ∙ c.in-Some.ensures.least) c.least_number.ensures.rises c.least_number.ensures.aims c.least_number.ensures.grown

pub returns-clause-ordered : goal.returns-clause-ordered
returns-clause-ordered g c =
    sym (rising_ends g.P.PhraseHits.state c.args.phrases.now.items c.loop-number.phrases.items c.loop-number.place c.loop-number.number c.args.steps.now c.loop-number.steps
    c.loop-number.invariant (omega (arith, c.loop-number-test.false, c.len-number-end.ensures, c.loop-number.invariant.long)))
