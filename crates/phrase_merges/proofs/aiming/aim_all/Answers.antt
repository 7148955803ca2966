-- Phrase by phrase.
use Rattle.std.proofs.Common.{map, arith}
use Rattle.std.specs.List.{list_all}
use Rattle.ft_operators.specs.Phrases.{PhraseAims}
use Rattle.phrase_merges.specs.Rows.{aims_of, all_aims}
use Rattle.phrase_merges.proofs.AimLemmas.{count_now, hits_aimed, making_ends, making_on, one_of_all, rests, rising_aimed}
use Rattle.phrase_merges.proofs.aiming.aim_all.Goals as goal

pub aim_each-requires : goal.aim_each-requires
aim_each-requires g c =
    let state = g.P.PhraseHits.state in
    let many = count_now (λ phrase. aims_of state phrase.items) (rests state c.args.doc.0 c.args.span) (map (λ (aims : PhraseAims). aims.hits c.args.doc.0 c.args.span))
    c.args.phrases.now.items c.loop-number.phrases.items c.loop-number.number c.args.steps.now c.loop-number.steps c.loop-number.invariant in
    one_of_all (λ phrase. aims_of state phrase.items) (rests state c.args.doc.0 c.args.span) (map (λ (aims : PhraseAims). aims.hits c.args.doc.0 c.args.span))
    (list_all (λ aims. aims.may c.args.doc.0 c.args.span))
    (all_aims state c.args.phrases.now.items) c.loop-number.phrases.items c.loop-number.number c.args.steps.now c.loop-number.steps c.index_mut.result.now c.requires.may c.loop-number.invariant
    (omega (arith, c.loop-number-test.true, c.len-number-end.ensures, many)) c.index_mut.ensures.value

pub loop-number-preserved : goal.loop-number-preserved
loop-number-preserved g c =
    let state = g.P.PhraseHits.state in
    let many = count_now (λ phrase. aims_of state phrase.items) (rests state c.args.doc.0 c.args.span) (map (λ (aims : PhraseAims). aims.hits c.args.doc.0 c.args.span))
    c.args.phrases.now.items c.loop-number.phrases.items c.loop-number.number c.args.steps.now c.loop-number.steps c.loop-number.invariant in
    making_on (λ phrase. aims_of state phrase.items) (rests state c.args.doc.0 c.args.span) (map (λ (aims : PhraseAims). aims.hits c.args.doc.0 c.args.span))
    (all_aims state c.args.phrases.now.items) c.loop-number.phrases.items c.loop-number.number c.args.steps.now c.loop-number.steps c.aim_each.new.steps c.index_mut.result.now c.aim_each.new.sources
    c.loop-number.invariant (omega (arith, c.loop-number-test.true, c.len-number-end.ensures, many)) c.index_mut.ensures.value
    c.aim_each.ensures.aims c.aim_each.ensures.hits c.aim_each.ensures.grown

pub returns-clause-hits : goal.returns-clause-hits
returns-clause-hits g c =
    let state = g.P.PhraseHits.state in
    let many = count_now (λ phrase. aims_of state phrase.items) (rests state c.args.doc.0 c.args.span) (map (λ (aims : PhraseAims). aims.hits c.args.doc.0 c.args.span))
    c.args.phrases.now.items c.loop-number.phrases.items c.loop-number.number c.args.steps.now c.loop-number.steps c.loop-number.invariant in
    hits_aimed state c.args.doc.0 c.args.span c.loop-number.phrases.items (all_aims state c.args.phrases.now.items)
    (making_ends (λ phrase. aims_of state phrase.items) (rests state c.args.doc.0 c.args.span) (map (λ (aims : PhraseAims). aims.hits c.args.doc.0 c.args.span))
    (all_aims state c.args.phrases.now.items) c.loop-number.phrases.items c.loop-number.number c.args.steps.now c.loop-number.steps c.loop-number.invariant
    (omega (arith, c.loop-number-test.false, c.len-number-end.ensures, many)))

pub returns-clause-rises : goal.returns-clause-rises
returns-clause-rises g c =
    let state = g.P.PhraseHits.state in
    let many = count_now (λ phrase. aims_of state phrase.items) (rests state c.args.doc.0 c.args.span) (map (λ (aims : PhraseAims). aims.hits c.args.doc.0 c.args.span))
    c.args.phrases.now.items c.loop-number.phrases.items c.loop-number.number c.args.steps.now c.loop-number.steps c.loop-number.invariant in
    rising_aimed state c.args.doc.0 c.args.span c.loop-number.phrases.items (all_aims state c.args.phrases.now.items)
    (making_ends (λ phrase. aims_of state phrase.items) (rests state c.args.doc.0 c.args.span) (map (λ (aims : PhraseAims). aims.hits c.args.doc.0 c.args.span))
    (all_aims state c.args.phrases.now.items) c.loop-number.phrases.items c.loop-number.number c.args.steps.now c.loop-number.steps c.loop-number.invariant
    (omega (arith, c.loop-number-test.false, c.len-number-end.ensures, many))) c.requires.rising
