-- List by list.
use Rattle.std.proofs.Common.{ap, arith}
use Rattle.ft_operators.specs.Phrases.{PhraseAims, PhraseState}
use Rattle.phrase_merges.specs.Rows.{aims_of}
use Rattle.phrase_merges.proofs.AimLemmas.{count_now, making_on, one_of_all}
use Rattle.phrase_merges.proofs.aiming.aim_each.Goals as goal

pub aim-requires : goal.aim-requires
aim-requires g c =
    let state = g.P.PhraseHits.state in
    let many = count_now (λ source. (state source).aims) (λ source. (state source).rest) (λ (aims : PhraseAims). aims.hits c.args.doc.0 c.args.span)
    c.args.sources.now.items c.loop-number.sources.items c.loop-number.number c.args.steps.now c.loop-number.steps c.loop-number.invariant in
    one_of_all (λ source. (state source).aims) (λ source. (state source).rest) (λ (aims : PhraseAims). aims.hits c.args.doc.0 c.args.span) (λ aims. aims.may c.args.doc.0 c.args.span)
    (aims_of state c.args.sources.now.items) c.loop-number.sources.items c.loop-number.number c.args.steps.now c.loop-number.steps c.index_mut.result.now c.requires c.loop-number.invariant
    (omega (arith, c.loop-number-test.true, c.len-number-end.ensures, many)) c.index_mut.ensures.value

pub loop-number-preserved : goal.loop-number-preserved
loop-number-preserved g c =
    let state = g.P.PhraseHits.state in
    let many = count_now (λ source. (state source).aims) (λ source. (state source).rest) (λ (aims : PhraseAims). aims.hits c.args.doc.0 c.args.span)
    c.args.sources.now.items c.loop-number.sources.items c.loop-number.number c.args.steps.now c.loop-number.steps c.loop-number.invariant in
    making_on (λ source. (state source).aims) (λ source. (state source).rest) (λ (aims : PhraseAims). aims.hits c.args.doc.0 c.args.span)
    (aims_of state c.args.sources.now.items) c.loop-number.sources.items c.loop-number.number c.args.steps.now c.loop-number.steps c.aim.new.steps c.index_mut.result.now c.aim.new.self c.loop-number.invariant
    (omega (arith, c.loop-number-test.true, c.len-number-end.ensures, many)) c.index_mut.ensures.value
    (ap (λ (s : PhraseState). s.aims) c.aim.ensures.moved) (ap (λ (s : PhraseState). s.rest) c.aim.ensures.moved) c.aim.ensures.grown
