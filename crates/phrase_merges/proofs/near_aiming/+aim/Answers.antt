-- A tree is aimed as its inside is, and that as the operands are.
use Rattle.std.proofs.Common.{ap, sym, ◌∙◌, arith}
use Rattle.phrase_merges.specs.NearTrees.{aims_at, passage_of}
use Rattle.phrase_merges.proofs.PassageLemmas.{seen_Phrase, seen_Either, seen_Both, seen_Within, view_Phrase, view_Either, view_Both, view_Within}
use Rattle.phrase_merges.proofs.PassingLemmas.{aimed_both, aimed_inside, aimed_pair, aimed_within, heavier_both, heavier_either, heavier_within, may_both, may_sides, may_within}
use Rattle.phrase_merges.proofs.near_aiming.+aim.Goals as goal

pub aim-aim_phrase-requires : goal.aim-aim_phrase-requires
aim-aim_phrase-requires g t c =
    ap (λ p. (aims_at p).may c.args.doc.0 c.args.span) (sym (seen_Phrase g.P.PhraseHits.state c.args.tree.now c.in-Phrase.phrase c.in-Phrase.is)) ∙ c.requires

pub aim-aim_pair-requires : goal.aim-aim_pair-requires
aim-aim_pair-requires g t c κs within =
    let is = seen_Either g.P.PhraseHits.state c.args.tree.now c.in-Either.pair c.deref_mut.result.now c.in-Either.is c.deref_mut.ensures.value in
    (omega (arith, c.decreases, heavier_either _ _ _ is), (within.0, (within.1, ap (λ p. (aims_at p).may c.args.doc.0 c.args.span) (sym is) ∙ c.requires)))

pub aim-aim_pair-requires-in-Both : goal.aim-aim_pair-requires-in-Both
aim-aim_pair-requires-in-Both g t c κs within =
    let is = seen_Both g.P.PhraseHits.state c.args.tree.now c.in-Both.pair c.deref_mut-in-Both.result.now c.in-Both.is c.deref_mut-in-Both.ensures.value in
    (omega (arith, c.decreases, heavier_both _ _ _ is), (within.0, (within.1, may_both _ _ _ _ (ap (λ p. (aims_at p).may c.args.doc.0 c.args.span) (sym is) ∙ c.requires))))

pub aim-aim_window-requires : goal.aim-aim_window-requires
aim-aim_window-requires g t c κs within =
    let is = seen_Within g.P.PhraseHits.state c.args.tree.now c.in-Within.window c.deref_mut-in-Within.result.now c.in-Within.is c.deref_mut-in-Within.ensures.value in
    (omega (arith, c.decreases, heavier_within _ _ _ _ is), (within.0, (within.1, ap (λ p. (aims_at p).may c.args.doc.0 c.args.span) (sym is) ∙ c.requires)))

pub aim-returns-in-Phrase-clause-aimed : goal.aim-returns-in-Phrase-clause-aimed
aim-returns-in-Phrase-clause-aimed g t c =
    let state = g.P.PhraseHits.state in
    aimed_inside c.args.doc.0 c.args.span _ _ _ _ _ (seen_Phrase state c.args.tree.now c.in-Phrase.phrase c.in-Phrase.is) (view_Phrase state _) c.aim_phrase.ensures.aimed

pub aim-returns-in-Either-clause-aimed : goal.aim-returns-in-Either-clause-aimed
aim-returns-in-Either-clause-aimed g t c =
    let state = g.P.PhraseHits.state in
    aimed_inside c.args.doc.0 c.args.span _ _ _ _ _ (seen_Either state c.args.tree.now c.in-Either.pair c.deref_mut.result.now c.in-Either.is c.deref_mut.ensures.value) (view_Either state _) c.aim_pair.ensures.aimed

pub aim-returns-in-Both-clause-aimed : goal.aim-returns-in-Both-clause-aimed
aim-returns-in-Both-clause-aimed g t c =
    let state = g.P.PhraseHits.state in
    aimed_inside c.args.doc.0 c.args.span _ _ _ _ _ (seen_Both state c.args.tree.now c.in-Both.pair c.deref_mut-in-Both.result.now c.in-Both.is c.deref_mut-in-Both.ensures.value) (view_Both state _)
    (aimed_both c.args.doc.0 c.args.span _ _ _ _ _ c.aim_pair-in-Both.ensures.aimed)

pub aim-returns-in-Within-clause-aimed : goal.aim-returns-in-Within-clause-aimed
aim-returns-in-Within-clause-aimed g t c =
    let state = g.P.PhraseHits.state in
    aimed_inside c.args.doc.0 c.args.span _ _ _ _ _ (seen_Within state c.args.tree.now c.in-Within.window c.deref_mut-in-Within.result.now c.in-Within.is c.deref_mut-in-Within.ensures.value) (view_Within state _)
    c.aim_window.ensures.aimed

pub aim_pair-aim-left-requires : goal.aim_pair-aim-left-requires
aim_pair-aim-left-requires g t c κs within =
    let at = passage_of g.P.PhraseHits.state in
    (omega (arith, c.decreases), (within.0, (within.1, (may_sides (at c.args.pair.now.left) (at c.args.pair.now.right) c.args.doc.0 c.args.span c.requires).0)))

pub aim_pair-aim-right-requires : goal.aim_pair-aim-right-requires
aim_pair-aim-right-requires g t c κs within =
    let at = passage_of g.P.PhraseHits.state in
    (omega (arith, c.decreases), (within.0, (within.1, (may_sides (at c.args.pair.now.left) (at c.args.pair.now.right) c.args.doc.0 c.args.span c.requires).1)))

pub aim_pair-returns-clause-aimed : goal.aim_pair-returns-clause-aimed
aim_pair-returns-clause-aimed g t c =
    aimed_pair c.args.doc.0 c.args.span _ _ _ _ _ _ _ c.aim-left.ensures.aimed c.aim-right.ensures.aimed c.soonest.ensures

pub aim_window-aim-requires : goal.aim_window-aim-requires
aim_window-aim-requires g t c κs within =
    (omega (arith, c.decreases), (within.0, (within.1, may_within _ _ _ _ _ c.requires)))

pub aim_window-returns-clause-aimed : goal.aim_window-returns-clause-aimed
aim_window-returns-clause-aimed g t c = aimed_within c.args.doc.0 c.args.span _ _ _ _ _ c.aim.ensures.aimed
