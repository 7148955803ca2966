-- A tree is passed as its inside is, and that as the operands are.
use Rattle.phrase_merges.proofs.PassageLemmas.{seen_Phrase, seen_Either, seen_Both, seen_Within, view_Phrase, view_Either, view_Both, view_Within}
use Rattle.phrase_merges.proofs.PassingLemmas.{moved_inside, moved_either, moved_both, moved_within}
use Rattle.phrase_merges.proofs.passing.+pass.Goals as goal

pub pass-returns-in-Phrase-clause-moved : goal.pass-returns-in-Phrase-clause-moved
pass-returns-in-Phrase-clause-moved g t c =
    let state = g.P.PhraseHits.state in
    moved_inside c.args.end _ _ _ _ _ (seen_Phrase state c.args.tree.now c.in-Phrase.phrase c.in-Phrase.is) (view_Phrase state _) c.pass_phrase.ensures.moved

pub pass-returns-in-Either-clause-moved : goal.pass-returns-in-Either-clause-moved
pass-returns-in-Either-clause-moved g t c =
    let state = g.P.PhraseHits.state in
    moved_inside c.args.end _ _ _ _ _ (seen_Either state c.args.tree.now c.in-Either.pair c.deref_mut.result.now c.in-Either.is c.deref_mut.ensures.value) (view_Either state _) c.pass_either.ensures.moved

pub pass-returns-in-Both-clause-moved : goal.pass-returns-in-Both-clause-moved
pass-returns-in-Both-clause-moved g t c =
    let state = g.P.PhraseHits.state in
    moved_inside c.args.end _ _ _ _ _ (seen_Both state c.args.tree.now c.in-Both.pair c.deref_mut-in-Both.result.now c.in-Both.is c.deref_mut-in-Both.ensures.value) (view_Both state _) c.pass_both.ensures.moved

pub pass-returns-in-Within-clause-moved : goal.pass-returns-in-Within-clause-moved
pass-returns-in-Within-clause-moved g t c =
    let state = g.P.PhraseHits.state in
    moved_inside c.args.end _ _ _ _ _ (seen_Within state c.args.tree.now c.in-Within.window c.deref_mut-in-Within.result.now c.in-Within.is c.deref_mut-in-Within.ensures.value) (view_Within state _) c.pass_window.ensures.moved

pub pass_either-returns-clause-moved : goal.pass_either-returns-clause-moved
pass_either-returns-clause-moved g t c =
    moved_either c.args.end _ _ _ _ _ _ _ _ c.pass-left.ensures.moved c.pass-right.ensures.moved c.later.ensures c.soonest.ensures

pub pass_both-returns-clause-moved : goal.pass_both-returns-clause-moved
pass_both-returns-clause-moved g t c =
    moved_both c.args.end _ _ _ _ _ _ _ _ c.pass-left.ensures.moved c.pass-right.ensures.moved c.earlier.ensures c.soonest.ensures

pub pass_window-returns-clause-moved : goal.pass_window-returns-clause-moved
pass_window-returns-clause-moved g t c =
    moved_within c.args.end _ _ _ _ _ _ _ c.pass-inside.ensures.moved c.later-window.ensures c.start_within.ensures
