-- The phrases before this one are aimed.
use Rattle.std.proofs.Common.{map}
use Rattle.phrase_merges.specs.Rows.{aims_of, all_aims}
use Rattle.phrase_merges.proofs.AimLemmas.{Making, rests}
use Rattle.phrase_merges.proofs.aiming.aim_all.Given as goal

abbrev pub invariant-loop-number : goal.invariant-loop-number
invariant-loop-number g l =
    let state = g.P.PhraseHits.state in
    Making (λ phrase. aims_of state phrase.items) (rests state l.doc.0 l.span) (map (λ aims. aims.hits l.doc.0 l.span)) (all_aims state l.fn.phrases.items) l.phrases.items l.number l.fn.steps l.steps
