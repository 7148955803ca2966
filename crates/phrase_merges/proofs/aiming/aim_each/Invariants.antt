-- The lists before this one are aimed.
use Rattle.phrase_merges.specs.Rows.{aims_of}
use Rattle.phrase_merges.proofs.AimLemmas.{Making}
use Rattle.phrase_merges.proofs.aiming.aim_each.Given as goal

abbrev pub invariant-loop-number : goal.invariant-loop-number
invariant-loop-number g l =
    let state = g.P.PhraseHits.state in
    Making (λ source. (state source).aims) (λ source. (state source).rest) (λ aims. aims.hits l.doc.0 l.span) (aims_of state l.fn.sources.items) l.sources.items l.number l.fn.steps l.steps
