-- A phrase holds one hit at once.
use Rattle.std.proofs.Common.{◌∙◌, ap, arith}
use Rattle.ft_operators.specs.Walk.{before_first, nowhere}
use Rattle.ft_operators.proofs.FrameLemmas.{frame_Phrase, shape_Phrase}
use Rattle.ft_operators.proofs.tuples.Tuples.one.Goals as goal

pub unaimed-requires-clause-fits : goal.unaimed-requires-clause-fits
unaimed-requires-clause-fits g c = let room = ap (λ s. s.room) (shape_Phrase g.P.PhraseHits.state c.args.phrase) in omega (arith, c.in_ok-held.ensures.capacity)

pub unaimed-requires-clause-filters : goal.unaimed-requires-clause-filters
unaimed-requires-clause-filters g c =
    let filters = ap (λ s. s.filters) (shape_Phrase g.P.PhraseHits.state c.args.phrase) in omega (arith, ap (λ r. r.filters) c.no_room.ensures)

pub unaimed-requires-clause-hits : goal.unaimed-requires-clause-hits
unaimed-requires-clause-hits g c =
    let hits = ap (λ s. s.hits) (shape_Phrase g.P.PhraseHits.state c.args.phrase) in omega (arith, ap (λ r. r.hits) c.no_room.ensures)

pub returns : goal.returns
returns g c = c.unaimed.ensures ∙ ap (λ f. before_first nowhere f.aims f.operator) (frame_Phrase g.P.PhraseHits.state c.args.phrase)
