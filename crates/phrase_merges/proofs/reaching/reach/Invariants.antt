-- The hits that were passed begin before the place.
use Rattle.std.proofs.Common.{◌≡◌, ◌≤◌, true, length}
use Rattle.phrase_merges.specs.Rows.{is_rising}
use Rattle.phrase_merges.specs.steps.Ahead.{from_on}
use Rattle.phrase_merges.proofs.reaching.reach.Given as goal

abbrev pub invariant-loop-hit : goal.invariant-loop-hit
invariant-loop-hit g l = record {
  left : from_on l.by l.unit l.place (g.P.PhraseHits.state l.source).rest ≡ from_on l.by l.unit l.place (g.P.PhraseHits.state l.fn.source).rest;
  rises : is_rising (g.P.PhraseHits.state l.source).rest ≡ true;
  aims : (g.P.PhraseHits.state l.source).aims ≡ (g.P.PhraseHits.state l.fn.source).aims;
  grown : l.fn.steps ≤ l.steps;
}

abbrev pub decreases-loop-hit : goal.decreases-loop-hit
decreases-loop-hit g l = length (g.P.PhraseHits.state l.source).rest
