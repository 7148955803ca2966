-- What is left of the list, and the start from there on, lead where all of it does.
use Rattle.std.proofs.Common.{◌≡◌, ◌≤◌, length}
use Rattle.phrase_merges.specs.steps.Passing.{left_behind, start_behind}
use Rattle.phrase_merges.proofs.passing.pass_list.Given as goal

abbrev pub invariant-loop-hit : goal.invariant-loop-hit
invariant-loop-hit g l = record {
  aims : (g.P.PhraseHits.state l.list).aims ≡ (g.P.PhraseHits.state l.fn.list).aims;
  hits : (g.P.PhraseHits.state l.list).hits ≡ (g.P.PhraseHits.state l.fn.list).hits;
  left : left_behind l.end (g.P.PhraseHits.state l.list).rest ≡ left_behind l.end (g.P.PhraseHits.state l.fn.list).rest;
  start : start_behind l.end l.start (g.P.PhraseHits.state l.list).rest ≡ start_behind l.end l.fn.start (g.P.PhraseHits.state l.fn.list).rest;
  grown : l.fn.steps ≤ l.steps;
}

abbrev pub decreases-loop-hit : goal.decreases-loop-hit
decreases-loop-hit g l = length (g.P.PhraseHits.state l.list).rest
