-- The hits that were passed begin before the word.
use Rattle.std.proofs.Common.{◌≡◌, ◌≤◌, length}
use Rattle.ft_operators.specs.Tuples.{walk_of}
use Rattle.index_phrases.specs.Cursors.{state_of}
use Rattle.match_marks.specs.steps.WindowRuns.{at_own_hits, hits_left, sought}
use Rattle.match_marks.proofs.window.seek.Given as goal

abbrev pub invariant-loop-phrase : goal.invariant-loop-phrase
invariant-loop-phrase g l = record {
  hits : at_own_hits (walk_of state_of l.phrase) ≡ walk_of state_of l.phrase;
  same : sought l.from (walk_of state_of l.phrase) ≡ sought l.from (walk_of state_of l.fn.phrase);
  grown : l.fn.steps ≤ l.steps;
}

abbrev pub decreases-loop-phrase : goal.decreases-loop-phrase
decreases-loop-phrase g l = length (hits_left (walk_of state_of l.phrase))
