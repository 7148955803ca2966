-- The phrases before this one are at their first hits.
use Rattle.ft_operators.specs.Tuples.{walk_of}
use Rattle.index_phrases.specs.Cursors.{state_of}
use Rattle.phrase_merges.proofs.ListLoops.{Changing}
use Rattle.match_marks.specs.steps.WindowRuns.{started}
use Rattle.match_marks.proofs.window.aim_each.Given as goal

abbrev pub invariant-loop-number : goal.invariant-loop-number
invariant-loop-number g l = Changing (started l.doc.0 l.span) (walk_of state_of) l.fn.phrases.items l.phrases.items l.number l.fn.steps l.steps
