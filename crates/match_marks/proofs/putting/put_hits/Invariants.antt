-- The places of the hits so far were put.
use Rattle.std.proofs.Common.{◌≡◌, ◌++◌, take}
use Rattle.best_hits.specs.Best.{spans_of}
use Rattle.match_marks.proofs.putting.put_hits.Given as goal

abbrev pub invariant-loop-hit : goal.invariant-loop-hit
invariant-loop-hit l = l.spans.items ≡ l.fn.spans.items ++ spans_of (take l.hit-index l.hits)
