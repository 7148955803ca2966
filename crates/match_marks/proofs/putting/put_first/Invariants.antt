-- The places of the ways so far were put, and the walk is at the next one.
use Rattle.std.proofs.Common.{◌≡◌, ◌≤◌, ◌++◌, drop, flat_map, take}
use Rattle.ft_base.specs.Lists.{is_not_empty}
use Rattle.all_matches.specs.Ways.{way_includes}
use Rattle.best_hits.specs.Best.{spans_of}
use Rattle.ft_operators.specs.Tuples.{walk_of}
use Rattle.ft_operators.specs.Walk.{aimed_walk, walk_at}
use Rattle.index_phrases.specs.Cursors.{state_of}
use Rattle.plan_runs.specs.steps.OpenedOperators.{aims_of}
use Rattle.match_marks.specs.steps.ShownRuns.{ways_there}
use Rattle.match_marks.proofs.putting.put_first.Given as goal

abbrev pub invariant-loop-number : goal.invariant-loop-number
invariant-loop-number g l =
    let ways = ways_there (aims_of l.fn.run.tuples) l.fn.doc.0 l.fn.span in
    record {
      walk : walk_of state_of l.run.tuples ≡ walk_at (drop l._number ways) (aimed_walk l.fn.doc.0 l.fn.span (walk_of state_of l.fn.run.tuples));
      there : l.there ≡ is_not_empty (drop l._number ways);
      spans : l.spans.items ≡ l.fn.spans.items ++ spans_of (flat_map way_includes (take l._number ways));
      most : l.run.most ≡ l.fn.run.most;
      grown : l.fn.steps ≤ l.steps;
    }
