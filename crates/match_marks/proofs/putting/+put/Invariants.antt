-- The parts so far were put, or none of them holds.
use Rattle.std.proofs.Common.{◌≡◌, ◌≤◌, ◌+◌, ◌*◌, ◌++◌, drop, flat_map, map, take}
use Rattle.std.specs.List.{sum_by}
use Rattle.match_marks.specs.steps.ShownRuns.{choice_of, choosing, showing}
use Rattle.match_marks.proofs.putting.+put.Given as goal

abbrev pub decreases-put_shown : goal.decreases-put_shown
decreases-put_shown g l = 2 * (showing l.shown.now).weight

abbrev pub decreases-put_each : goal.decreases-put_each
decreases-put_each g l = 2 * sum_by (λ part. part.weight) (map showing l.parts.now.items) + 1

abbrev pub decreases-put_choice : goal.decreases-put_choice
decreases-put_choice g l = 2 * sum_by (λ part. part.weight) (map choosing l.parts.now.items) + 1

abbrev pub decreases-put_if_it_holds : goal.decreases-put_if_it_holds
decreases-put_if_it_holds g l = 2 * (choosing l.run.now).weight

abbrev pub invariant-put_each-loop-number : goal.invariant-put_each-loop-number
invariant-put_each-loop-number g l = record {
  same : map showing l.parts.items ≡ map showing l.fn.parts.items;
  spans : l.spans.items ≡ l.fn.spans.items ++ flat_map (λ part. part.spans l.doc.0 l.span) (take l.number (map showing l.fn.parts.items));
  grown : l.fn.steps ≤ l.steps;
}

abbrev pub invariant-put_choice-loop-number : goal.invariant-put_choice-loop-number
invariant-put_choice-loop-number g l = record {
  same : map choosing l.parts.items ≡ map choosing l.fn.parts.items;
  spans : l.spans.items ≡ l.fn.spans.items;
  rest : (choice_of (drop l.number (map choosing l.fn.parts.items))).spans l.doc.0 l.span ≡ (choice_of (map choosing l.fn.parts.items)).spans l.doc.0 l.span;
  grown : l.fn.steps ≤ l.steps;
}
