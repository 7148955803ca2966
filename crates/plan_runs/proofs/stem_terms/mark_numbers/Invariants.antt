-- The numbers so far are marked, and what was marked still is.
use Rattle.std.proofs.Common.{◌≡◌, length}
use Rattle.plan_runs.specs.steps.MarkedTerms.{KeepsMarks, MarksBetween}
use Rattle.plan_runs.proofs.stem_terms.mark_numbers.Given as goal

abbrev pub invariant-loop-number : goal.invariant-loop-number
invariant-loop-number l = record {
  size : length l.marks.items ≡ length l.fn.marks.items;
  all : MarksBetween l.from l.number l.marks.items;
  kept : KeepsMarks l.fn.marks.items l.marks.items;
}
