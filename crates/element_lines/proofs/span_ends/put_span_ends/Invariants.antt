-- The ends so far and those of the spans that are left are all.
use Rattle.std.proofs.Common.{◌≡◌, ◌<◌, ℕ, drop, get_or, length, max}
use Rattle.element_lines.specs.steps.SpanEnds.{end_at}
use Rattle.element_lines.proofs.span_ends.put_span_ends.Given as goal

abbrev pub invariant-loop-span : goal.invariant-loop-span
invariant-loop-span l = record {
  size : length l.ends.items ≡ l.fn.count;
  ends : (place : ℕ) → place < l.fn.count → max (get_or l.ends.items place 0) (end_at (drop l.span-index l.spans) place) ≡ end_at l.spans place;
}
