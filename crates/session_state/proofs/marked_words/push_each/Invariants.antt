-- The lines so far, then those that are left, are all; the marks are as they were.
use Rattle.std.proofs.Common.{◌≡◌, ◌++◌, drop, map}
use Rattle.session_state.specs.steps.MarkedPlans.{in_turn, words_line}
use Rattle.session_state.proofs.marked_words.push_each.Given as goal

abbrev pub invariant-loop-number : goal.invariant-loop-number
invariant-loop-number g l = record {
  lines : l.lines ++ in_turn (drop l.number l.names) (drop l.number (map (words_line g.A.Abbreviated.abbreviations l.fn.marks.lists l.fn.marks.form l.tree.root) l.found))
      ≡ l.fn.lines ++ in_turn l.names (map (words_line g.A.Abbreviated.abbreviations l.fn.marks.lists l.fn.marks.form l.tree.root) l.found);
  marks : l.marks ≡ l.fn.marks;
}
