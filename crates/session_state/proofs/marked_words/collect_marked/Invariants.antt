-- The lines of the documents so far, and those of the others, are all, and so are the prices; the runs and the marks are as they were, over the
-- others too.
use Rattle.std.proofs.Common.{◌≡◌, ◌≤◌, ◌+◌, ◌++◌, ◌∷◌, [], map, true}
use Rattle.std.specs.List.{flat_map}
use Rattle.document_store.specs.Loaded.{to_document, trees_of}
use Rattle.session_state.specs.PlannedPaths.{has_cheap_plans}
use Rattle.session_state.specs.SelectionTests.{AreOverEach}
use Rattle.session_state.specs.steps.Chosen.{prices_through}
use Rattle.session_state.specs.steps.MarkedPlans.{marked_through}
use Rattle.session_state.proofs.marked_words.collect_marked.Given as goal

abbrev pub invariant-loop-name : goal.invariant-loop-name
invariant-loop-name g l = record {
  lines : l.lines
      ++ flat_map (marked_through g.J.Judge.says g.A.Abbreviated.abbreviations l.path l.fn.marks.lists l.fn.marks.form) (map to_document l.name-iterator)
      ≡ flat_map (marked_through g.J.Judge.says g.A.Abbreviated.abbreviations l.path l.fn.marks.lists l.fn.marks.form) (map to_document l.documents);
  runs : l.runs ≡ l.fn.runs;
  marks : l.marks ≡ l.fn.marks;
  over : AreOverEach g.A.Abbreviated.abbreviations l.fn.runs (trees_of l.name-iterator);
  marked : AreOverEach g.A.Abbreviated.abbreviations (l.fn.marks ∷ []) (trees_of l.name-iterator);
  moves : l.fn.moves ≤ l.moves;
  price : has_cheap_plans l.path ≡ true
      → l.moves + prices_through g.J.Judge.says g.A.Abbreviated.abbreviations l.path l.fn.runs (map to_document l.name-iterator)
      ≤ l.fn.moves + prices_through g.J.Judge.says g.A.Abbreviated.abbreviations l.path l.fn.runs (map to_document l.documents);
}
