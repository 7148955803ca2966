-- The lines of the documents so far, and those of the others, are all, and so are the prices; the runs are as they were, over the others too.
use Rattle.std.proofs.Common.{◌≡◌, ◌≤◌, ◌+◌, ◌++◌, map, true}
use Rattle.std.specs.List.{flat_map}
use Rattle.session_state.specs.PlannedPaths.{has_cheap_plans, planned_lines, prices_in}
use Rattle.session_state.specs.SelectionTests.{AreOverEach}
use Rattle.document_store.specs.Loaded.{to_document, trees_of}
use Rattle.session_state.proofs.selected.collect_all.Given as goal

abbrev pub invariant-loop-name : goal.invariant-loop-name
invariant-loop-name g l = record {
  lines : l.lines ++ flat_map (planned_lines g.J.Judge.says g.A.Abbreviated.abbreviations l.shown l.path) (map to_document l.name-iterator)
      ≡ flat_map (planned_lines g.J.Judge.says g.A.Abbreviated.abbreviations l.shown l.path) (map to_document l.documents);
  runs : l.runs ≡ l.fn.runs;
  over : AreOverEach g.A.Abbreviated.abbreviations l.fn.runs (trees_of l.name-iterator);
  moves : l.fn.moves ≤ l.moves;
  price : has_cheap_plans l.path ≡ true
      → l.moves + prices_in g.J.Judge.says g.A.Abbreviated.abbreviations l.path l.fn.runs (map to_document l.name-iterator)
      ≤ l.fn.moves + prices_in g.J.Judge.says g.A.Abbreviated.abbreviations l.path l.fn.runs (map to_document l.documents);
}
