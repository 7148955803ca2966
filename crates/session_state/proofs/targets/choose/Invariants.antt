-- The elements of the documents so far, and those of the others, are all, and so are the prices; the runs are as they were, over the others too.
use Rattle.std.proofs.Common.{◌≡◌, ◌≤◌, ◌+◌, ◌||◌, ◌++◌, List, map, true}
use Rattle.document_store.specs.Loaded.{to_document, trees_of}
use Rattle.ft_base.specs.declared.ids.NodeRef.{NodeRef}
use Rattle.session_state.specs.Edits.{has_root, target_count}
use Rattle.session_state.specs.PlannedPaths.{has_cheap_plans}
use Rattle.session_state.specs.SelectionTests.{AreOverEach}
use Rattle.session_state.specs.steps.Chosen.{planned_places, prices_through, AreLedToEach}
use Rattle.session_state.proofs.targets.choose.Given as goal

abbrev pub invariant-loop-name : goal.invariant-loop-name
invariant-loop-name g l = record {
  refs : (rest : List (List NodeRef)) → AreLedToEach g.J.Judge.says g.A.Abbreviated.abbreviations l.path l.name-iterator rest → AreLedToEach g.J.Judge.says g.A.Abbreviated.abbreviations l.path l.documents (l.chosen.refs ++ rest);
  count : l.chosen.count + target_count (map (planned_places g.J.Judge.says g.A.Abbreviated.abbreviations l.path) (map to_document l.name-iterator))
      ≡ target_count (map (planned_places g.J.Judge.says g.A.Abbreviated.abbreviations l.path) (map to_document l.documents));
  rooted : (has_root (map (planned_places g.J.Judge.says g.A.Abbreviated.abbreviations l.path) (map to_document l.name-iterator)) || l.chosen.has_root)
      ≡ has_root (map (planned_places g.J.Judge.says g.A.Abbreviated.abbreviations l.path) (map to_document l.documents));
  runs : l.runs ≡ l.fn.runs;
  over : AreOverEach g.A.Abbreviated.abbreviations l.fn.runs (trees_of l.name-iterator);
  moves : l.fn.moves ≤ l.moves;
  price : has_cheap_plans l.path ≡ true
      → l.moves + prices_through g.J.Judge.says g.A.Abbreviated.abbreviations l.path l.fn.runs (map to_document l.name-iterator)
      ≤ l.fn.moves + prices_through g.J.Judge.says g.A.Abbreviated.abbreviations l.path l.fn.runs (map to_document l.documents);
}
