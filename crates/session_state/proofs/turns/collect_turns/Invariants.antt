-- The turns of the documents so far, and those of the others, are all, and so are the prices; the runs are as they were, over the others too.
use Rattle.std.proofs.Common.{◌≡◌, ◌≤◌, ◌+◌, ◌++◌, map, drop, length, true}
use Rattle.document_store.specs.Loaded.{to_document, trees_of}
use Rattle.session_state.specs.PlannedPaths.{has_cheap_plans}
use Rattle.session_state.specs.SelectionTests.{AreOverEach}
use Rattle.session_state.specs.Standings.{unknown_price}
use Rattle.session_state.specs.steps.Chosen.{price_through}
use Rattle.session_state.specs.steps.Turns.{planned_through, turns_now}
use Rattle.session_state.proofs.turns.collect_turns.Given as goal

abbrev pub invariant-loop-name : goal.invariant-loop-name
invariant-loop-name g l = record {
  turns : l.turns.items
      ++ turns_now l.kept (planned_through g.J.Judge.says g.A.Abbreviated.abbreviations l.path) (drop (length l.turns.items) l.stamps) (map to_document l.name-iterator)
      ≡ turns_now l.kept (planned_through g.J.Judge.says g.A.Abbreviated.abbreviations l.path) l.stamps (map to_document l.documents);
  as_many : length l.turns.items + length l.name-iterator ≡ length l.stamps;
  runs : l.runs ≡ l.fn.runs;
  over : AreOverEach g.A.Abbreviated.abbreviations l.fn.runs (trees_of l.name-iterator);
  moves : l.fn.moves ≤ l.moves;
  price : has_cheap_plans l.path ≡ true
      → l.moves
      + unknown_price l.kept (price_through g.J.Judge.says g.A.Abbreviated.abbreviations l.path l.fn.runs) (drop (length l.turns.items) l.stamps) (map to_document l.name-iterator)
      ≤ l.fn.moves + unknown_price l.kept (price_through g.J.Judge.says g.A.Abbreviated.abbreviations l.path l.fn.runs) l.stamps (map to_document l.documents);
}
