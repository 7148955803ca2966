-- The first words stand there.
use Rattle.std.proofs.Common.{◌≡◌, ◌≤◌, ◌+◌, drop, map}
use Rattle.index_phrases.specs.Phrases.{wanted_at}
use Rattle.place_merges.specs.Places.{stands_at}
use Rattle.plan_runs.proofs.edge_holding.words_stand.Given as goal

abbrev pub invariant-loop-number : goal.invariant-loop-number
invariant-loop-number g l = record {
  same : l.words.items ≡ l.fn.words.items;
  says : stands_at (l.part.from + l.number) (map (wanted_at l.place.version.now l.place.doc.0 l.place.span) (drop l.number l.fn.words.items))
      ≡ stands_at l.part.from (map (wanted_at l.place.version.now l.place.doc.0 l.place.span) l.fn.words.items);
  grown : l.fn.moves ≤ l.moves;
}
