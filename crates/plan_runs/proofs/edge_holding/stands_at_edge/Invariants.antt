-- None of the first variants stands there.
use Rattle.std.proofs.Common.{◌≡◌, ◌≤◌, drop, map}
use Rattle.std.specs.List.{list_any}
use Rattle.index_phrases.specs.Phrases.{wanted_at}
use Rattle.index_phrases.specs.steps.Aiming.{variant_words}
use Rattle.spot_merges.specs.Edges.{stands_at_edge}
use Rattle.plan_runs.proofs.edge_holding.stands_at_edge.Given as goal

abbrev pub invariant-loop-number : goal.invariant-loop-number
invariant-loop-number g l = record {
  same : map variant_words l.variants.items ≡ map variant_words l.fn.variants.items;
  says : list_any (λ words. stands_at_edge l.edge l.place.span (map (wanted_at l.place.version.now l.place.doc.0 l.place.span) words)) (drop l.number (map variant_words l.fn.variants.items))
      ≡ list_any (λ words. stands_at_edge l.edge l.place.span (map (wanted_at l.place.version.now l.place.doc.0 l.place.span) words)) (map variant_words l.fn.variants.items);
  grown : l.fn.moves ≤ l.moves;
}
