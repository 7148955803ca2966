-- The cursors of the first words were aimed.
use Rattle.std.proofs.Common.{◌≡◌, ◌≤◌, ◌+◌, map, take}
use Rattle.std.specs.List.{sum_by}
use Rattle.plan_runs.specs.steps.RunCosts.{term_count}
use Rattle.place_merges.specs.Sources.{wanted}
use Rattle.index_phrases.specs.steps.Aiming.{size_of, wanted_size}
use Rattle.plan_runs.specs.steps.AskedPlaces.{wanted_at}
use Rattle.plan_runs.proofs.aiming.aim_items.Given as goal

abbrev pub invariant-loop-number : goal.invariant-loop-number
invariant-loop-number g l = record {
  terms : l.terms.items ≡ l.fn.terms.items;
  sized : map size_of l.items.items ≡ map wanted_size l.fn.terms.items;
  done : map (wanted (λ cursor. cursor)) (take l.number l.items.items) ≡ map (wanted_at l.place) (take l.number l.fn.terms.items);
  price : l.moves ≤ l.fn.moves + sum_by term_count (take l.number l.fn.terms.items);
  grown : l.fn.moves ≤ l.moves;
}
