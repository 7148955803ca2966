-- The cursors of the first variants were aimed.
use Rattle.std.proofs.Common.{◌≡◌, ◌≤◌, ◌+◌, ◌*◌, map, take}
use Rattle.std.specs.List.{sum_by}
use Rattle.place_merges.specs.Sources.{all_left}
use Rattle.plan_runs.specs.steps.AskedPlaces.{AreAimed}
use Rattle.plan_runs.specs.steps.RunCosts.{moves_for}
use Rattle.index_phrases.specs.steps.Aiming.{sizes_of, variant_words, wanted_size}
use Rattle.plan_runs.proofs.aiming.aim_variants.Given as goal

abbrev pub invariant-loop-number : goal.invariant-loop-number
invariant-loop-number g l = record {
  terms : map variant_words l.terms.items ≡ map variant_words l.fn.terms.items;
  sized : map sizes_of l.variants.items ≡ map (map wanted_size) (map variant_words l.fn.terms.items);
  aimed : AreAimed l.place (take l.number (map variant_words l.fn.terms.items)) (take l.number l.variants.items);
  price : l.moves + 2 * all_left (λ cursor. cursor) (take l.number l.variants.items) ≤ l.fn.moves + sum_by (sum_by (moves_for l.place)) (take l.number (map variant_words l.fn.terms.items));
  grown : l.fn.moves ≤ l.moves;
}
