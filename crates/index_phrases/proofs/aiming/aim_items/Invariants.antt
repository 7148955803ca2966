-- The cursors of the first words were aimed.
use Rattle.std.proofs.Common.{◌≡◌, ◌≤◌, map, take}
use Rattle.place_merges.specs.Sources.{wanted}
use Rattle.index_phrases.specs.steps.Aiming.{own_wanted, size_of, wanted_size}
use Rattle.index_phrases.proofs.aiming.aim_items.Given as goal

abbrev pub invariant-loop-number : goal.invariant-loop-number
invariant-loop-number g l = record {
  terms : l.terms.items ≡ l.fn.terms.items;
  sized : map size_of l.items.items ≡ map wanted_size l.fn.terms.items;
  done : map (wanted (λ cursor. cursor)) (take l.number l.items.items) ≡ map (own_wanted l.target.doc.0 l.target.span) (take l.number l.fn.terms.items);
  grown : l.fn.steps ≤ l.steps;
}
