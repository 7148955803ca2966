-- The least places in the first parts.
use Rattle.std.proofs.Common.{◌≡◌, map, take}
use Rattle.selection_grammar.specs.View.{tree}
use Rattle.selection_faults.specs.LeastPlaces.{least_places_of}
use Rattle.selection_faults.proofs.least_places.+least.Given as goal

abbrev pub invariant-of_parts-loop-part : goal.invariant-of_parts-loop-part
invariant-of_parts-loop-part l = l.least ≡ least_places_of (map tree (take l.part-index l.part-items))
