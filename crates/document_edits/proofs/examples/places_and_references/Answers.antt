-- By computation.
use Rattle.std.proofs.Common.{refl}
use Rattle.ordered_tree.specs.Numbering.{numbered, children_numbered}
use Rattle.path_nodes.specs.References.{child_spots, element_of, spots}
use Rattle.document_edits.proofs.examples.places_and_references.Goals as goal

pub returns-clause-places : goal.returns-clause-places
unfolding element_of spots child_spots
returns-clause-places c = refl

pub returns-clause-with_texts : goal.returns-clause-with_texts
unfolding element_of spots child_spots
returns-clause-with_texts c = refl

pub returns-clause-numbers : goal.returns-clause-numbers
unfolding numbered children_numbered
returns-clause-numbers c = refl

pub returns-clause-edited : goal.returns-clause-edited
unfolding numbered children_numbered
returns-clause-edited c = refl

pub returns-clause-content : goal.returns-clause-content
unfolding numbered children_numbered
returns-clause-content c = refl
