-- The elements that a walk has still to offer.
use Rattle.std.specs.Prelude.{Bool, List, [], ◌∷◌, flat_map, reverse, if◌then◌else◌}
use Rattle.ordered_tree.specs.Numbered.{Numbered}
use Rattle.path_meaning.specs.Elements.{Element}
use Rattle.path_nodes.specs.References.{IsElement, element_of}
use Rattle.path_nodes.specs.declared.offering.Stop.{Stop}
use Rattle.path_nodes.specs.steps.Kept.{offered, offered_from}

-- each stop is at an element of the document
abbrev pub IsStop : Numbered → Stop → Type 0
IsStop root stop = IsElement root stop.node

module _ (root : Numbered) where
  -- the element of a stop, where it is offered itself: where it isn't a context
  abbrev pub itself : Stop → List Element
  itself stop = if stop.context then [] else element_of root stop.node ∷ []

  module _ (deep : Bool) where
    -- what a stop offers: of a context what is below it, and else the element itself and, where the step is deep, what is below it
    abbrev pub offered_at : Stop → List Element
    offered_at stop = if stop.context then offered deep (element_of root stop.node) else offered_from deep (element_of root stop.node)

    -- what several offer, the last one first
    abbrev pub to_come : List Stop → List Element
    to_come stops = flat_map offered_at (reverse stops)
