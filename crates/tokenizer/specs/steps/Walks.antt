-- The tags and texts to which a walk has still to come.
use Rattle.std.specs.Prelude.{List, [], ◌∷◌, ◌++◌, map, drop, flat_map, option_to_list}
use Rattle.plain_tree.specs.Document.{nodes}
use Rattle.plain_tree.specs.View.{node}
use Rattle.tokenizer.specs.Parts.{Event, tag, characters, events, events_of}
use Rattle.tokenizer.specs.declared.walk.Event.{Event as Step}
use Rattle.tokenizer.specs.declared.walk.Event.TheVariants.{Tag, Text}
use Rattle.tokenizer.specs.declared.walk.Open.{Open}
use Rattle.tokenizer.specs.declared.walk.Walk.{Walk}

abbrev pub event_of : Step → Event
event_of (Tag name) = tag name.now
event_of (Text text) = characters text.now

-- the children of an open element that were not begun, and its end tag
abbrev pub open_left : Open → List Event
open_left element = events_of (nodes (map node (drop element.begun element.kids.now))) ++ tag element.name.now ∷ []

-- the same of open elements, the innermost of which is the last
unfoldable pub stack_left : List Open → List Event
stack_left [] = []
stack_left (outer ∷ inner) = stack_left inner ++ open_left outer

unfoldable pub events_left : Walk → List Event
events_left walk = flat_map (λ root. events (node root.now)) (option_to_list walk.root) ++ stack_left walk.elements.items
