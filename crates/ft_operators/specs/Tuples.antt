-- The walk that a value of `Tuples` is.
use Rattle.std.specs.Prelude.{if◌then◌else◌, [], Some, None}
use Rattle.ft_operators.specs.declared.chain_room.ChainRoom.{ChainRoom}
use Rattle.ft_operators.specs.declared.tuples.Tuples.{Tuples}
use Rattle.ft_operators.specs.Phrases.{PhraseState}
use Rattle.ft_operators.specs.Course.{every}
use Rattle.ft_operators.specs.Walk.{Walk}
use Rattle.ft_operators.specs.steps.Nodes.{standing, frame_of}

abbrev pub walk_of : {P : Type 0} → (P → PhraseState) → Tuples P → Walk
walk_of state tuples = record {
  item = tuples.item;
  aims = (frame_of state tuples.node).aims;
  operator = (frame_of state tuples.node).operator;
  rest = if tuples.there then (standing state (every tuples.item) tuples.node).rest else [];
  tuple = if tuples.there then Some tuples.held.items else None;
}

-- the room that a chain must have
abbrev pub room_of : {P : Type 0} → Tuples P → ChainRoom
room_of tuples = tuples.room
