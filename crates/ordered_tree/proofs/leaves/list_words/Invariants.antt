-- The texts so far are the bytes of the pieces up to the next one.
use Rattle.std.proofs.Common.{◌≡◌, map, take}
use Rattle.text_words.specs.Pieces.{bytes_at}
use Rattle.ordered_tree.proofs.leaves.list_words.Given as goal

abbrev pub invariant-loop-piece : goal.invariant-loop-piece
invariant-loop-piece l = l.list ≡ map (bytes_at l.text) (take l.piece-index l.piece-items)
