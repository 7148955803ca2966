-- The words so far were added.
use Rattle.std.proofs.Common.{◌≡◌, ◌++◌, map, take}
use Rattle.text_words.specs.Pieces.{bytes_at}
use Rattle.all_matches.specs.Variants.{word}
use Rattle.match_options.specs.Items.{item}
use Rattle.match_options.proofs.item.push_words.Given as goal

abbrev pub invariant-loop-piece : goal.invariant-loop-piece
invariant-loop-piece l = map item l.items ≡ map item l.fn.items ++ map word (map (bytes_at l.text) (take l.piece-index l.piece-items))
