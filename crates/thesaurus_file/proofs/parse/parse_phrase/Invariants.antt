-- The phrase has the keys of the words so far.
use Rattle.std.proofs.Common.{◌≡◌, map, take}
use Rattle.text_forms.specs.Forms.{key_of}
use Rattle.text_words.specs.Pieces.{bytes_at}
use Rattle.thesaurus_file.proofs.parse.parse_phrase.Given as goal

abbrev pub invariant-loop-piece : goal.invariant-loop-piece
invariant-loop-piece l = l.phrase ≡ map (λ piece. key_of (bytes_at l.text piece)) (take l.piece-index l.piece-items)
