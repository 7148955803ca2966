-- The pieces so far, then those of the words that are left, are all; each segment that is left is a piece of the text.
use Rattle.std.proofs.Common.{◌≡◌, ◌++◌, map, filter}
use Rattle.std.specs.List.{All}
use Rattle.unicode_segmentation.specs.Iter.{word_bound_indices_left}
use Rattle.unicode_segmentation.proofs.SegmentsLemmas as S
use Rattle.text_words.specs.Pieces.{piece_of}
use Rattle.text_words.specs.Words.{is_word, words_with_places}
use Rattle.text_words.proofs.words.words_of.Given as goal

abbrev pub invariant-loop-from : goal.invariant-loop-from
invariant-loop-from l = record {
  so_far : l.pieces.items ++ map piece_of (filter (λ (_, segment). is_word segment) (word_bound_indices_left l.from-iterator)) ≡ map piece_of (words_with_places l.text);
  inside : All (S.IsPieceOf l.text) (word_bound_indices_left l.from-iterator);
}
