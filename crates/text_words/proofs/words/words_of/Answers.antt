-- A segment that is a word becomes one piece more, another none, and the pieces cut the words out of the text.
use Rattle.std.proofs.Common.{sym, ap, ◌∙◌, map, filter, ◌++◌, refl}
use Rattle.std.proofs.lemmas.List.Elements.{All-rest, All-same}
use Rattle.unicode_segmentation.specs.Word.{is_word_break}
use Rattle.unicode_segmentation.proofs.SegmentsLemmas.{All-IsPieceOf}
use Rattle.unicode_segmentation.proofs.SegmentsLemmas as S
use Rattle.text_words.specs.Pieces.{piece_of, bytes_at, IsPieceOf}
use Rattle.text_words.proofs.WordsLemmas.{holds_word, kept, passed, finished, words-cut, words-inside}
use Rattle.text_words.proofs.words.words_of.Goals as goal

pub loop-from-init : goal.loop-from-init
loop-from-init c = record {
  so_far = rw (c.new-pieces.ensures.items, c.into_iter-from-iterator.ensures.into_iter_gives, c.split_word_bound_indices-from-items.ensures.left) refl;
  inside = rw (c.into_iter-from-iterator.ensures.into_iter_gives, c.split_word_bound_indices-from-items.ensures.left) (All-IsPieceOf is_word_break _ c.utf8.text);
}

pub loop-from-preserved-in-Continue-1 : goal.loop-from-preserved-in-Continue-1
loop-from-preserved-in-Continue-1 c = record {
  so_far = rw c.in_ok-push.ensures.items (sym (kept holds_word piece_of (c.in-Some.from, c.in-Some.segment.now) _ c.loop-from.pieces.items (sym c.if-is_word.ensures))
      ∙ ap (λ l. c.loop-from.pieces.items ++ map piece_of (filter holds_word l)) (sym c.in-Some.ensures.steps) ∙ c.loop-from.invariant.so_far);
  inside = All-rest (S.IsPieceOf c.args.text.now) _ _ _ c.in-Some.ensures.steps c.loop-from.invariant.inside;
}

pub loop-from-preserved : goal.loop-from-preserved
loop-from-preserved c = record {
  so_far = sym (passed holds_word piece_of (c.in-Some.from, c.in-Some.segment.now) _ c.loop-from.pieces.items (sym c.if-is_word.ensures))
      ∙ ap (λ l. c.loop-from.pieces.items ++ map piece_of (filter holds_word l)) (sym c.in-Some.ensures.steps) ∙ c.loop-from.invariant.so_far;
  inside = All-rest (S.IsPieceOf c.args.text.now) _ _ _ c.in-Some.ensures.steps c.loop-from.invariant.inside;
}

pub returns-clause-words : goal.returns-clause-words
returns-clause-words c =
    ap (map (bytes_at c.args.text.now)) (finished holds_word piece_of _ _ _ c.in-None.ensures.steps.0 c.loop-from.invariant.so_far)
    ∙ words-cut c.args.text.now c.utf8.text

pub returns-clause-inside : goal.returns-clause-inside
returns-clause-inside c =
    All-same (IsPieceOf c.args.text.now) _ _ (finished holds_word piece_of _ _ _ c.in-None.ensures.steps.0 c.loop-from.invariant.so_far)
    (words-inside c.args.text.now c.utf8.text)
