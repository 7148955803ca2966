-- At first all segments of the text are left, and they stand in it.
use Rattle.std.proofs.Common.{◌≡◌, ℕ, List, All, true, false, sym, ap, ◌∙◌, map, subst, arith}
use Rattle.unicode_segmentation.specs.Iter.{word_bound_indices_left}
use Rattle.unicode_segmentation.specs.Word.{word_bounds}
use Rattle.unicode_segmentation.proofs.SegmentsLemmas.{map-with_offsets}
use Rattle.tokenizer.specs.Parts.{parts_behind}
use Rattle.tokenizer.specs.steps.Behind.{has_word, spares}
use Rattle.tokenizer.specs.steps.SegmentParts.{IsSegmentOf}
use Rattle.tokenizer.specs.steps.SegmentsLeft.{parts_left}
use Rattle.tokenizer.proofs.SegmentsLemmas.{All-IsSegmentOf}
use Rattle.tokenizer.proofs.segments.Segments.new.Goals as goal

pub invariant_of-result : goal.invariant_of-result
invariant_of-result c = record {
  short = omega (arith, c.if-text-gt4294967295.false);
  inside = subst (All (IsSegmentOf c.args.text.now)) (sym c.split_word_bound_indices.ensures.left) (All-IsSegmentOf c.args.text.now c.utf8.text);
  before_stands = λ has. (let no_word : false ≡ true = sym (ap has_word c.none.ensures) ∙ has in cc);
}

pub returns-clause-parts : goal.returns-clause-parts
unfolding parts_left
returns-clause-parts c abbreviations =
    let text = c.args.text.now in
    ap (λ word. parts_behind abbreviations (spares abbreviations text word) (map (λ (x : ℕ × List ℕ). x.1) (word_bound_indices_left c.split_word_bound_indices.result))) c.none.ensures
    ∙ ap (λ l. parts_behind abbreviations false (map (λ (x : ℕ × List ℕ). x.1) l)) c.split_word_bound_indices.ensures.left
    ∙ ap (parts_behind abbreviations false) (map-with_offsets 0 (word_bounds text))
