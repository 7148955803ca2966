-- The parts of a text that a walk over its segments has still to come to.
use Rattle.std.specs.Prelude.{◌≡◌, ℕ, true, List, ◌∷◌, map}
use Rattle.unicode_segmentation.specs.Iter.{word_bound_indices_left}
use Rattle.tokenizer.specs.Parts.{Part, parts_behind}
use Rattle.tokenizer.specs.steps.Behind.{has_word, spares}
use Rattle.tokenizer.specs.steps.SegmentParts.{part_of}
use Rattle.tokenizer.specs.declared.segments.Segment.{Segment}
use Rattle.tokenizer.specs.declared.segments.Segments.{Segments}

unfoldable pub parts_left : List (List ℕ) → Segments → List Part
parts_left abbreviations left =
    parts_behind abbreviations (spares abbreviations left.text.now left.before) (map (λ (x : ℕ × List ℕ). x.1) (word_bound_indices_left left.segments))

-- one step of the walk
pub record Steps (old : Segments) (segment : Segment) (new : Segments) : Type 0 where
  pub parts : (abbreviations : List (List ℕ)) → parts_left abbreviations old ≡ part_of abbreviations old.text.now segment ∷ parts_left abbreviations new
  pub text : new.text.now ≡ old.text.now
  pub before : segment.before ≡ old.before
  pub behind_word : has_word new.before ≡ true → segment.is_word ≡ true
