-- What is known of a gap, step by step, and what it says of the gap while the rest is still to come.
use Rattle.std.specs.Prelude.{ℕ, Bool, true, false, ◌&&◌, ◌||◌, List, [], ◌∷◌, if◌then◌else◌}
use Rattle.std.specs.List.{list_any}
use Rattle.ft_base.specs.Characters.{is_blank, is_line_feed}
use Rattle.tokenizer.specs.Gaps.{is_sentence_end, begins_with_line_end, is_block_element, characters_of, ends_paragraph}
use Rattle.tokenizer.specs.Parts.{Part}
use Rattle.tokenizer.specs.declared.gap.Gap.{Gap}
use Rattle.tokenizer.specs.declared.gap_part.GapPart.{GapPart}

abbrev pub after_character : Gap → ℕ → Gap
after_character known c =
    if is_line_feed c then record known { paragraph_ends = known.paragraph_ends || known.after_line_feed; after_line_feed = true }
    else (if is_blank c then known else record known { sentence_ends = known.sentence_ends || is_sentence_end c; after_line_feed = false })

unfoldable pub after_characters : Gap → List ℕ → Gap
after_characters known [] = known
after_characters known (c ∷ cs) = after_characters (after_character known c) cs

abbrev pub after_tag : Gap → List ℕ → Gap
after_tag known name = record known { paragraph_ends = known.paragraph_ends || is_block_element name }

-- what was seen ends a sentence
abbrev pub sentence_ended : Gap → Bool
sentence_ended known = known.sentence_ends || known.paragraph_ends

-- nothing of a gap was seen
abbrev pub nothing_seen : Gap
nothing_seen = record { sentence_ends = false; paragraph_ends = false; after_line_feed = false }

-- what is known of a gap in which a period stands as well
abbrev pub with_period : Gap → Gap
with_period known = record known { sentence_ends = true }

-- the same, where one stands there
abbrev pub with_period_if : Bool → Gap → Gap
with_period_if false known = known
with_period_if true known = with_period known

-- what is known of a gap of which one thing was seen before and another after it
abbrev pub both_seen : Gap → Gap → Gap
both_seen prefix known = record {
  sentence_ends = known.sentence_ends || prefix.sentence_ends;
  paragraph_ends = known.paragraph_ends || prefix.paragraph_ends;
  after_line_feed = known.after_line_feed;
}

-- what is known of a gap after characters of which this is known
abbrev pub after_part : GapPart → Gap → Gap
after_part part prefix = both_seen prefix (if prefix.after_line_feed then part.after_line_feed else part.alone)

-- a paragraph ends in a gap of which `rest` is still to come
abbrev pub paragraph_ends_in : Gap → List Part → Bool
paragraph_ends_in known rest = known.paragraph_ends || (known.after_line_feed && begins_with_line_end (characters_of rest)) || ends_paragraph rest

-- the same of a sentence
abbrev pub sentence_ends_in : Gap → List Part → Bool
sentence_ends_in known rest = known.sentence_ends || paragraph_ends_in known rest || list_any is_sentence_end (characters_of rest)
