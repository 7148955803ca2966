-- The starts in the segments that are left, with those that were seen, are all; so are the words.
use Rattle.std.proofs.Common.{◌≡◌, ◌+◌, List, ◌++◌, length}
use Rattle.text_words.specs.Words.{words}
use Rattle.tokenizer.specs.Parts.{Part, parts_of_text}
use Rattle.tokenizer.specs.steps.SegmentsLeft.{parts_left}
use Rattle.tokenizer.specs.steps.StartsLeft.{sentences_in, paragraphs_in}
use Rattle.tokenizer.proofs.PartsLemmas.{words_among}
use Rattle.tokenizer.proofs.breaks.pass_text.Given as goal

abbrev pub invariant-loop-segment : goal.invariant-loop-segment
invariant-loop-segment l = record {
  text : l.segments.text.now ≡ l.text;
  sentences : (rest : List Part) → sentences_in l.fn.starts (parts_of_text l.abbreviations l.text ++ rest) ≡ sentences_in l.starts (parts_left l.abbreviations l.segments ++ rest);
  paragraphs : (rest : List Part) → paragraphs_in l.fn.starts (parts_of_text l.abbreviations l.text ++ rest) ≡ paragraphs_in l.starts (parts_left l.abbreviations l.segments ++ rest);
  words : l.starts.words + length (words_among (parts_left l.abbreviations l.segments)) ≡ l.fn.starts.words + length (words l.text);
}

abbrev pub decreases-loop-segment : goal.decreases-loop-segment
decreases-loop-segment l = length (parts_left l.abbreviations l.segments)
