-- The starts that were seen, with those in the tags and texts that are left, are the document's; each step leaves fewer.
use Rattle.std.proofs.Common.{◌≡◌, ◌+◌, flat_map, length}
use Rattle.tokenizer.specs.Parts.{parts_of_event}
use Rattle.tokenizer.specs.steps.StartsLeft.{sentences_in, paragraphs_in}
use Rattle.tokenizer.specs.Tokens.{tokens, words_in, sentence_starts, paragraph_starts}
use Rattle.tokenizer.specs.steps.Walks.{events_left}
use Rattle.tokenizer.proofs.PartsLemmas.{words_among}
use Rattle.tokenizer.proofs.breaks.breaks_of.Given as goal

abbrev pub invariant-loop-walk : goal.invariant-loop-walk
invariant-loop-walk l = record {
  sentences : sentence_starts (tokens l.abbreviations l.doc) ≡ sentences_in l.starts (flat_map (parts_of_event l.abbreviations) (events_left l.walk));
  paragraphs : paragraph_starts (tokens l.abbreviations l.doc) ≡ paragraphs_in l.starts (flat_map (parts_of_event l.abbreviations) (events_left l.walk));
  words : l.starts.words + length (words_among (flat_map (parts_of_event l.abbreviations) (events_left l.walk))) ≡ length (words_in l.doc);
}

abbrev pub decreases-loop-walk : goal.decreases-loop-walk
decreases-loop-walk l = length (events_left l.walk)
