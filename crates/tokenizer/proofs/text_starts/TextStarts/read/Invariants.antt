-- Under each set of abbreviations what is known leads from the text to the segments that are left.
use Rattle.std.proofs.Common.{◌≡◌, ◌+◌, ◌≤◌, [], length}
use Rattle.text_words.specs.Words.{words}
use Rattle.tokenizer.specs.steps.SegmentsLeft.{parts_left}
use Rattle.tokenizer.specs.steps.TextsKnown.{IsBehind, Reads, words_known}
use Rattle.tokenizer.proofs.PartsLemmas.{words_among}
use Rattle.tokenizer.proofs.text_starts.TextStarts.read.Given as goal

abbrev pub invariant-loop-segment : goal.invariant-loop-segment
invariant-loop-segment l = record {
  text : l.segments.text.now ≡ l.text;
  behind : IsBehind l.segments.before l.known;
  reads : Reads l.text l.known (λ abbreviations. parts_left abbreviations l.segments);
  counted : words_known l.known + length (words_among (parts_left [] l.segments)) ≡ length (words l.text);
  few : words_known l.known ≤ 2000000000;
}

abbrev pub decreases-loop-segment : goal.decreases-loop-segment
decreases-loop-segment l = length (parts_left [] l.segments)
