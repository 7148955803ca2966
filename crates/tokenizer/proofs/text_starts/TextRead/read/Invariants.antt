-- Under each set of abbreviations what is known leads from the text to the segments that are left, and the words so far, then those that are left, are all.
use Rattle.std.proofs.Common.{◌≡◌, ◌+◌, ◌≤◌, ◌++◌, [], length}
use Rattle.text_words.specs.Words as W
use Rattle.tokenizer.specs.steps.SegmentsLeft.{parts_left}
use Rattle.tokenizer.specs.steps.TextsKnown.{IsBehind, Reads, words_known}
use Rattle.tokenizer.proofs.PartsLemmas.{words_among}
use Rattle.tokenizer.proofs.text_starts.TextRead.read.Given as goal

abbrev pub invariant-loop-segment : goal.invariant-loop-segment
invariant-loop-segment l = record {
  text : l.segments.text.now ≡ l.text;
  behind : IsBehind l.segments.before l.starts;
  reads : Reads l.text l.starts (λ abbreviations. parts_left abbreviations l.segments);
  counted : words_known l.starts + length (words_among (parts_left [] l.segments)) ≡ length (W.words l.text);
  list : l.words ++ words_among (parts_left [] l.segments) ≡ W.words l.text;
  few : words_known l.starts ≤ l.most;
}

abbrev pub decreases-loop-segment : goal.decreases-loop-segment
decreases-loop-segment l = length (parts_left [] l.segments)
