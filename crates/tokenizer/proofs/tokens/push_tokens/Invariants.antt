-- The tokens so far, then those of the segments that are left, are all; no number is greater than their count.
use Rattle.std.proofs.Common.{◌≡◌, ◌≤◌, List, ◌++◌, length}
use Rattle.ft_base.specs.declared.limits.TheConstants.{MAX_TOKENS}
use Rattle.tokenizer.specs.Parts.{Part, parts_of_text}
use Rattle.tokenizer.specs.steps.Numbering.{tokens_left}
use Rattle.tokenizer.specs.steps.SegmentsLeft.{parts_left}
use Rattle.tokenizer.proofs.tokens.push_tokens.Given as goal

abbrev pub invariant-loop-segment : goal.invariant-loop-segment
invariant-loop-segment l = record {
  text : l.segments.text.now ≡ l.text;
  left : (rest : List Part) → l.fn.out.items ++ tokens_left l.fn.last (parts_of_text l.abbreviations l.text ++ rest) ≡ l.out.items ++ tokens_left l.last (parts_left l.abbreviations l.segments ++ rest);
  few : length l.out.items ≤ MAX_TOKENS;
  sentence : l.last.sentence ≤ length l.out.items;
  paragraph : l.last.paragraph ≤ length l.out.items;
}

abbrev pub decreases-loop-segment : goal.decreases-loop-segment
decreases-loop-segment l = length (parts_left l.abbreviations l.segments)
