-- What was there, the words so far, then those that are left, are what was there and the whole line.
use Rattle.std.proofs.Common.{◌≡◌, ◌≤◌, ◌++◌, drop, length, map}
use Rattle.std.specs.Prelude.{string_bytes}
use Rattle.element_lines.specs.Marked.{marked_line}
use Rattle.element_lines.specs.steps.LineWords.{words_from}
use Rattle.element_lines.specs.steps.SpanEnds.{end_up_to}
use Rattle.element_lines.proofs.marked.put_line.Given as goal

abbrev pub invariant-loop-number : goal.invariant-loop-number
invariant-loop-number l = record {
  within : l.number ≤ length l.words;
  end : l.end ≡ end_up_to l.spans l.number;
  line : string_bytes l.line ++ words_from l.spans l.number (drop l.number (map (λ word. word.now) l.words))
      ≡ string_bytes l.fn.line ++ marked_line l.spans (map (λ word. word.now) l.words);
}
