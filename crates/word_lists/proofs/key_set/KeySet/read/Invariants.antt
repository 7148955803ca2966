-- What the lines so far have added, with what those left add, is what all add.
use Rattle.std.proofs.Common.{◌≡◌, length}
use Rattle.text_lines.specs.Lists.{read_lines}
use Rattle.word_lists.specs.KeySets.{key_set_of, with_key_line}
use Rattle.word_lists.proofs.key_set.KeySet.read.Given as goal

abbrev pub invariant-loop-line : goal.invariant-loop-line
invariant-loop-line l = record {
  left : key_set_of l.bytes ≡ read_lines with_key_line l.list l.lines;
}

abbrev pub decreases-loop-line : goal.decreases-loop-line
decreases-loop-line l = length l.lines
