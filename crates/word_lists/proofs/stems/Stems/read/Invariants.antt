-- What the lines so far have added, with what those left add, is what all add.
use Rattle.std.proofs.Common.{◌≡◌, length}
use Rattle.text_lines.specs.Lists.{read_lines}
use Rattle.word_lists.specs.Stems.{stems_of, with_stem_line}
use Rattle.word_lists.proofs.stems.Stems.read.Given as goal

abbrev pub invariant-loop-line : goal.invariant-loop-line
invariant-loop-line l = record {
  left : stems_of l.bytes ≡ read_lines with_stem_line l.list l.lines;
}

abbrev pub decreases-loop-line : goal.decreases-loop-line
decreases-loop-line l = length l.lines
