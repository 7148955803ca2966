-- What the lines so far have added, with what those left add, is what all add.
use Rattle.std.proofs.Common.{◌≡◌, length}
use Rattle.text_lines.specs.Lists.{read_lines}
use Rattle.thesaurus_file.specs.Lines.{thesaurus_of, with_line}
use Rattle.thesaurus_file.proofs.thesaurus.Thesaurus.read.Given as goal

abbrev pub invariant-loop-line : goal.invariant-loop-line
invariant-loop-line l = record {
  left : thesaurus_of l.bytes ≡ read_lines with_line l.thesaurus l.lines;
}

abbrev pub decreases-loop-line : goal.decreases-loop-line
decreases-loop-line l = length l.lines
