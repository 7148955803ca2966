-- At first no line is read, and the list is empty.
use Rattle.std.proofs.Common.{refl}
use Rattle.word_lists.specs.Stems.{stems_of}
use Rattle.word_lists.proofs.stems.Stems.read.Goals as goal

pub loop-line-init : goal.loop-line-init
unfolding stems_of
loop-line-init c = record { left = rw (c.empty-list.ensures, c.of-lines.ensures) refl }
