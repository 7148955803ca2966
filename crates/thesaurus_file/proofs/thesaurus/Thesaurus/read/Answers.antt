-- At first no line is read, and the thesaurus is empty.
use Rattle.std.proofs.Common.{refl}
use Rattle.thesaurus_file.specs.Lines.{thesaurus_of}
use Rattle.thesaurus_file.proofs.thesaurus.Thesaurus.read.Goals as goal

pub loop-line-init : goal.loop-line-init
unfolding thesaurus_of
loop-line-init c = record { left = rw (c.empty-thesaurus.ensures, c.of-lines.ensures) refl }
