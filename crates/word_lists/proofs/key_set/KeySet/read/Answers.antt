-- At first no line is read, and the list is empty.
use Rattle.std.proofs.Common.{refl}
use Rattle.word_lists.specs.KeySets.{key_set_of}
use Rattle.word_lists.proofs.key_set.KeySet.read.Goals as goal

pub loop-line-init : goal.loop-line-init
unfolding key_set_of
loop-line-init c = record { left = rw (c.empty-list.ensures, c.of-lines.ensures) refl }
