-- There are as many slots as cores.
use Rattle.std.proofs.Common.{length, sym, ap, ◌∙◌}
use Rattle.ordered_tree.proofs.PartsLemmas.{length-wholes}
use Rattle.ordered_tree.proofs.slots.Slots.len.Goals as goal

pub returns : goal.returns
returns c = c.len.ensures ∙ sym (length-wholes c.self.inside.cores c.self.inside.heads c.self.invariant.even) ∙ ap length c.self.view_is
