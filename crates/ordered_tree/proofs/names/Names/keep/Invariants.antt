-- A place more comes each time.
use Rattle.std.proofs.Common.{◌-◌, length}
use Rattle.ordered_tree.proofs.names.Names.keep.Given as goal

abbrev pub decreases-loop-self : goal.decreases-loop-self
decreases-loop-self l = 64 - length l.self.seen.items
