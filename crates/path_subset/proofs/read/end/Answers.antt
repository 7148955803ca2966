-- The last symbol.
use Rattle.path_subset.proofs.Extents.{ends_last}
use Rattle.path_subset.proofs.read.end.Goals as goal

pub returns-in-Some : goal.returns-in-Some
returns-in-Some c = ends_last c.args.symbols.now c.in-Some.placed.now c.in-Some.ensures.value
