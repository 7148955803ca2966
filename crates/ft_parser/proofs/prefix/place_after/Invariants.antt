-- What is left leads to the same place.
use Rattle.std.proofs.Common.{◌≡◌, drop}
use Rattle.ft_parser.specs.Prefix.{place_after}
use Rattle.ft_parser.proofs.prefix.place_after.Given as goal

abbrev pub invariant-loop-placed : goal.invariant-loop-placed
invariant-loop-placed l = place_after l.place (drop l.placed-index l.symbols) ≡ place_after l.from l.symbols
