-- What is left leaves as many parentheses open as all symbols do.
use Rattle.std.proofs.Common.{◌≡◌, ◌+◌, ◌≤◌, drop}
use Rattle.ft_parser.specs.Limits.{open_within}
use Rattle.ft_parser.proofs.limits.open_within.Given as goal

abbrev pub invariant-loop-placed : goal.invariant-loop-placed
invariant-loop-placed l = record {
  known : open_within l.count (drop l.placed-index l.symbols) ≡ open_within l.depth l.symbols;
  small : l.count ≤ l.depth + l.placed-index;
}
