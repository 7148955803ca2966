-- The machine stands between two constructs, and no limit is passed so far.
use Rattle.std.proofs.Common.{◌-◌, length}
use Rattle.ft_parser.specs.steps.State.{state_of}
use Rattle.ft_parser.proofs.ScanLaws.{Stands}
use Rattle.ft_parser.proofs.scan.scan_symbols.Given as goal

abbrev pub invariant-loop-state : goal.invariant-loop-state
invariant-loop-state l = Stands l.symbols (state_of l.state) l.next l.depth

abbrev pub decreases-loop-state : goal.decreases-loop-state
decreases-loop-state l = length l.symbols - l.next
