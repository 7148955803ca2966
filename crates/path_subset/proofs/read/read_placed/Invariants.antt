-- What is left is read as all symbols are.
use Rattle.std.proofs.Common.{◌≡◌, ◌≤◌, ◌-◌, [], length, drop, map}
use Rattle.path_grammar.specs.steps.Machine as m
use Rattle.path_subset.specs.Answer.{read_from}
use Rattle.path_subset.specs.Paths.{found_form}
use Rattle.path_subset.specs.steps.State.{state_of}
use Rattle.path_subset.proofs.read.read_placed.Given as goal

abbrev pub invariant-loop-next : goal.invariant-loop-next
invariant-loop-next l = record {
  reads : read_from (state_of l.reading.state) (map found_form l.reading.found) 0 (drop l.next l.placed) l.bad l.size ≡ read_from (m.at_root m.nothing) [] 0 l.placed l.bad l.size;
  within : l.next ≤ length l.placed;
}

abbrev pub decreases-loop-next : goal.decreases-loop-next
decreases-loop-next l = length l.placed - l.next
