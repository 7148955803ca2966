-- The options so far.
use Rattle.std.proofs.Common.{◌≡◌}
use Rattle.selection_grammar.specs.Form.{options_of}
use Rattle.selection_faults.proofs.given.options_of.Given as goal

abbrev pub invariant-loop-placed : goal.invariant-loop-placed
invariant-loop-placed l = l.options ≡ options_of l.yielded
