-- What is left of the options decides, with those before.
use Rattle.std.proofs.Common.{◌≡◌, take, drop}
use Rattle.selection_faults.specs.Options.{second_option, second_after}
use Rattle.selection_faults.proofs.options.second_option.Given as goal

abbrev pub invariant-loop-i : goal.invariant-loop-i
invariant-loop-i l = second_option l.options ≡ second_after (take l.i l.options) (drop l.i l.options)
