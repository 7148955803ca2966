-- What holds after the first options.
use Rattle.std.proofs.Common.{◌≡◌, take}
use Rattle.selection_faults.specs.Strings.{wildcards_inside}
use Rattle.selection_faults.proofs.options.wildcards_inside.Given as goal

abbrev pub invariant-loop-option : goal.invariant-loop-option
invariant-loop-option l = l.wildcards ≡ wildcards_inside l.around (take l.option-index l.options)
