-- What is known after the first strings.
use Rattle.std.proofs.Common.{◌≡◌, map, take}
use Rattle.selection_faults.specs.Strings.{written}
use Rattle.selection_faults.specs.steps.Walk.{after_all}
use Rattle.selection_faults.proofs.strings.pass_words.Given as goal

abbrev pub invariant-loop-string : goal.invariant-loop-string
invariant-loop-string l = l.walk ≡ after_all l.initial.walk (map (written l.words.mode l.wildcards) (take l.string-index l.string-items))
