-- What is known after the first parts.
use Rattle.std.proofs.Common.{◌≡◌, map, take}
use Rattle.selection_grammar.specs.Tree.{trees_of}
use Rattle.selection_grammar.specs.View.{tree}
use Rattle.selection_faults.specs.Strings.{strings_inside_all}
use Rattle.selection_faults.specs.steps.Walk.{after_all}
use Rattle.selection_faults.proofs.strings.+pass.Given as goal

abbrev pub invariant-pass_parts-loop-part : goal.invariant-pass_parts-loop-part
invariant-pass_parts-loop-part l = l.walk ≡ after_all l.initial.walk (strings_inside_all l.wildcards (trees_of (map tree (take l.part-index l.part-items))))
