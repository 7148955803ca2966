-- What is asked for of the parts that are left is asked for of all.
use Rattle.std.proofs.Common.{◌≡◌, drop, map}
use Rattle.counted_shapes.specs.Held.{each_needs_hit, some_needs_hit}
use Rattle.selection_grammar.specs.Form.{forms_of}
use Rattle.selection_grammar.specs.Tree.{trees_of}
use Rattle.selection_grammar.specs.View.{tree}
use Rattle.selection_faults.proofs.counted.+hit.Given as goal

abbrev pub invariant-each_needs_hit-loop-part : goal.invariant-each_needs_hit-loop-part
invariant-each_needs_hit-loop-part l =
    each_needs_hit (forms_of (trees_of (map tree (drop l.part-index l.part-items)))) ≡ each_needs_hit (forms_of (trees_of (map tree l.part-items)))

abbrev pub invariant-some_needs_hit-loop-part : goal.invariant-some_needs_hit-loop-part
invariant-some_needs_hit-loop-part l =
    some_needs_hit (forms_of (trees_of (map tree (drop l.part-index l.part-items)))) ≡ some_needs_hit (forms_of (trees_of (map tree l.part-items)))
