-- The parts that are left are shapes where all are.
use Rattle.std.proofs.Common.{◌≡◌, drop, map}
use Rattle.counted_shapes.specs.Shapes.{are_shapes}
use Rattle.selection_grammar.specs.Form.{forms_of}
use Rattle.selection_grammar.specs.Tree.{trees_of}
use Rattle.selection_grammar.specs.View.{tree}
use Rattle.selection_faults.proofs.counted.+shape.Given as goal

abbrev pub invariant-are_shapes-loop-part : goal.invariant-are_shapes-loop-part
invariant-are_shapes-loop-part l =
    are_shapes (forms_of (trees_of (map tree (drop l.part-index l.part-items)))) ≡ are_shapes (forms_of (trees_of (map tree l.part-items)))
