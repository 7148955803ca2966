-- The elements of one tree more are marked, until none is left.
use Rattle.std.proofs.Common.{sym, ◌∙◌, arith}
use Rattle.tree_edits.specs.steps.Marks.{is_marked}
use Rattle.tree_edits.proofs.MarkLemmas.{names_last, names_next}
use Rattle.tree_edits.proofs.marks.+marking.Goals as goal

pub mark_all_elements-loop-tree-preserved : goal.mark_all_elements-loop-tree-preserved
mark_all_elements-loop-tree-preserved t c =
    let inv = c.loop-tree.invariant in
    record {
      size = c.mark_elements.ensures.size ∙ inv.size;
      marked = λ r below.
          names_next r c.args.trees.now c.loop-tree.tree-index c.tree-item.result (is_marked c.mark_elements.new.marks.items r) (is_marked c.loop-tree.marks.items r)
          c.loop-tree-test.true c.tree-item.is (c.mark_elements.ensures.marks r (omega (arith, below, inv.size))) ∙ inv.marked r below;
    }

pub mark_all_elements-returns-clause-marks : goal.mark_all_elements-returns-clause-marks
mark_all_elements-returns-clause-marks t c = λ r below.
    sym (names_last r c.args.trees.now c.loop-tree.tree-index (is_marked c.loop-tree.marks.items r) c.loop-tree-test.false)
    ∙ c.loop-tree.invariant.marked r below
