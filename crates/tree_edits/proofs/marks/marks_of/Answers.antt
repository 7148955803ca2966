-- One reference more is marked, until none is left.
use Rattle.std.proofs.Common.{get_or, sym, ap, ◌∙◌, arith}
use Rattle.std.proofs.lemmas.List.{get_or_default}
use Rattle.ft_base.specs.declared.ids.NodeRef.{NodeRef}
use Rattle.tree_edits.specs.Edits.{is_among}
use Rattle.tree_edits.specs.steps.Marks.{is_marked}
use Rattle.tree_edits.proofs.MarkLemmas.{among_last, among_next}
use Rattle.tree_edits.proofs.marks.marks_of.Goals as goal

pub loop-node-preserved : goal.loop-node-preserved
loop-node-preserved c =
    let inv = c.loop-node.invariant in
    let refs = c.as_slice-node-items.result.now in
    let i = c.loop-node.node-index in
    let none : NodeRef = record { 0 = 0 } in
    let x = get_or refs i none in
    record {
      size = c.mark.ensures.size ∙ inv.size;
      marked = λ r below.
          among_next r x refs i (is_marked c.mark.new.marks.items r) (is_marked c.loop-node.marks.items r)
          c.loop-node-test.true (get_or_default refs i none x c.loop-node-test.true) (c.mark.ensures.marks r (omega (arith, below, inv.size))) ∙ inv.marked r below;
    }

pub returns : goal.returns
returns c = λ r below.
    sym (among_last r c.as_slice-node-items.result.now c.loop-node.node-index (is_marked c.loop-node.marks.items r) c.loop-node-test.false)
    ∙ c.loop-node.invariant.marked r below
    ∙ ap (λ l. is_among l r) c.as_slice-node-items.ensures
