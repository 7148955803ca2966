-- The marks are those of the elements.
use Rattle.std.proofs.Common.{ap, ◌∙◌}
use Rattle.std.specs.List.{list_all}
use Rattle.ordered_tree.specs.RefView.{ref_node}
use Rattle.tree_edits.specs.Edits.{names_element}
use Rattle.tree_edits.specs.steps.Marks.{is_marked}
use Rattle.tree_edits.proofs.MarkLemmas.{all_agree, names_marked}
use Rattle.tree_edits.proofs.marks.name_elements.Goals as goal

pub returns : goal.returns
returns c =
    let root = ref_node c.args.tree.now in
    let marks = c.mark_elements.new.marks.items in
    c.are_marked.ensures
    ∙ ap (list_all (is_marked marks)) c.as_slice.ensures
    ∙ all_agree (is_marked marks) (λ r. names_element r root)
    (names_marked c.args.size root marks c.in_ok-marks.marks.items c.requires c.in_ok-marks.ensures c.mark_elements.ensures.size c.mark_elements.ensures.marks) c.args.refs.now
