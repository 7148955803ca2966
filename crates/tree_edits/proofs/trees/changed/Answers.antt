-- The tree that was read out has the document's references and elements.
use Rattle.std.proofs.Common.{◌<◌, sym, ap, ◌∙◌, subst}
use Rattle.std.specs.List.{All, list_all}
use Rattle.ft_base.specs.declared.ids.NodeRef.{NodeRef}
use Rattle.ordered_tree.specs.RefView.{ref_node}
use Rattle.ordered_tree.specs.Stands.{references}
use Rattle.tree_edits.specs.Edits.{names_element}
use Rattle.tree_edits.proofs.EditLemmas.{references-are}
use Rattle.tree_edits.proofs.trees.changed.Goals as goal

pub name_elements-requires : goal.name_elements-requires
name_elements-requires c =
    subst (All (λ (r : NodeRef). r.0 < c.slot_count.result)) (references-are (ref_node c.in_ok-old.old))
    (subst (λ root. All (λ (r : NodeRef). r.0 < c.slot_count.result) (references root)) (sym c.in_ok-old.ensures) c.slot_count.ensures.below)

pub returns-in-Ok-clause-there : goal.returns-in-Ok-clause-there
returns-in-Ok-clause-there c =
    ap (λ root. list_all (λ (r : NodeRef). names_element r root) c.args.chosen.now) (sym c.in_ok-old.ensures) ∙ sym c.in-Ok-true.ensures ∙ c.in-Ok-true.field-0-test
