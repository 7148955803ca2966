-- The tree is that of the element.
use Rattle.std.proofs.Common.{◌≡◌, encode_utf8_all, sym, ap, ◌∙◌}
use Rattle.doc_grammar.specs.Printed.{printed}
use Rattle.ordered_tree.specs.Numbered.{plain}
use Rattle.plain_tree.specs.View.{node}
use Rattle.path_nodes.proofs.ChildrenLemmas.{on_element, element_there}
use Rattle.path_nodes.proofs.PlaceLemmas.{element-is}
use Rattle.element_lines.proofs.printed.printed_form.Goals as goal

pub to_tree-requires : goal.to_tree-requires
to_tree-requires c = element_there c.args.tree.now.root c.args.node c.requires

pub returns : goal.returns
returns c =
    let root = c.args.tree.now.root in
    c.in_ok-line.ensures.line
    ∙ ap (λ n. encode_utf8_all (printed n)) (on_element root c.args.node c.requires (λ s. node c.in_ok-element.element ≡ plain s.node) c.in_ok-element.ensures ∙ sym (ap (λ e. e.node) (element-is root c.args.node c.requires)))
