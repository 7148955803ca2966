-- An element with one text in it that isn't empty is a document.
use Rattle.std.proofs.Common.{◌∙◌, ap, map, not, ◌&&◌, true, false, [], ◌∷◌, ◌++◌}
use Rattle.ft_base.specs.Lists.{is_empty}
use Rattle.plain_tree.specs.Document.{element, is_document, nodes}
use Rattle.plain_tree.specs.View.{node}
use Rattle.plain_tree.specs.declared.tree.Tree.TheVariants.{Text}
use Rattle.plain_tree.proofs.Views.{node_elem, node_text}
use Rattle.index_tests.proofs.updates.full.Goals as goal

pub from_tree-requires : goal.from_tree-requires
from_tree-requires c =
    let name = c.in_ok-name.name in
    let attrs = c.new-attrs.result in
    let text = c.in_ok-text.text in
    ap is_document (node_elem name attrs c.push.new.self
    ∙ ap (λ kids. element name attrs (nodes (map node kids))) (c.in_ok-push.ensures.ok ∙ ap (λ kids. kids ++ Text text ∷ []) c.new-kids.ensures)
    ∙ ap (λ kid. element name attrs (nodes (kid ∷ []))) (node_text text))
    ∙ ap (λ empty. not empty && not (true && false) && true) (ap is_empty c.in_ok-text.ensures ∙ c.requires)
