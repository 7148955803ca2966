-- The name is that of the element.
use Rattle.std.proofs.Common.{sym, ap, ◌∙◌}
use Rattle.path_grammar.specs.declared.path.NameTest.TheVariants as T
use Rattle.path_meaning.specs.Meaning.{is_named}
use Rattle.path_nodes.specs.References.{element_of}
use Rattle.path_nodes.proofs.ChildrenLemmas.{element_there}
use Rattle.path_nodes.proofs.PlaceLemmas.{element-named}
use Rattle.path_nodes.proofs.names.is_named.Goals as goal

pub is_named-requires : goal.is_named-requires
is_named-requires c = element_there c.args.tree.now.root c.args.node c.requires

pub returns-in-Name : goal.returns-in-Name
returns-in-Name c =
    element-named c.args.tree.now.root c.args.node c.requires c.test.inside.name.name.now c.is_named.result c.is_named.ensures
    ∙ ap (λ t. is_named t (element_of c.args.tree.now.root c.args.node).node)
    (ap T.Name (c.test.inside.same c.in-Name.field-0 c.in-Name.is) ∙ (sym c.in-Name.is ∙ c.test.view_is))
