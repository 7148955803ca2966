-- The value that is found is that of the first attribute of the name.
use Rattle.std.proofs.Common.{Some, None, ap, ◌∙◌}
use Rattle.path_meaning.specs.Meaning.{has_value}
use Rattle.ordered_tree.specs.Numbered.{attribute, attrs_of}
use Rattle.path_nodes.proofs.ChildrenLemmas.{element_there}
use Rattle.path_nodes.proofs.AttributeLemmas.{element-value}
use Rattle.path_nodes.proofs.attributes.has_attribute.Goals as goal

pub attr-requires : goal.attr-requires
attr-requires c = element_there c.args.tree.now.root c.args.node c.requires

pub returns-in-Some : goal.returns-in-Some
returns-in-Some c =
    c.is_wanted.ensures
    ∙ ap (has_value c.args.value.now)
    (element-value c.args.tree.now.root c.args.node c.requires c.args.name.now (Some c.in-Some.found.now)
    (λ s among refers. c.in-Some.ensures s among refers ∙ ap (λ n. attribute n (attrs_of s.node)) c.as_str.ensures))

pub returns-in-None : goal.returns-in-None
returns-in-None c =
    ap (has_value c.args.value.now)
    (element-value c.args.tree.now.root c.args.node c.requires c.args.name.now None
    (λ s among refers. c.in-None.ensures s among refers ∙ ap (λ n. attribute n (attrs_of s.node)) c.as_str.ensures))
