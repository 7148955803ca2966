-- The first names are looked at, and the set is asked for the others.
use Rattle.std.proofs.Common.{◌∙◌, ap, List, take}
use Rattle.plain_tree.specs.declared.tree.Attr.{Attr}
use Rattle.doc_grammar.specs.Grammar.{has_name}
use Rattle.doc_profile.specs.steps.LaterNames.{few}
use Rattle.doc_profile.proofs.LaterLemmas.{among_later}
use Rattle.doc_profile.proofs.attributes.TagAttributes.has_name.Goals as goal

pub returns-else-is_among : goal.returns-else-is_among
returns-else-is_among c =
    let name = c.args.name.now in
    let attrs = c.self.inside.attrs.items in
    c.contains.ensures ∙ c.self.invariant name
    ∙ among_later name attrs (c.if-is_among.ensures ∙ ap (λ (l : List Attr). has_name name (take few l)) c.deref.ensures.value)
    ∙ ap (has_name name) c.self.view_is
