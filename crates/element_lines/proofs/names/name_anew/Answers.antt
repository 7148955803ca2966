-- The line of an element's parent, and one step more; above the root there is nothing.
use Rattle.std.proofs.Common.{◌≡◌, ◌++◌, ap, ◌∙◌, subst, append_assoc, string_bytes}
use Rattle.std.specs.Prelude.{OnOk}
use Rattle.ordered_tree.specs.Numbered.{plain, is_element}
use Rattle.ordered_tree.specs.Stands.{OnNode}
use Rattle.path_nodes.specs.References.{element_of}
use Rattle.path_nodes.proofs.ChildrenLemmas.{element_there}
use Rattle.path_nodes.proofs.PlaceLemmas.{one-stand}
use Rattle.path_nodes.proofs.WayLemmas.{Parent, root-of}
use Rattle.element_lines.specs.Lines.{element_line, step_text}
use Rattle.element_lines.specs.LocationSteps.{step}
use Rattle.element_lines.proofs.StepLemmas.{element-name}
use Rattle.element_lines.proofs.TextLemmas.{line-further, line-root, parent-found}
use Rattle.element_lines.proofs.names.name_anew.Goals as goal

pub parent-requires : goal.parent-requires
parent-requires c = element_there c.args.tree.now.root c.args.node c.requires.node

pub lead_to-requires-clause-parent : goal.lead_to-requires-clause-parent
lead_to-requires-clause-parent c =
    let p : Parent c.args.tree.now.root c.args.node c.in-Some.parent =
    parent-found c.args.tree.now.root c.args.node c.in-Some.parent c.requires.node c.parent.result c.in-Some.is c.parent.ensures.parent in
    p.there

pub number_of-requires-clause-parent : goal.number_of-requires-clause-parent
number_of-requires-clause-parent c =
    let p : Parent c.args.tree.now.root c.args.node c.in-Some.parent =
    parent-found c.args.tree.now.root c.args.node c.in-Some.parent c.requires.node c.parent.result c.in-Some.is c.parent.ensures.parent in
    p.there

pub number_of-requires-clause-node : goal.number_of-requires-clause-node
number_of-requires-clause-node c =
    let p : Parent c.args.tree.now.root c.args.node c.in-Some.parent =
    parent-found c.args.tree.now.root c.args.node c.in-Some.parent c.requires.node c.parent.result c.in-Some.is c.parent.ensures.parent in
    (c.requires.node, p.number, p.place)

pub name-name-requires-clause-there : goal.name-name-requires-clause-there
name-name-requires-clause-there c = element_there c.args.tree.now.root c.args.node c.requires.node

pub name-name-requires-clause-element : goal.name-name-requires-clause-element
name-name-requires-clause-element c = λ s among refers.
    ap (λ u. is_element u.node) (one-stand c.args.tree.now.root c.args.node c.requires.node s among refers) ∙ c.requires.node.element

pub returns-in_ok-number-in-Some-clause-line : goal.returns-in_ok-number-in-Some-clause-line
returns-in_ok-number-in-Some-clause-line c =
    let root = c.args.tree.now.root in
    let own = step_text (step c.name-name.result.now c.in_ok-number-in-Some.number) in
    let before = string_bytes c.args.line.now in
    let all : before ++ c.text.result.now ++ own ≡ before ++ element_line c.args.document.now (plain root) (element_of root c.args.node) =
    append_assoc before c.text.result.now own
    ∙ ap (λ l. before ++ (l ++ own)) (c.text.ensures ∙ c.in_ok-lead_to-in-Some.ensures.text)
    ∙ ap (λ l. before ++ l) (line-further c.args.document.now root c.args.node c.in-Some.parent
    (parent-found c.args.tree.now.root c.args.node c.in-Some.parent c.requires.node c.parent.result c.in-Some.is c.parent.ensures.parent) c.requires.node c.name-name.result.now c.in_ok-number-in-Some.number
    (element-name root c.args.node c.requires.node c.name-name.result.now c.name-name.ensures) c.in_ok-number-in-Some.ensures.number) in
    subst (λ l. OnOk c.push_after.result (string_bytes c.push_after.new.text ≡ l)) all c.push_after.ensures

pub returns-in-None-clause-line : goal.returns-in-None-clause-line
returns-in-None-clause-line c =
    let root = c.args.tree.now.root in
    let none = root-of root c.args.node c.requires.node (subst (λ o. OnNode root c.args.node (λ s. o ≡ s.around.parent)) c.in-None.is c.parent.ensures.parent) in
    subst (λ l. OnOk c.push_root.result (string_bytes c.push_root.new.text ≡ string_bytes c.args.line.now ++ l))
    (line-root c.args.document.now root c.args.node c.requires.node none c.name-name.result.now
    (element-name root c.args.node c.requires.node c.name-name.result.now c.name-name.ensures)) c.push_root.ensures
