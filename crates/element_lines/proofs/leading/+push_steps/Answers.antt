-- The steps to the parent come first; above the root there is nothing.
use Rattle.std.proofs.Common.{◌≡◌, ◌++◌, ap, ◌∙◌, subst, arith, string_bytes, append_assoc}
use Rattle.std.specs.List.{flat_map}
use Rattle.std.specs.Prelude.{OnOk}
use Rattle.ordered_tree.specs.Numbered.{plain, is_element}
use Rattle.ordered_tree.specs.Stands.{OnNode}
use Rattle.path_nodes.specs.References.{element_of}
use Rattle.path_nodes.proofs.ChildrenLemmas.{element_there}
use Rattle.path_nodes.proofs.PlaceLemmas.{one-stand}
use Rattle.path_nodes.proofs.WayLemmas.{Parent, root-of, shorter}
use Rattle.element_lines.specs.Lines.{step_text}
use Rattle.element_lines.specs.LocationSteps.{step, steps_to}
use Rattle.element_lines.proofs.StepLemmas.{element-name}
use Rattle.element_lines.proofs.TextLemmas.{parent-found, text-further, text-root}
use Rattle.element_lines.proofs.leading.+push_steps.Goals as goal

pub parent-requires : goal.parent-requires
parent-requires t c = element_there c.args.tree.now.root c.args.node c.requires.node

pub push_steps-requires : goal.push_steps-requires
push_steps-requires t c =
    let root = c.args.tree.now.root in
    let p : Parent root c.args.node c.in-Some.parent =
    parent-found root c.args.node c.in-Some.parent c.requires.node c.parent.result c.in-Some.is c.parent.ensures.parent in
    (omega (arith, c.decreases, shorter root c.args.node c.in-Some.parent p), (p.there, c.requires.numbers))

pub number_of-requires-clause-parent : goal.number_of-requires-clause-parent
number_of-requires-clause-parent t c =
    let root = c.args.tree.now.root in
    let p : Parent root c.args.node c.in-Some.parent =
    parent-found root c.args.node c.in-Some.parent c.requires.node c.parent.result c.in-Some.is c.parent.ensures.parent in
    p.there

pub number_of-requires-clause-node : goal.number_of-requires-clause-node
number_of-requires-clause-node t c =
    let root = c.args.tree.now.root in
    let p : Parent root c.args.node c.in-Some.parent =
    parent-found root c.args.node c.in-Some.parent c.requires.node c.parent.result c.in-Some.is c.parent.ensures.parent in
    (c.requires.node, p.number, p.place)

pub name-name-requires-clause-there : goal.name-name-requires-clause-there
name-name-requires-clause-there t c = element_there c.args.tree.now.root c.args.node c.requires.node

pub name-name-requires-clause-element : goal.name-name-requires-clause-element
name-name-requires-clause-element t c = λ s among refers.
    ap (λ u. is_element u.node) (one-stand c.args.tree.now.root c.args.node c.requires.node s among refers) ∙ c.requires.node.element

pub name-requires-clause-there : goal.name-requires-clause-there
name-requires-clause-there t c = element_there c.args.tree.now.root c.args.node c.requires.node

pub name-requires-clause-element : goal.name-requires-clause-element
name-requires-clause-element t c = λ s among refers.
    ap (λ u. is_element u.node) (one-stand c.args.tree.now.root c.args.node c.requires.node s among refers) ∙ c.requires.node.element

pub returns-in_ok-number-in-Some-clause-text : goal.returns-in_ok-number-in-Some-clause-text
returns-in_ok-number-in-Some-clause-text t c =
    let root = c.args.tree.now.root in
    let node = c.args.node in
    let x = c.requires.node in
    let p : Parent root node c.in-Some.parent = parent-found root node c.in-Some.parent x c.parent.result c.in-Some.is c.parent.ensures.parent in
    let before = string_bytes c.args.text.now in
    let own = step_text (step c.name-name.result.now c.in_ok-number-in-Some.number) in
    let all : string_bytes c.push_steps.new.text ++ own ≡ before ++ flat_map step_text (steps_to (plain root) (element_of root node).place) =
    ap (λ l. l ++ own) c.in_ok-push_steps-in-Some.ensures.text
    ∙ append_assoc before (flat_map step_text (steps_to (plain root) (element_of root c.in-Some.parent).place)) own
    ∙ ap (λ l. before ++ l) (text-further root node c.in-Some.parent p x c.name-name.result.now c.in_ok-number-in-Some.number
    (element-name root node x c.name-name.result.now c.name-name.ensures) c.in_ok-number-in-Some.ensures.number) in
    subst (λ l. OnOk c.push_step.result (string_bytes c.push_step.new.text ≡ l)) all c.push_step.ensures

pub returns-in-None-clause-text : goal.returns-in-None-clause-text
returns-in-None-clause-text t c =
    let root = c.args.tree.now.root in
    let node = c.args.node in
    let x = c.requires.node in
    let none = root-of root node x (subst (λ o. OnNode root node (λ s. o ≡ s.around.parent)) c.in-None.is c.parent.ensures.parent) in
    let before = string_bytes c.args.text.now in
    let all : before ++ step_text (step c.name.result.now 1) ≡ before ++ flat_map step_text (steps_to (plain root) (element_of root node).place) =
    ap (λ l. before ++ l) (text-root root node x none c.name.result.now (element-name root node x c.name.result.now c.name.ensures)) in
    subst (λ l. OnOk c.push_step-in-None.result (string_bytes c.push_step-in-None.new.text ≡ l)) all c.push_step-in-None.ensures
