-- The line of the parent of the element that was named last, and one step more.
use Rattle.std.proofs.Common.{◌≡◌, ◌++◌, IfSome, ap, ◌∙◌, subst, string_bytes}
use Rattle.std.specs.Prelude.{OnOk}
use Rattle.ordered_tree.specs.Numbered.{plain}
use Rattle.path_nodes.specs.References.{element_of}
use Rattle.path_nodes.proofs.WayLemmas.{Parent}
use Rattle.element_lines.specs.Lines.{element_line, step_text}
use Rattle.element_lines.specs.LocationSteps.{step}
use Rattle.element_lines.specs.steps.Children.{IsCounting}
use Rattle.element_lines.proofs.TextLemmas.{line-further}
use Rattle.element_lines.proofs.names.name_line.Goals as goal

pub returns-in-Some-count_to-clause-line : goal.returns-in-Some-count_to-clause-line
returns-in-Some-count_to-clause-line c =
    let root = c.args.tree.now.root in
    let node = c.args.node in
    let parent = c.in-Some.counting.parent in
    let counting : IsCounting root c.in-Some.counting = subst (λ o. IfSome o (IsCounting root)) c.in-Some.is c.requires.known.counting in
    let child = c.in-Some-count_to.ensures.child in
    let p : Parent root node parent = record { there = counting.there; number = child.1; place = child.2 } in
    let name = c.count_to.new.counting.name.now in
    let own = step_text (step name c.in-Some-count_to.number) in
    let all : string_bytes c.clear.new.self ++ c.text.result.now ++ own ≡ element_line c.args.document.now (plain root) (element_of root node) =
    ap (λ l. l ++ c.text.result.now ++ own) c.clear.ensures.bytes
    ∙ ap (λ l. l ++ own) (c.text.ensures ∙ c.requires.known.leading.0 parent (c.is_of.ensures c.if-is_of.true))
    ∙ line-further c.args.document.now root node parent p c.requires.node name c.in-Some-count_to.number
    (ap (λ w. w.now) c.count_to.ensures.name ∙ c.in-Some-count_to.ensures.named) c.in-Some-count_to.ensures.number in
    subst (λ l. OnOk c.push_after.result (string_bytes c.push_after.new.text ≡ l)) all c.push_after.ensures
