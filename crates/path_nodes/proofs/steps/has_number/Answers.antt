-- The next predicate is a number, or one of those after it is where one of the rest is.
use Rattle.std.proofs.Common.{◌≤◌, ◌+◌, ◌||◌, drop, length, map, sym, ap, ◌∙◌, arith}
use Rattle.std.proofs.lemmas.List.{drop_more, drop_all}
use Rattle.path_grammar.specs.Form as form
use Rattle.path_grammar.specs.View as view
use Rattle.path_nodes.specs.steps.Kept.{some_number, has_number}
use Rattle.path_nodes.proofs.AskedLemmas.{step-is}
use Rattle.path_nodes.proofs.steps.has_number.Goals as goal

pub loop-predicate-init : goal.loop-predicate-init
loop-predicate-init c = ap (λ l. some_number (form.predicates (map view.predicate l))) c.as_slice-predicate-items.ensures ∙ sym (ap has_number (step-is c.args.step.now))

pub loop-predicate-preserved : goal.loop-predicate-preserved
loop-predicate-preserved c =
    let items = c.as_slice-predicate-items.result.now in
    let i = c.loop-predicate.predicate-index in
    let d = c.predicate-item.result in
    let rest = some_number (form.predicates (map view.predicate (drop (i + 1) items))) in
    let says = rw c.predicate-item.is at (sym c.is_number.ensures ∙ c.if-is_number.false) in
    sym (ap (λ l. some_number (form.predicates (map view.predicate l))) (drop_more items i d c.loop-predicate-test.true) ∙ ap (λ b. b || rest) says) ∙ c.loop-predicate.invariant

pub returns-then-is_number : goal.returns-then-is_number
returns-then-is_number c =
    let items = c.as_slice-predicate-items.result.now in
    let i = c.loop-predicate.predicate-index in
    let d = c.predicate-item.result in
    let rest = some_number (form.predicates (map view.predicate (drop (i + 1) items))) in
    let says = rw c.predicate-item.is at (sym c.is_number.ensures ∙ c.if-is_number.true) in
    sym (ap (λ l. some_number (form.predicates (map view.predicate l))) (drop_more items i d c.loop-predicate-test.true) ∙ ap (λ b. b || rest) says) ∙ c.loop-predicate.invariant

pub returns : goal.returns
returns c =
    let items = c.as_slice-predicate-items.result.now in
    let past : length items ≤ c.loop-predicate.predicate-index = omega (arith, c.loop-predicate-test.false) in
    sym (ap (λ l. some_number (form.predicates (map view.predicate l))) (drop_all c.loop-predicate.predicate-index items past)) ∙ c.loop-predicate.invariant
