-- One part further; after the last one nothing is left.
use Rattle.std.proofs.Common.{◌≡◌, ◌≤◌, ◌+◌, IfOk, length, map, refl, subst, arith}
use Rattle.std.proofs.lemmas.List.{drop_all, length-append}
use Rattle.path_grammar.specs.Form as form
use Rattle.path_grammar.specs.View as view
use Rattle.path_grammar.proofs.Views.{view_number, view_holds, view_or, view_and, view_not, view_attribute, view_exists, view_contains}
use Rattle.path_nodes.specs.steps.Leading.{in_steps, in_predicate, in_predicates, in_condition, in_conditions, in_paths}
use Rattle.path_nodes.proofs.LeadingLemmas.{in-step, after-next, steps-from, predicates-from, conditions-from, paths-from}
use Rattle.path_nodes.proofs.leading.+after.Goals as goal

-- ---- predicates and conditions

pub after_predicate-returns-in-Number : goal.after_predicate-returns-in-Number
unfolding in_predicate
after_predicate-returns-in-Number t c = rw (c.in-Number.is, view_number) (omega arith)

pub after_predicate-returns-in-Holds : goal.after_predicate-returns-in-Holds
unfolding in_predicate
after_predicate-returns-in-Holds t c = rw (c.in-Holds.is, view_holds) c.after_condition.ensures

pub after_condition-returns-in-Or : goal.after_condition-returns-in-Or
unfolding in_condition
after_condition-returns-in-Or t c = rw (c.in-Or.is, view_or) c.after_conditions.ensures

pub after_condition-returns-in-And : goal.after_condition-returns-in-And
unfolding in_condition
after_condition-returns-in-And t c = rw (c.in-And.is, view_and) c.after_conditions-in-And.ensures

pub after_condition-returns-in-Not : goal.after_condition-returns-in-Not
unfolding in_condition
after_condition-returns-in-Not t c = rw (c.in-Not.is, view_not) (rw c.deref.ensures at c.after_condition.ensures)

pub after_condition-returns-in-Attribute : goal.after_condition-returns-in-Attribute
unfolding in_condition
after_condition-returns-in-Attribute t c = rw (c.in-Attribute.is, view_attribute) (omega arith)

pub after_condition-returns-in-Exists : goal.after_condition-returns-in-Exists
unfolding in_condition
after_condition-returns-in-Exists t c = rw (c.in-Exists.is, view_exists) c.after_leading.ensures

pub after_condition-returns-in_ok-between-in-Contains : goal.after_condition-returns-in_ok-between-in-Contains
unfolding in_condition
after_condition-returns-in_ok-between-in-Contains t c =
    let paths = in_paths (form.paths (map view.relative_path c.in-Contains.ignored)) in
    let steps = in_steps (form.steps (map view.step c.in-Contains.steps)) in
    let long = length-append paths steps in
    let first : c.in_ok-inside-in-Contains.inside ≡ c.args.number + 1 = c.in_ok-inside-in-Contains.ensures in
    let second : c.in_ok-between-in-Contains.between ≡ c.in_ok-inside-in-Contains.inside + length paths = c.in_ok-between-in-Contains.ensures in
    rw (c.in-Contains.is, view_contains)
    (subst (λ n. IfOk c.after_steps.result (λ after. after ≡ n)) (omega (arith, long, first, second)) c.after_steps.ensures)

pub after_paths-loop-path-preserved : goal.after_paths-loop-path-preserved
after_paths-loop-path-preserved t c =
    let next = paths-from c.as_slice-path-items.result.now c.loop-path.path-index c.path-item.result c.loop-path-test.true in
    after-next _ _ _ next c.loop-path.after c.in_ok-after.after _ (rw c.path-item.is at c.in_ok-after.ensures) c.loop-path.invariant

pub after_paths-returns : goal.after_paths-returns
unfolding in_paths
after_paths-returns t c =
    let items = c.as_slice-path-items.result.now in
    let past : length items ≤ c.loop-path.path-index = omega (arith, c.loop-path-test.false) in
    let all = rw (drop_all c.loop-path.path-index items past) at c.loop-path.invariant in
    omega (arith, all)

-- ---- the predicates of a step

pub after_step-loop-predicate-init : goal.after_step-loop-predicate-init
after_step-loop-predicate-init t c = rw (c.as_slice-predicate-items.ensures, in-step c.args.step.now) refl

pub after_step-loop-predicate-preserved : goal.after_step-loop-predicate-preserved
after_step-loop-predicate-preserved t c =
    let next = predicates-from c.as_slice-predicate-items.result.now c.loop-predicate.predicate-index c.predicate-item.result c.loop-predicate-test.true in
    after-next _ _ _ next c.loop-predicate.after c.in_ok-after.after _ (rw c.predicate-item.is at c.in_ok-after.ensures) c.loop-predicate.invariant

pub after_step-returns : goal.after_step-returns
unfolding in_predicates
after_step-returns t c =
    let items = c.as_slice-predicate-items.result.now in
    let past : length items ≤ c.loop-predicate.predicate-index = omega (arith, c.loop-predicate-test.false) in
    let all = rw (drop_all c.loop-predicate.predicate-index items past) at c.loop-predicate.invariant in
    omega (arith, all)

-- ---- conditions and steps

pub after_conditions-loop-condition-preserved : goal.after_conditions-loop-condition-preserved
after_conditions-loop-condition-preserved t c =
    let next = conditions-from c.as_slice-condition-items.result.now c.loop-condition.condition-index c.condition-item.result c.loop-condition-test.true in
    after-next _ _ _ next c.loop-condition.after c.in_ok-after.after _ (rw c.condition-item.is at c.in_ok-after.ensures) c.loop-condition.invariant

pub after_conditions-returns : goal.after_conditions-returns
unfolding in_conditions
after_conditions-returns t c =
    let items = c.as_slice-condition-items.result.now in
    let past : length items ≤ c.loop-condition.condition-index = omega (arith, c.loop-condition-test.false) in
    let all = rw (drop_all c.loop-condition.condition-index items past) at c.loop-condition.invariant in
    omega (arith, all)

pub after_steps-loop-step-preserved : goal.after_steps-loop-step-preserved
after_steps-loop-step-preserved t c =
    let next = steps-from c.as_slice-step-items.result.now c.loop-step.step-index c.step-item.result c.loop-step-test.true in
    after-next _ _ _ next c.loop-step.after c.in_ok-after.after _ (rw c.step-item.is at c.in_ok-after.ensures) c.loop-step.invariant

pub after_steps-returns : goal.after_steps-returns
unfolding in_steps
after_steps-returns t c =
    let items = c.as_slice-step-items.result.now in
    let past : length items ≤ c.loop-step.step-index = omega (arith, c.loop-step-test.false) in
    let all = rw (drop_all c.loop-step.step-index items past) at c.loop-step.invariant in
    omega (arith, all)
