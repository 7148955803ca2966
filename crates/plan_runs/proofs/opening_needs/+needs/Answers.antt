-- What each kind needs, by what its operands need.
use Rattle.std.proofs.Common.{◌≡◌, ◌∙◌, ap, sym}
use Rattle.std.proofs.lemmas.Result.{IfOk-weaker}
use Rattle.plan_compiler.specs.declared.operator_plan.FilteredPlan.{FilteredPlan}
use Rattle.plan_compiler.specs.declared.operator_plan.OperatorSides.{OperatorSides}
use Rattle.plan_runs.specs.declared.needs.Needs.{Needs}
use Rattle.plan_runs.specs.steps.Skips.{skip_of, needed_variants, opened_skip}
use Rattle.plan_runs.proofs.NeedViews.{needs-Both, needs-Choice, needs-Filtered, needs-MildNot, needs-Negated, needs-Phrase}
use Rattle.plan_runs.proofs.opening_needs.+needs.Goals as goal

pub open_needs-returns-in_ok-needed_variants-in-Phrase : goal.open_needs-returns-in_ok-needed_variants-in-Phrase
open_needs-returns-in_ok-needed_variants-in-Phrase t c =
    let opening = c.args.opening.now in
    let looks = opening.looks in
    let stems = opening.lists.now.stems in
    let version = opening.version.now in
    needs-Phrase looks stems version c.in_ok-needed_variants-in-Phrase.field-0 c.in-Phrase.phrase
    (c.in_ok-needed_variants-in-Phrase.ensures ∙ ap (needed_variants looks stems version) c.as_slice.ensures)
    ∙ sym (ap (opened_skip looks stems version) c.in-Phrase.is)

pub open_needs-returns-in_ok-needed_sides-in-Choice : goal.open_needs-returns-in_ok-needed_sides-in-Choice
open_needs-returns-in_ok-needed_sides-in-Choice t c =
    let opening = c.args.opening.now in
    let looks = opening.looks in
    let stems = opening.lists.now.stems in
    let version = opening.version.now in
    needs-Choice looks stems version c.in_ok-needed_sides-in-Choice.field-0 c.in-Choice.sides
    (c.in_ok-needed_sides-in-Choice.ensures.left ∙ ap (λ (sides : OperatorSides). opened_skip looks stems version sides.left) c.deref.ensures)
    (c.in_ok-needed_sides-in-Choice.ensures.right ∙ ap (λ (sides : OperatorSides). opened_skip looks stems version sides.right) c.deref.ensures)
    ∙ sym (ap (opened_skip looks stems version) c.in-Choice.is)

pub open_needs-returns-in_ok-needed_sides-in-Both : goal.open_needs-returns-in_ok-needed_sides-in-Both
open_needs-returns-in_ok-needed_sides-in-Both t c =
    let opening = c.args.opening.now in
    let looks = opening.looks in
    let stems = opening.lists.now.stems in
    let version = opening.version.now in
    needs-Both looks stems version c.in_ok-needed_sides-in-Both.field-0 c.in-Both.sides
    (c.in_ok-needed_sides-in-Both.ensures.left ∙ ap (λ (sides : OperatorSides). opened_skip looks stems version sides.left) c.deref-in-Both.ensures)
    (c.in_ok-needed_sides-in-Both.ensures.right ∙ ap (λ (sides : OperatorSides). opened_skip looks stems version sides.right) c.deref-in-Both.ensures)
    ∙ sym (ap (opened_skip looks stems version) c.in-Both.is)

pub open_needs-returns-in-MildNot : goal.open_needs-returns-in-MildNot
open_needs-returns-in-MildNot t c =
    let opening = c.args.opening.now in
    let looks = opening.looks in
    let stems = opening.lists.now.stems in
    let version = opening.version.now in
    IfOk-weaker c.open_needs.result (λ (needs : Needs). skip_of needs ≡ opened_skip looks stems version c.deref-in-MildNot.result.now.left)
    (λ (needs : Needs). skip_of needs ≡ opened_skip looks stems version c.args.plan.now)
    (λ needs left.
    left ∙ ap (λ (sides : OperatorSides). opened_skip looks stems version sides.left) c.deref-in-MildNot.ensures
    ∙ sym (ap (opened_skip looks stems version) c.in-MildNot.is ∙ needs-MildNot looks stems version c.in-MildNot.sides))
    c.open_needs.ensures

pub open_needs-returns-in-Negated : goal.open_needs-returns-in-Negated
open_needs-returns-in-Negated t c =
    let opening = c.args.opening.now in
    needs-Negated opening.looks opening.lists.now.stems opening.version.now c.in-Negated._plan
    ∙ sym (ap (opened_skip opening.looks opening.lists.now.stems opening.version.now) c.in-Negated.is)

pub open_needs-returns-in-Filtered : goal.open_needs-returns-in-Filtered
open_needs-returns-in-Filtered t c =
    let opening = c.args.opening.now in
    let looks = opening.looks in
    let stems = opening.lists.now.stems in
    let version = opening.version.now in
    IfOk-weaker c.open_needs-in-Filtered.result (λ (needs : Needs). skip_of needs ≡ opened_skip looks stems version c.deref-in-Filtered.result.now.operand)
    (λ (needs : Needs). skip_of needs ≡ opened_skip looks stems version c.args.plan.now)
    (λ needs operand.
    operand ∙ ap (λ (plan : FilteredPlan). opened_skip looks stems version plan.operand) c.deref-in-Filtered.ensures
    ∙ sym (ap (opened_skip looks stems version) c.in-Filtered.is ∙ needs-Filtered looks stems version c.in-Filtered.plan))
    c.open_needs-in-Filtered.ensures
