-- One number more.
use Rattle.std.proofs.Common.{◌≡◌, ◌-◌, ◌∙◌, ◌++◌, ap, sym, cond, ℕ, List, [], ◌∷◌, arith}
use Rattle.std.specs.List.{range_with_len}
use Rattle.index_versions.specs.Versions.{term_at}
use Rattle.plan_runs.specs.steps.ChosenTerms.{passing}
use Rattle.plan_runs.specs.steps.OpenedItems.{word_test}
use Rattle.plan_runs.proofs.ChoosingLemmas.{number_more}
use Rattle.plan_runs.proofs.choosing.passing.Goals as goal

pub loop-number-preserved : goal.loop-number-preserved
loop-number-preserved c =
    let opening = c.args.opening.now in
    let test = word_test opening.looks opening.lists.now.stems c.args.test.now in
    let number = c.loop-number.number in
    c.in_ok-push_passing.ensures
    ∙ ap (λ (numbers : List ℕ). numbers ++ cond (test (term_at number opening.version.now).word) (number ∷ []) []) c.loop-number.invariant
    ∙ sym (number_more (λ n. test (term_at n opening.version.now).word) c.args.from number c.loop-number.auto.number)

pub returns : goal.returns
returns c =
    let opening = c.args.opening.now in
    let end : c.loop-number.number ≡ c.args.to = omega (arith, c.loop-number-test.false, c.loop-number.auto.number-end c.requires.order) in
    c.loop-number.invariant
    ∙ ap (λ n. passing (word_test opening.looks opening.lists.now.stems c.args.test.now) opening.version.now (range_with_len c.args.from (n - c.args.from))) end
