-- The terms of the key are enough.
use Rattle.std.proofs.Common.{◌≡◌, ◌∙◌, List, ℕ, IfOk, ap, subst, sym}
use Rattle.std.specs.Option.{option_copied}
use Rattle.plan_runs.specs.steps.OpenedItems.{word_test}
use Rattle.plan_runs.proofs.ChoosingLemmas.{asked}
use Rattle.plan_runs.proofs.TermLaws.{key_law}
use Rattle.plan_runs.proofs.choosing.terms_for.Goals as goal

pub returns-in-Some : goal.returns-in-Some
returns-in-Some c =
    let opening = c.args.opening.now in
    let is = sym c.asked_key.ensures ∙ ap option_copied c.in-Some.is in
    subst (λ (chosen : List ℕ). IfOk c.terms_of_key.result (λ numbers. numbers ≡ chosen))
    (key_law opening.version.now (word_test opening.looks opening.lists.now.stems c.args.test.now) c.in-Some.key.now
    (asked opening.looks opening.lists.now.stems c.args.test.now c.in-Some.key.now is))
    c.terms_of_key.ensures
