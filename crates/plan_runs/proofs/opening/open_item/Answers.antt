-- Terms that pass are terms of the version.
use Rattle.std.proofs.Common.{ℕ, List, length, subst, sym, ◌∙◌, ◌<◌}
use Rattle.std.specs.List.{All}
use Rattle.index_versions.specs.Versions.{terms_of}
use Rattle.plan_runs.specs.steps.OpenedItems.{word_test}
use Rattle.plan_runs.proofs.OpenedLemmas.{chosen_there}
use Rattle.plan_runs.proofs.opening.open_item.Goals as goal

pub sources_of-requires : goal.sources_of-requires
sources_of-requires c =
    let opening = c.args.opening.now in
    subst (λ (numbers : List ℕ). All (λ number. number < length (terms_of opening.version.now)) numbers)
    (sym (c.as_slice.ensures ∙ c.in_ok-numbers.ensures))
    (chosen_there (word_test opening.looks opening.lists.now.stems c.args.test.now) opening.version.now)
