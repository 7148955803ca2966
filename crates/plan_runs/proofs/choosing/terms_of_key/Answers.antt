-- The numbers of a key are those of terms.
use Rattle.std.proofs.Common.{◌∙◌, sym}
use Rattle.index_versions.specs.Versions.{terms_of}
use Rattle.plan_runs.proofs.ChoosingLemmas.{found_within}
use Rattle.plan_runs.proofs.choosing.terms_of_key.Goals as goal

pub passing-requires-clause-order : goal.passing-requires-clause-order
passing-requires-clause-order c =
    (found_within c.args.key.now (terms_of c.args.opening.now.version.now) c.in-Some.numbers (sym c.find_term.ensures ∙ c.in-Some.is)).0

pub passing-requires-clause-within : goal.passing-requires-clause-within
passing-requires-clause-within c =
    (found_within c.args.key.now (terms_of c.args.opening.now.version.now) c.in-Some.numbers (sym c.find_term.ensures ∙ c.in-Some.is)).1
