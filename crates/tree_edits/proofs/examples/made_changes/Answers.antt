-- By computation, and by how many leaves there are.
use Rattle.std.proofs.Common.{◌≡◌, refl, length, ap, arith}
use Rattle.tree_edits.proofs.ExampleLemmas.{joined_order}
use Rattle.tree_edits.proofs.examples.made_changes.Goals as goal

pub returns-clause-made : goal.returns-clause-made
returns-clause-made c = record { keeps_order = joined_order; went = refl; came = refl }

pub returns-clause-too_few_taken : goal.returns-clause-too_few_taken
returns-clause-too_few_taken c = λ made.
    let no : 0 ≡ 3 = ap length made.went in
    omega (arith, no)

pub returns-clause-too_few_put : goal.returns-clause-too_few_put
returns-clause-too_few_put c = λ made.
    let no : 0 ≡ 1 = ap length made.came in
    omega (arith, no)
