-- By the numbers of the references.
use Rattle.std.proofs.Common.{◌≡◌, ◌≤◌, ◌∷◌, [], ap, arith}
use Rattle.tree_edits.specs.Examples.{a, c, ref}
use Rattle.tree_edits.proofs.EditLemmas.{root_distinct}
use Rattle.tree_edits.proofs.ExampleLemmas.{first_number, joined_order}
use Rattle.tree_edits.proofs.examples.kept_order.Goals as goal

pub returns-clause-joined : goal.returns-clause-joined
returns-clause-joined c = joined_order

pub returns-clause-exchanged : goal.returns-clause-exchanged
returns-clause-exchanged c = λ keeps.
    let no : 3 ≡ 1 = ap first_number keeps.order in
    omega (arith, no)

pub returns-clause-twice : goal.returns-clause-twice
returns-clause-twice given = λ keeps.
    let no : 2 ≤ 1 = root_distinct (a 0 (c 2 ∷ c 2 ∷ [])) keeps.apart (ref 2) in
    omega (arith, no)

pub returns-clause-twice_before : goal.returns-clause-twice_before
returns-clause-twice_before given = λ keeps.
    let no : 2 ≤ 1 = root_distinct (a 0 (c 2 ∷ c 2 ∷ [])) keeps.apart_before (ref 2) in
    omega (arith, no)
