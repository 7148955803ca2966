-- The middle is found, or there is none.
use Rattle.std.proofs.Common.{◌≡◌, refl, ℕ, true, false, ◌&&◌, arith}
use Rattle.std.specs.Prelude.{nat_le}
use Rattle.std.proofs.lemmas.Bool.Decides.{nat_tests}
use Rattle.match_sets.specs.Numbers.{is_between}
use Rattle.match_sets.proofs.examples.numbered_operators.Goals as goal

pub returns-clause-side_by_side : goal.returns-clause-side_by_side
returns-clause-side_by_side c = (2, (refl, refl), (refl, refl))

pub returns-clause-of_a_filter : goal.returns-clause-of_a_filter
returns-clause-of_a_filter c = (refl, refl)

none_between : (own other middle : ℕ) → nat_le other own ≡ true → (is_between 1 middle own && true) ≡ true → (is_between middle 3 other && true) ≡ true → false ≡ true
none_between own other middle less left right = grind (arith, nat_tests)

pub returns-clause-turned : goal.returns-clause-turned
returns-clause-turned c is = none_between 2 1 is.0 refl is.1.1 is.2.1

pub returns-clause-with_one_number : goal.returns-clause-with_one_number
returns-clause-with_one_number c is = none_between 1 1 is.0 refl is.1.1 is.2.1

pub returns-clause-the_next : goal.returns-clause-the_next
returns-clause-the_next c is = is.1
