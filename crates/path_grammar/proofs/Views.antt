-- The plain data of each part of a path.
use Rattle.std.proofs.Common.{◌≡◌, ℕ, Bool, List, map, Option, Box, Global, rules}
use Rattle.path_grammar.specs.Form as form
use Rattle.path_grammar.specs.Form.{steps, predicates, conditions, paths}
use Rattle.path_grammar.specs.View.{step, predicate, condition, relative_path}
use Rattle.path_grammar.specs.declared.path.NameTest.{NameTest}
use Rattle.path_grammar.specs.declared.path.Step.{Step}
use Rattle.path_grammar.specs.declared.path.Predicate.{Predicate, Number, Holds}
use Rattle.path_grammar.specs.declared.path.Condition.{Condition, Or, And, Not, Attribute, Exists, Contains, the_lemmas}
use Rattle.path_grammar.specs.declared.path.RelativePath.{RelativePath}
use Rattle.path_grammar.specs.declared.path.Condition.TheViews.{roll-Step, roll-RelativePath}

pub view_step : (deep : Bool) (test : NameTest) (filters : List Predicate)
    → step (roll-Step (record { deep = deep; test = test; predicates = filters })) ≡ form.step deep test (predicates (map predicate filters))
view_step deep test filters = search (rules, the_lemmas)

pub view_number : (k : ℕ) → predicate (Number k) ≡ form.number k
view_number k = search (rules, the_lemmas)

pub view_holds : (c : Condition) → predicate (Holds c) ≡ form.holds (condition c)
view_holds c = search (rules, the_lemmas)

pub view_or : (parts : List Condition) → condition (Or parts) ≡ form.or_of (conditions (map condition parts))
view_or parts = search (rules, the_lemmas)

pub view_and : (parts : List Condition) → condition (And parts) ≡ form.and_of (conditions (map condition parts))
view_and parts = search (rules, the_lemmas)

pub view_not : (operand : Box Condition Global) → condition (Not operand) ≡ form.not_of (condition operand.value)
view_not operand = search (rules, the_lemmas)

pub view_attribute : (name : List ℕ) (value : Option (List ℕ)) → condition (Attribute name value) ≡ form.attribute name value
view_attribute name value = search (rules, the_lemmas)

pub view_exists : (further : List Step) → condition (Exists further) ≡ form.exists (steps (map step further))
view_exists further = search (rules, the_lemmas)

pub view_contains : (further : List Step) (selection : ℕ) (ignored : List RelativePath)
    → condition (Contains further selection ignored) ≡ form.contains (steps (map step further)) selection (paths (map relative_path ignored))
view_contains further selection ignored = search (rules, the_lemmas)

pub view_relative_path : (further : List Step) → relative_path (roll-RelativePath (record { steps = further })) ≡ steps (map step further)
view_relative_path further = search (rules, the_lemmas)
