-- Steps and predicates one after the other.
use Rattle.std.proofs.Common.{◌≡◌, refl, sym, ap, ◌∙◌, ℕ, Bool, true, ◌&&◌, List, [], ◌∷◌, ◌++◌, map, slice_index_or}
use Rattle.path_meaning.specs.Elements.{Element}
use Rattle.path_grammar.specs.Form.{Step, steps, Predicate, holds, predicates, Condition, and_of, conditions}
use Rattle.path_meaning.specs.Meaning.{item, stepped, led, filtered, filtered_by, is_true, each_true}
use mathlib.Core.Bool.{and-true}
use Rattle.path_meaning.proofs.Lists.{filter-filter, filter-alike}

pub steps_in_turn : (satisfies : ℕ → List Element → Element → Bool) (all : List Element) (first second : List Step) (items : List Element)
    → led satisfies all (steps (first ++ second)) items ≡ led satisfies all (steps second) (led satisfies all (steps first) items)
unfolding led
steps_in_turn satisfies all [] second items = refl
steps_in_turn satisfies all (s ∷ first) second items = steps_in_turn satisfies all first second (stepped satisfies all s (map item items))

pub predicates_in_turn : (satisfies : ℕ → List Element → Element → Bool) (all : List Element) (first second : List Predicate) (items : List Element)
    → filtered satisfies all (predicates (first ++ second)) items ≡ filtered satisfies all (predicates second) (filtered satisfies all (predicates first) items)
unfolding filtered
predicates_in_turn satisfies all [] second items = refl
predicates_in_turn satisfies all (p ∷ first) second items = predicates_in_turn satisfies all first second (filtered_by satisfies all p items)

pub conditions_as_and : (satisfies : ℕ → List Element → Element → Bool) (all : List Element) (a b : Condition) (items : List Element)
    → filtered satisfies all (predicates (holds a ∷ holds b ∷ [])) items
    ≡ filtered satisfies all (predicates (holds (and_of (conditions (a ∷ b ∷ []))) ∷ [])) items
unfolding filtered filtered_by is_true each_true
conditions_as_and satisfies all a b items =
    filter-filter (is_true satisfies all a) (is_true satisfies all b) items
    ∙ filter-alike (λ e. is_true satisfies all a e && is_true satisfies all b e) (λ e. is_true satisfies all a e && (is_true satisfies all b e && true)) items
    (λ k d within. let e = slice_index_or items k d in ap (λ c. is_true satisfies all a e && c) (sym (and-true (is_true satisfies all b e))))
