-- The ways of a choice: those of the left side, and then those of the right one.
use Rattle.std.proofs.Common.{◌≡◌, refl, ap, List, [], ◌∷◌, ◌++◌, Bool, true, false}
use Rattle.ft_base.specs.Lists.{is_not_empty}
use Rattle.all_matches.specs.Ways.{Way}
use Rattle.ft_operators.specs.declared.course.Course.{Course}
use Rattle.ft_operators.specs.Course.{ways_on}
use Rattle.ft_operators.specs.Standing.{Standing, at_prefix}
use Rattle.ft_operators.specs.steps.Forms.{choice_of, first_left}

with_rest : Standing → List Way → Standing
with_rest s rest = record { aims = s.aims; shape = s.shape; operator = s.operator; rest = rest }

all_first : (xs ys : List Way) → is_not_empty xs ≡ true → first_left xs ys ≡ xs ++ ys
all_first [] ys there = cc
all_first (x ∷ xs) ys there = refl

none_first : (xs ys : List Way) → is_not_empty xs ≡ false → ys ≡ xs ++ ys
none_first [] ys none = refl
none_first (x ∷ xs) ys none = cc

-- whether there is a way on the left side says whether there is one of the choice
pub left_there : (xs ys : List Way) → is_not_empty (first_left xs ys) ≡ is_not_empty xs
left_there [] ys = refl
left_there (x ∷ xs) ys = refl

module _ (course : Course) (second : Bool) (left right : Standing) where
  pub choice_prefix_left : is_not_empty ((at_prefix course left).rest) ≡ true → choice_of course false (at_prefix course left) right ≡ at_prefix course (choice_of course second left right)
  unfolding ways_on with_rest
  choice_prefix_left there = ap (with_rest (choice_of course second left right)) (all_first (ways_on course left.operator) (ways_on course right.operator) there)

  pub choice_prefix_right : is_not_empty ((at_prefix course left).rest) ≡ false → choice_of course true (at_prefix course left) (at_prefix course right) ≡ at_prefix course (choice_of course second left right)
  unfolding ways_on with_rest
  choice_prefix_right none = ap (with_rest (choice_of course second left right)) (none_first (ways_on course left.operator) (ways_on course right.operator) none)
