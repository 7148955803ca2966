-- Operands joined one after the other are all joined.
use Rattle.std.proofs.Common.{◌≡◌, refl, ap, List, [], ◌∷◌, ◌++◌, Option, Some, None}
use Rattle.std.specs.Prelude.{fold}
use Rattle.all_matches.specs.Ways.{Operator}
use Rattle.plan_compiler.specs.Operators.{joined_of}
use Rattle.plan_compiler.specs.steps.Joins.{joined, joined_after, joined_from}
use Rattle.plan_compiler.specs.declared.joining.Join.{Join}
use Rattle.plan_compiler.specs.declared.joining.Join.TheVariants.{Choice, Both}

-- one operand more
pub joined_more : (join : Join) (before : Option Operator) (operands : List Operator) (next : Operator)
    → joined_from join before (operands ++ next ∷ []) ≡ Some (joined_after join (joined_from join before operands) next)
joined_more join before [] next = refl
joined_more join before (first ∷ rest) next = joined_more join (Some (joined_after join before first)) rest next

folded : (join : Join) (before : Operator) (rest : List Operator) → joined_from join (Some before) rest ≡ Some (fold (joined join) before rest)
folded join before [] = refl
folded join before (next ∷ rest) = folded join (joined join before next) rest

-- those that were joined, if there were some
abbrev pub whole : Join → Option Operator → Operator
whole join None = joined_of join []
whole join (Some operator) = operator

pub all_joined : (join : Join) (operands : List Operator) → whole join (joined_from join None operands) ≡ joined_of join operands
all_joined join [] = refl
all_joined Choice (first ∷ rest) = ap (whole Choice) (folded Choice first rest)
all_joined Both (first ∷ rest) = ap (whole Both) (folded Both first rest)
