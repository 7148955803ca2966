-- The operands of Or and And, as a list.
use Rattle.std.proofs.Common.{◌≡◌, ℕ, List, [], ◌∷◌, ◌++◌, refl, ap, map, codes}
use Rattle.std.specs.Prelude.{flat_map}
use Rattle.std.specs.List.{join_by}
use Rattle.ft_base.specs.Selection.{Form, or_of, and_of, mild_not}
use Rattle.ft_syntax.specs.Spacing.{Symbol}
use Rattle.ft_syntax.specs.Symbols.{symbols, operands, operand_symbols, operands_symbols}
use Rattle.ft_syntax.specs.View.{form, forms_of}
use Rattle.ft_syntax.specs.declared.selection.Selection.{Selection}

further : (separator : Symbol) (wanted : ℕ) (forms : List Form) → flat_map (λ operand. separator ∷ operand_symbols wanted operand) forms ≡ flat_map (λ operand. separator ∷ operand) (operands wanted (forms_of forms))
unfolding symbols
further separator wanted [] = refl
further separator wanted (first ∷ rest) = ap (λ more. (separator ∷ operand_symbols wanted first) ++ more) (further separator wanted rest)

joined : (separator : Symbol) (wanted : ℕ) (forms : List Form) → operands_symbols separator wanted forms ≡ join_by (λ operand. operand) (separator ∷ []) (operands wanted (forms_of forms))
unfolding symbols
joined separator wanted [] = refl
joined separator wanted (first ∷ rest) = ap (λ more. operand_symbols wanted first ++ more) (further separator wanted rest)

pub or_symbols : (forms : List Form) → operands_symbols (codes "ftor") 2 forms ≡ symbols (or_of (forms_of forms))
unfolding symbols
or_symbols forms = joined (codes "ftor") 2 forms

pub and_symbols : (forms : List Form) → operands_symbols (codes "ftand") 3 forms ≡ symbols (and_of (forms_of forms))
unfolding symbols
and_symbols forms = joined (codes "ftand") 3 forms

pub mild_not_symbols : (left right : Form) → operand_symbols 3 left ++ codes "not" ∷ codes "in" ∷ operand_symbols 4 right ≡ symbols (mild_not left right)
unfolding symbols
mild_not_symbols left right = refl

map_further : (separator : Symbol) (wanted : ℕ) (parts : List Selection) → flat_map (λ part. separator ∷ operand_symbols wanted (form part)) parts ≡ flat_map (λ operand. separator ∷ operand_symbols wanted operand) (map form parts)
map_further separator wanted [] = refl
map_further separator wanted (part ∷ rest) = ap (λ more. (separator ∷ operand_symbols wanted (form part)) ++ more) (map_further separator wanted rest)

-- the first operand and then the further ones, each after the separator
pub first_and_further : (separator : Symbol) (wanted : ℕ) (first : Selection) (rest : List Selection)
    → operand_symbols wanted (form first) ++ flat_map (λ part. separator ∷ operand_symbols wanted (form part)) rest ≡ operands_symbols separator wanted (map form (first ∷ rest))
first_and_further separator wanted first rest = ap (λ more. operand_symbols wanted (form first) ++ more) (map_further separator wanted rest)
