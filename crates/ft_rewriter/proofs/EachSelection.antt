-- What a definition says of a list of selections is said of each of them.
use Rattle.std.proofs.Common.{◌≡◌, refl, ap, List, [], ◌∷◌, ◌++◌, map}
use Rattle.std.specs.Prelude.{flat_map}
use Rattle.ft_base.specs.declared.options.Options.{Options}
use Rattle.ft_base.specs.Selection.{more}
use Rattle.ft_syntax.specs.View.{form, forms_of}
use Rattle.ft_syntax.specs.declared.selection.Selection.{Selection}
use Rattle.ft_rewriter.specs.Rewriting.{given, each_given, operands_in, flattened, each_flattened, simplified, negated, each_simplified, each_negated}
use Rattle.ft_rewriter.specs.declared.connective.Connective.{Connective}

pub given_each : (outer : Options) (parts : List Selection) → forms_of (map (λ part. given outer (form part)) parts) ≡ each_given outer (forms_of (map form parts))
unfolding given
given_each outer [] = refl
given_each outer (part ∷ rest) = ap (more (given outer (form part))) (given_each outer rest)

pub flattened_each : (c : Connective) (parts : List Selection)
    → flat_map (λ part. operands_in c (flattened (form part))) parts ≡ flat_map (operands_in c) (each_flattened (forms_of (map form parts)))
unfolding flattened
flattened_each c [] = refl
flattened_each c (part ∷ rest) = ap (λ forms. operands_in c (flattened (form part)) ++ forms) (flattened_each c rest)

pub simplified_each : (parts : List Selection) → map (λ part. simplified (form part)) parts ≡ each_simplified (forms_of (map form parts))
unfolding simplified
simplified_each [] = refl
simplified_each (part ∷ rest) = ap (λ forms. simplified (form part) ∷ forms) (simplified_each rest)

pub negated_each : (parts : List Selection) → map (λ part. negated (form part)) parts ≡ each_negated (forms_of (map form parts))
unfolding simplified
negated_each [] = refl
negated_each (part ∷ rest) = ap (λ forms. negated (form part) ∷ forms) (negated_each rest)
