-- The first missing list, among the names of each kind of selection.
use Rattle.std.proofs.Common.{◌≡◌, sym, ap, refl, ◌∙◌, ℕ, ◌+◌, ◌<◌, ◌≤◌, true, false, cond, List, [], ◌∷◌, ◌++◌, map, Box, Global, length, get_or, drop, Some, None}
use Rattle.std.specs.Option.{option_or}
use Rattle.std.proofs.lemmas.List.{drop_more, drop_all}
use Rattle.ft_base.specs.declared.options.Options.{Options}
use Rattle.ft_base.specs.declared.words.Words.{Words}
use Rattle.ft_base.specs.declared.filter.Filter.{Filter}
use Rattle.ft_syntax.specs.View.{form, forms_of}
use Rattle.ft_syntax.specs.declared.selection.Selection.{Selection}
use Rattle.ft_syntax.specs.declared.selection.Selection as S
use Rattle.ft_syntax.proofs.Views.{form-Or, form-And, form-MildNot}
use Rattle.plan_compiler.specs.Missing.{Named, name_of, is_missing, names, all_names, option_names, missing_among, first_missing}
use Rattle.plan_compiler.specs.NamedLists.{NamedLists}
use Rattle.plan_compiler.proofs.ServedLemmas.{form-Words, form-Not, form-Filtered, form-With}

module _ (lists : NamedLists) where
  -- the first of some names, or else of those after them
  pub missing_append : (prefix rest : List Named) → missing_among lists (prefix ++ rest) ≡ option_or (missing_among lists prefix) (missing_among lists rest)
  missing_append [] rest = refl
  missing_append (first ∷ prefix) rest =
      elim (is_missing lists first) as (λ t. cond t (Some (name_of first)) (missing_among lists (prefix ++ rest)) ≡ option_or (cond t (Some (name_of first)) (missing_among lists prefix)) (missing_among lists rest))
      [ true ↦ refl | false ↦ missing_append prefix rest ]

  module _ (selection : Selection) where
    pub missing-Words : (value : Words) → selection ≡ S.Words value → first_missing lists (form selection) ≡ missing_among lists (option_names value.options)
    unfolding names
    missing-Words value e = ap (first_missing lists) (ap form e ∙ form-Words value)

    pub missing-Or : (parts : List Selection) → selection ≡ S.Or parts → first_missing lists (form selection) ≡ missing_among lists (all_names (forms_of (map form parts)))
    unfolding names
    missing-Or parts e = ap (first_missing lists) (ap form e ∙ form-Or parts)

    pub missing-And : (parts : List Selection) → selection ≡ S.And parts → first_missing lists (form selection) ≡ missing_among lists (all_names (forms_of (map form parts)))
    unfolding names
    missing-And parts e = ap (first_missing lists) (ap form e ∙ form-And parts)

    pub missing-Not : (operand : Box Selection Global) → selection ≡ S.Not operand → first_missing lists (form selection) ≡ first_missing lists (form operand.value)
    unfolding names
    missing-Not operand e = ap (first_missing lists) (ap form e ∙ form-Not operand)

    pub missing-Filtered : (operand : Box Selection Global) (kind : Filter) → selection ≡ S.Filtered operand kind → first_missing lists (form selection) ≡ first_missing lists (form operand.value)
    unfolding names
    missing-Filtered operand kind e = ap (first_missing lists) (ap form e ∙ form-Filtered operand kind)

    pub missing-MildNot : (left right : Box Selection Global) → selection ≡ S.MildNot left right
        → first_missing lists (form selection) ≡ option_or (first_missing lists (form left.value)) (first_missing lists (form right.value))
    unfolding names
    missing-MildNot left right e = ap (first_missing lists) (ap form e ∙ form-MildNot left right) ∙ missing_append (names (form left.value)) (names (form right.value))

    pub missing-With : (operand : Box Selection Global) (options : Options) → selection ≡ S.With operand options
        → first_missing lists (form selection) ≡ option_or (first_missing lists (form operand.value)) (missing_among lists (option_names options))
    unfolding names
    missing-With operand options e = ap (first_missing lists) (ap form e ∙ form-With operand options) ∙ missing_append (names (form operand.value)) (option_names options)

  -- one operand more, and the end
  pub missing_more : (parts : List Selection) (i : ℕ) (part : Selection) → i < length parts → part ≡ get_or parts i part
      → missing_among lists (all_names (forms_of (map form (drop i parts)))) ≡ option_or (first_missing lists (form part)) (missing_among lists (all_names (forms_of (map form (drop (i + 1) parts)))))
  unfolding names
  missing_more parts i part h is =
      ap (λ ps. missing_among lists (all_names (forms_of (map form ps)))) (drop_more parts i part h)
      ∙ ap (λ p. missing_among lists (names (form p) ++ all_names (forms_of (map form (drop (i + 1) parts))))) (sym is)
      ∙ missing_append (names (form part)) (all_names (forms_of (map form (drop (i + 1) parts))))

  pub missing_end : (parts : List Selection) (i : ℕ) → length parts ≤ i → missing_among lists (all_names (forms_of (map form (drop i parts)))) ≡ None
  unfolding names
  missing_end parts i h = ap (λ ps. missing_among lists (all_names (forms_of (map form ps)))) (drop_all i parts h)
