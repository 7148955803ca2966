-- Whether each kind of selection has a range of times.
use Rattle.std.proofs.Common.{◌≡◌, sym, ap, ◌∙◌, ℕ, ◌+◌, ◌<◌, ◌≤◌, true, ◌&&◌, List, map, Box, Global, length, get_or, drop}
use Rattle.std.proofs.lemmas.List.{drop_more, drop_all}
use Rattle.ft_base.specs.declared.filter.Filter.{Filter}
use Rattle.ft_base.specs.declared.options.Options.{Options}
use Rattle.ft_base.specs.declared.words.Words.{Words}
use Rattle.ft_syntax.specs.View.{form, forms_of}
use Rattle.ft_syntax.specs.declared.selection.Selection.{Selection}
use Rattle.ft_syntax.specs.declared.selection.Selection as S
use Rattle.ft_syntax.proofs.Views.{form-Or, form-And, form-MildNot}
use Rattle.all_matches.specs.Allowed.{each_without_times, has_no_range, without_times}
use Rattle.plan_compiler.proofs.ServedLemmas.{form-Words, form-Not, form-Filtered, form-With}

module _ (selection : Selection) where
  pub times-Words : (value : Words) → selection ≡ S.Words value → without_times (form selection) ≡ has_no_range value.times
  unfolding without_times
  times-Words value e = ap without_times (ap form e ∙ form-Words value)

  pub times-Or : (parts : List Selection) → selection ≡ S.Or parts → without_times (form selection) ≡ each_without_times (forms_of (map form parts))
  unfolding without_times
  times-Or parts e = ap without_times (ap form e ∙ form-Or parts)

  pub times-And : (parts : List Selection) → selection ≡ S.And parts → without_times (form selection) ≡ each_without_times (forms_of (map form parts))
  unfolding without_times
  times-And parts e = ap without_times (ap form e ∙ form-And parts)

  pub times-MildNot : (left right : Box Selection Global) → selection ≡ S.MildNot left right
      → without_times (form selection) ≡ (without_times (form left.value) && without_times (form right.value))
  unfolding without_times
  times-MildNot left right e = ap without_times (ap form e ∙ form-MildNot left right)

  pub times-Not : (operand : Box Selection Global) → selection ≡ S.Not operand → without_times (form selection) ≡ without_times (form operand.value)
  unfolding without_times
  times-Not operand e = ap without_times (ap form e ∙ form-Not operand)

  pub times-Filtered : (operand : Box Selection Global) (kind : Filter) → selection ≡ S.Filtered operand kind → without_times (form selection) ≡ without_times (form operand.value)
  unfolding without_times
  times-Filtered operand kind e = ap without_times (ap form e ∙ form-Filtered operand kind)

  pub times-With : (operand : Box Selection Global) (options : Options) → selection ≡ S.With operand options → without_times (form selection) ≡ without_times (form operand.value)
  unfolding without_times
  times-With operand options e = ap without_times (ap form e ∙ form-With operand options)

-- one operand more, and the end
pub times_more : (parts : List Selection) (i : ℕ) (part : Selection) → i < length parts → part ≡ get_or parts i part
    → each_without_times (forms_of (map form (drop i parts))) ≡ (without_times (form part) && each_without_times (forms_of (map form (drop (i + 1) parts))))
unfolding without_times
times_more parts i part h is =
    ap (λ ps. each_without_times (forms_of (map form ps))) (drop_more parts i part h)
    ∙ ap (λ p. without_times (form p) && each_without_times (forms_of (map form (drop (i + 1) parts)))) (sym is)

pub times_end : (parts : List Selection) (i : ℕ) → length parts ≤ i → each_without_times (forms_of (map form (drop i parts))) ≡ true
unfolding without_times
times_end parts i h = ap (λ ps. each_without_times (forms_of (map form ps))) (drop_all i parts h)
