-- What is to be shown of each kind of selection: what stands under a filter has no `occurs`.
use Rattle.std.proofs.Common.{◌≡◌, refl, sym, ap, ◌∙◌, ℕ, zero, suc, ◌<◌, Bool, true, false, List, [], ◌∷◌, map, length, get_or, arith, Box, Global}
use Rattle.std.proofs.lemmas.Bool.{and_from, and_parts}
use Rattle.ft_base.specs.declared.filter.Filter.{Filter}
use Rattle.ft_base.specs.declared.options.Options.{Options}
use Rattle.ft_base.specs.Selection.{Form, Forms, words, or_of, and_of, mild_not, not_of, filtered, with_options, none, more}
use Rattle.ft_syntax.specs.View.{form, forms_of}
use Rattle.ft_syntax.specs.declared.selection.Selection.{Selection}
use Rattle.ft_syntax.specs.declared.selection.Selection as S
use Rattle.ft_syntax.proofs.Views.{form-And, form-Or}
use Rattle.all_matches.specs.Allowed.{each_without_times, without_times}
use Rattle.best_hits.specs.Showable.{can_show, can_show_in, each_can_show_in}
use Rattle.plan_compiler.proofs.ServedLemmas.{form-Filtered, form-With}

mutual
  unfolding can_show_in without_times

  none-shown : (nots : Bool) (selection : Form) → can_show_in false nots selection ≡ true → without_times selection ≡ true
  none-shown nots (words value) h = h
  none-shown nots (or_of forms) h = none-shown-of nots forms h
  none-shown nots (and_of forms) h = none-shown-of nots forms h
  none-shown nots (mild_not left right) h =
      let parts = and_parts (can_show_in false nots left) (can_show_in false nots right) h in
      and_from (without_times left) (without_times right) (none-shown nots left parts.0) (none-shown nots right parts.1)
  none-shown nots (not_of operand) h = none-shown false operand (and_parts nots (can_show_in false false operand) h).1
  none-shown nots (filtered operand kind) h = none-shown nots operand h
  none-shown nots (with_options operand inner) h = none-shown nots operand h

  none-shown-of : (nots : Bool) (forms : Forms) → each_can_show_in false nots forms ≡ true → each_without_times forms ≡ true
  none-shown-of nots none h = refl
  none-shown-of nots (more selection rest) h =
      let parts = and_parts (can_show_in false nots selection) (each_can_show_in false nots rest) h in
      and_from (without_times selection) (each_without_times rest) (none-shown nots selection parts.0) (none-shown-of nots rest parts.1)

module _ (selection : Selection) where
  pub showable-Or : (parts : List Selection) → selection ≡ S.Or parts → can_show (form selection) ≡ each_can_show_in true true (forms_of (map form parts))
  unfolding can_show_in
  showable-Or parts e = ap can_show (ap form e ∙ form-Or parts)

  pub showable-And : (parts : List Selection) → selection ≡ S.And parts → can_show (form selection) ≡ each_can_show_in true true (forms_of (map form parts))
  unfolding can_show_in
  showable-And parts e = ap can_show (ap form e ∙ form-And parts)

  pub showable-With : (operand : Box Selection Global) (options : Options) → selection ≡ S.With operand options → can_show (form selection) ≡ can_show (form operand.value)
  unfolding can_show_in
  showable-With operand options e = ap can_show (ap form e ∙ form-With operand options)

  pub showable-Filtered : (operand : Box Selection Global) (kind : Filter) → selection ≡ S.Filtered operand kind → can_show (form selection) ≡ true → without_times (form operand.value) ≡ true
  unfolding can_show_in
  showable-Filtered operand kind e h = none-shown true (form operand.value) (ap can_show (sym (ap form e ∙ form-Filtered operand kind)) ∙ h)

pub showable_at : (parts : List Selection) (i : ℕ) (part : Selection) → each_can_show_in true true (forms_of (map form parts)) ≡ true → i < length parts → part ≡ get_or parts i part → can_show (form part) ≡ true
unfolding can_show_in
showable_at [] i part h below is = absurd (omega arith)
showable_at (first ∷ parts) zero part h below is = ap (λ p. can_show (form p)) is ∙ (and_parts (can_show (form first)) (each_can_show_in true true (forms_of (map form parts))) h).0
showable_at (first ∷ parts) (suc i) part h below is = showable_at parts i part (and_parts (can_show (form first)) (each_can_show_in true true (forms_of (map form parts))) h).1 (omega arith) is
