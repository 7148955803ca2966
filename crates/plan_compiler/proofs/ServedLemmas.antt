-- What each kind of selection asks to be looked at.
use Rattle.std.proofs.Common.{◌≡◌, sym, ap, refl, ◌∙◌, ℕ, ◌+◌, ◌<◌, ◌≤◌, Bool, true, false, not, ◌&&◌, List, map, Box, Global, rules, length, get_or, drop}
use Rattle.std.proofs.lemmas.List.{drop_more, drop_all}
use Rattle.ft_base.specs.declared.options.Options.{Options}
use Rattle.ft_base.specs.declared.words.Words.{Words}
use Rattle.ft_base.specs.declared.filter.Filter.{Filter}
use Rattle.ft_base.specs.Selection.{Form, Forms, words, or_of, and_of, mild_not, not_of, filtered, with_options, none, more}
use Rattle.ft_syntax.specs.View.{form, forms_of}
use Rattle.ft_syntax.specs.declared.selection.Selection.{Selection}
use Rattle.ft_syntax.specs.declared.selection.Selection as S
use Rattle.ft_syntax.proofs.Views.{form-Or, form-And, form-MildNot}
use Rattle.plan_compiler.specs.Served.{are_served, everything, is_served, all_served}
use Rattle.plan_compiler.specs.declared.looks.Looks.{Looks}

-- ---- the plain data of each kind

pub form-Words : (value : Words) → form (S.Words value) ≡ words value
form-Words value = search (rules, S.the_lemmas)

pub form-Not : (operand : Box Selection Global) → form (S.Not operand) ≡ not_of (form operand.value)
form-Not operand = search (rules, S.the_lemmas)

pub form-Filtered : (operand : Box Selection Global) (kind : Filter) → form (S.Filtered operand kind) ≡ filtered (form operand.value) kind
form-Filtered operand kind = search (rules, S.the_lemmas)

pub form-With : (operand : Box Selection Global) (options : Options) → form (S.With operand options) ≡ with_options (form operand.value) options
form-With operand options = search (rules, S.the_lemmas)

-- ---- whether it is served

module _ (looks : Looks) (selection : Selection) where
  pub served-Words : (value : Words) → selection ≡ S.Words value → is_served looks (form selection) ≡ are_served looks value.options
  unfolding is_served
  served-Words value e = ap (is_served looks) (ap form e ∙ form-Words value)

  pub served-Or : (parts : List Selection) → selection ≡ S.Or parts → is_served looks (form selection) ≡ all_served looks (forms_of (map form parts))
  unfolding is_served
  served-Or parts e = ap (is_served looks) (ap form e ∙ form-Or parts)

  pub served-And : (parts : List Selection) → selection ≡ S.And parts → is_served looks (form selection) ≡ all_served looks (forms_of (map form parts))
  unfolding is_served
  served-And parts e = ap (is_served looks) (ap form e ∙ form-And parts)

  pub served-Not : (operand : Box Selection Global) → selection ≡ S.Not operand → is_served looks (form selection) ≡ is_served looks (form operand.value)
  unfolding is_served
  served-Not operand e = ap (is_served looks) (ap form e ∙ form-Not operand)

  pub served-With : (operand : Box Selection Global) (options : Options) → selection ≡ S.With operand options → is_served looks (form selection) ≡ (are_served looks options && is_served looks (form operand.value))
  unfolding is_served
  served-With operand options e = ap (is_served looks) (ap form e ∙ form-With operand options)

  pub served-MildNot : (left right : Box Selection Global) → selection ≡ S.MildNot left right → is_served looks (form selection) ≡ (is_served looks (form left.value) && is_served looks (form right.value))
  unfolding is_served
  served-MildNot left right e = ap (is_served looks) (ap form e ∙ form-MildNot left right)

  pub served-Filtered : (operand : Box Selection Global) (kind : Filter) → selection ≡ S.Filtered operand kind → is_served looks (form selection) ≡ is_served looks (form operand.value)
  unfolding is_served
  served-Filtered operand kind e = ap (is_served looks) (ap form e ∙ form-Filtered operand kind)

-- one operand more, and the end
pub served_more : (looks : Looks) (parts : List Selection) (i : ℕ) (part : Selection) → i < length parts → part ≡ get_or parts i part
    → all_served looks (forms_of (map form (drop i parts))) ≡ (is_served looks (form part) && all_served looks (forms_of (map form (drop (i + 1) parts))))
unfolding is_served
served_more looks parts i part h is =
    ap (λ ps. all_served looks (forms_of (map form ps))) (drop_more parts i part h)
    ∙ ap (λ p. is_served looks (form p) && all_served looks (forms_of (map form (drop (i + 1) parts)))) (sym is)

pub served_end : (looks : Looks) (parts : List Selection) (i : ℕ) → length parts ≤ i → all_served looks (forms_of (map form (drop i parts))) ≡ true
unfolding is_served
served_end looks parts i h = ap (λ ps. all_served looks (forms_of (map form ps))) (drop_all i parts h)

-- where everything is looked at, each selection is served
mutual
  unfolding is_served

  pub everything_serves : (selection : Form) → is_served everything selection ≡ true
  everything_serves (words value) = refl
  everything_serves (or_of forms) = everything_serves_all forms
  everything_serves (and_of forms) = everything_serves_all forms
  everything_serves (mild_not left right) = λ i. everything_serves left i && everything_serves right i
  everything_serves (not_of selection) = everything_serves selection
  everything_serves (filtered selection kind) = everything_serves selection
  everything_serves (with_options selection options) = everything_serves selection

  everything_serves_all : (forms : Forms) → all_served everything forms ≡ true
  everything_serves_all none = refl
  everything_serves_all (more selection rest) = λ i. everything_serves selection i && everything_serves_all rest i

-- where keys alone don't serve, all forms are looked at
pub forms_serve : (selection : Form) (by_key : Bool) → by_key ≡ is_served (record { all_forms = false; stems = true }) selection → is_served (record { all_forms = not by_key; stems = true }) selection ≡ true
forms_serve selection true serves = sym serves
forms_serve selection false serves = everything_serves selection
