-- Which selections of each kind can be shown.
use Rattle.std.proofs.Common.{◌≡◌, sym, ap, refl, ◌∙◌, ℕ, ◌+◌, ◌<◌, ◌≤◌, Bool, true, false, not, ◌&&◌, ◌||◌, List, map, Box, Global, rules, length, get_or, drop}
use Rattle.std.specs.Prelude.{Option, Some, None, is_some}
use Rattle.std.proofs.lemmas.List.{drop_more, drop_all}
use Rattle.ft_base.specs.declared.options.Options.{Options}
use Rattle.ft_base.specs.declared.range.Range.{Range}
use Rattle.ft_base.specs.declared.words.Words.{Words}
use Rattle.ft_base.specs.declared.filter.Filter.{Filter}
use Rattle.ft_base.specs.Selection.{Form, Forms, words, or_of, and_of, mild_not, not_of, filtered, with_options, none, more}
use Rattle.ft_syntax.specs.View.{form, forms_of}
use Rattle.ft_syntax.specs.declared.selection.Selection.{Selection}
use Rattle.ft_syntax.specs.declared.selection.Selection as S
use Rattle.ft_syntax.proofs.Views.{form-Or, form-And, form-MildNot}
use Rattle.all_matches.specs.Allowed.{has_no_range}
use Rattle.best_hits.specs.Showable.{can_show_in, each_can_show_in}

form-Words : (value : Words) → form (S.Words value) ≡ words value
form-Words value = search (rules, S.the_lemmas)

form-Not : (operand : Box Selection Global) → form (S.Not operand) ≡ not_of (form operand.value)
form-Not operand = search (rules, S.the_lemmas)

form-Filtered : (operand : Box Selection Global) (kind : Filter) → form (S.Filtered operand kind) ≡ filtered (form operand.value) kind
form-Filtered operand kind = search (rules, S.the_lemmas)

form-With : (operand : Box Selection Global) (options : Options) → form (S.With operand options) ≡ with_options (form operand.value) options
form-With operand options = search (rules, S.the_lemmas)

-- no range was written
pub no_range : (times : Option Range) (none : Bool) → is_some times ≡ not none → none ≡ has_no_range times
no_range None true h = refl
no_range None false h = cc
no_range (Some range) true h = cc
no_range (Some range) false h = refl

module _ (times nots : Bool) (selection : Selection) where
  pub show-Words : (value : Words) → selection ≡ S.Words value → (times || has_no_range value.times) ≡ can_show_in times nots (form selection)
  unfolding can_show_in
  show-Words value e = sym (ap (can_show_in times nots) (ap form e ∙ form-Words value))

  pub show-Or : (parts : List Selection) → selection ≡ S.Or parts → each_can_show_in times nots (forms_of (map form parts)) ≡ can_show_in times nots (form selection)
  unfolding can_show_in
  show-Or parts e = sym (ap (can_show_in times nots) (ap form e ∙ form-Or parts))

  pub show-And : (parts : List Selection) → selection ≡ S.And parts → each_can_show_in times nots (forms_of (map form parts)) ≡ can_show_in times nots (form selection)
  unfolding can_show_in
  show-And parts e = sym (ap (can_show_in times nots) (ap form e ∙ form-And parts))

  pub show-MildNot : (left right : Box Selection Global) → selection ≡ S.MildNot left right
      → (can_show_in times nots (form left.value) && can_show_in times nots (form right.value)) ≡ can_show_in times nots (form selection)
  unfolding can_show_in
  show-MildNot left right e = sym (ap (can_show_in times nots) (ap form e ∙ form-MildNot left right))

  pub show-Not : (operand : Box Selection Global) → selection ≡ S.Not operand → (nots && can_show_in false false (form operand.value)) ≡ can_show_in times nots (form selection)
  unfolding can_show_in
  show-Not operand e = sym (ap (can_show_in times nots) (ap form e ∙ form-Not operand))

  pub show-Filtered : (operand : Box Selection Global) (kind : Filter) → selection ≡ S.Filtered operand kind → can_show_in false nots (form operand.value) ≡ can_show_in times nots (form selection)
  unfolding can_show_in
  show-Filtered operand kind e = sym (ap (can_show_in times nots) (ap form e ∙ form-Filtered operand kind))

  pub show-With : (operand : Box Selection Global) (options : Options) → selection ≡ S.With operand options → can_show_in times nots (form operand.value) ≡ can_show_in times nots (form selection)
  unfolding can_show_in
  show-With operand options e = sym (ap (can_show_in times nots) (ap form e ∙ form-With operand options))

-- one operand more, and the end
module _ (times nots : Bool) (parts : List Selection) where
  pub show_more : (i : ℕ) (part : Selection) → i < length parts → part ≡ get_or parts i part
      → (can_show_in times nots (form part) && each_can_show_in times nots (forms_of (map form (drop (i + 1) parts)))) ≡ each_can_show_in times nots (forms_of (map form (drop i parts)))
  unfolding each_can_show_in
  show_more i part h is =
      (λ j. can_show_in times nots (form (is j)) && each_can_show_in times nots (forms_of (map form (drop (i + 1) parts))))
      ∙ sym (ap (λ rest. each_can_show_in times nots (forms_of (map form rest))) (drop_more parts i part h))

  pub show_end : (i : ℕ) → length parts ≤ i → true ≡ each_can_show_in times nots (forms_of (map form (drop i parts)))
  unfolding each_can_show_in
  show_end i h = sym (ap (λ rest. each_can_show_in times nots (forms_of (map form rest))) (drop_all i parts h))
