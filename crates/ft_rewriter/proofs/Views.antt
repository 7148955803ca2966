-- The plain data of each kind of selection, as one set for the search.
use Rattle.std.proofs.Common.{◌≡◌, List, map, Box, Global, rules}
use Rattle.ft_base.specs.declared.filter.Filter.{Filter}
use Rattle.ft_base.specs.declared.options.Options.{Options}
use Rattle.ft_base.specs.declared.words.Words.{Words}
use Rattle.ft_base.specs.Selection.{words, or_of, and_of, mild_not, not_of, filtered, with_options}
use Rattle.ft_syntax.specs.View.{form, forms_of}
use Rattle.ft_syntax.specs.declared.selection.Selection as selection
use Rattle.ft_syntax.specs.declared.selection.Selection.{Selection, the_lemmas}

pub form_words : (value : Words) → form (selection.Words value) ≡ words value
form_words value = search (rules, the_lemmas)

pub form_or : (parts : List Selection) → form (selection.Or parts) ≡ or_of (forms_of (map form parts))
form_or parts = search (rules, the_lemmas)

pub form_and : (parts : List Selection) → form (selection.And parts) ≡ and_of (forms_of (map form parts))
form_and parts = search (rules, the_lemmas)

pub form_mild_not : (left right : Box Selection Global) → form (selection.MildNot left right) ≡ mild_not (form left.value) (form right.value)
form_mild_not left right = search (rules, the_lemmas)

pub form_not : (operand : Box Selection Global) → form (selection.Not operand) ≡ not_of (form operand.value)
form_not operand = search (rules, the_lemmas)

pub form_filtered : (operand : Box Selection Global) (filter : Filter) → form (selection.Filtered operand filter) ≡ filtered (form operand.value) filter
form_filtered operand filter = search (rules, the_lemmas)

pub form_with : (operand : Box Selection Global) (options : Options) → form (selection.With operand options) ≡ with_options (form operand.value) options
form_with operand options = search (rules, the_lemmas)

pub ruleset views = (form_words, form_or, form_and, form_mild_not, form_not, form_filtered, form_with)
