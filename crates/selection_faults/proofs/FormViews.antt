-- The plain data of each kind of selection, and of lists of selections.
use Rattle.std.proofs.Common.{◌≡◌, List, [], ◌∷◌, map, Box, Global, rules, refl, ap}
use Rattle.ft_base.specs.declared.filter.Filter.{Filter}
use Rattle.ft_base.specs.declared.options.Options.{Options}
use Rattle.ft_base.specs.declared.words.Words.{Words}
use Rattle.ft_base.specs.Selection as f
use Rattle.ft_syntax.specs.View.{form, forms_of as forms}
use Rattle.ft_syntax.specs.declared.selection.Selection as S
use Rattle.ft_syntax.specs.declared.selection.Selection.{Selection, the_lemmas}
use Rattle.selection_grammar.specs.Form.{form_of, forms_of}
use Rattle.selection_grammar.specs.Tree.{Tree, trees_of}

pub form_words : (words : Words) → form (S.Words words) ≡ f.words words
form_words words = search (rules, the_lemmas)

pub form_or : (parts : List Selection) → form (S.Or parts) ≡ f.or_of (forms (map form parts))
form_or parts = search (rules, the_lemmas)

pub form_and : (parts : List Selection) → form (S.And parts) ≡ f.and_of (forms (map form parts))
form_and parts = search (rules, the_lemmas)

pub form_mild_not : (left right : Box Selection Global) → form (S.MildNot left right) ≡ f.mild_not (form left.value) (form right.value)
form_mild_not left right = search (rules, the_lemmas)

pub form_not : (operand : Box Selection Global) → form (S.Not operand) ≡ f.not_of (form operand.value)
form_not operand = search (rules, the_lemmas)

pub form_filtered : (operand : Box Selection Global) (filter : Filter) → form (S.Filtered operand filter) ≡ f.filtered (form operand.value) filter
form_filtered operand filter = search (rules, the_lemmas)

pub form_with : (operand : Box Selection Global) (options : Options) → form (S.With operand options) ≡ f.with_options (form operand.value) options
form_with operand options = search (rules, the_lemmas)

pub forms_of_trees : (trees : List Tree) → forms (map form_of trees) ≡ forms_of (trees_of trees)
unfolding form_of
forms_of_trees [] = refl
forms_of_trees (tree ∷ rest) = ap (f.more (form_of tree)) (forms_of_trees rest)
