-- Each kind of selection is made of what its parts stand for.
use Rattle.std.proofs.Common.{map, sym, ap, ◌∙◌}
use Rattle.ft_base.specs.Selection as f
use Rattle.ft_syntax.specs.View.{form, forms_of as forms}
use Rattle.selection_grammar.proofs.Views.{tree_words, tree_or, tree_and, tree_mild, tree_not, tree_filtered, tree_with}
use Rattle.selection_grammar.specs.Form.{form_of}
use Rattle.selection_grammar.specs.View.{tree}
use Rattle.selection_faults.proofs.FormViews.{form_words, form_or, form_and, form_mild_not, form_not, form_filtered, form_with, forms_of_trees}
use Rattle.selection_faults.proofs.selection.+make.Goals as goal

pub selection_of-returns-in_ok-words_of-in-Words : goal.selection_of-returns-in_ok-words_of-in-Words
selection_of-returns-in_ok-words_of-in-Words t c =
    let w = c.in-Words.words in
    form_words c.in_ok-words_of-in-Words.field-0 ∙ c.in_ok-words_of-in-Words.ensures ∙ ap form_of (sym (tree_words w) ∙ ap tree (sym c.in-Words.is))

pub selection_of-returns-in_ok-selections_of-in-Or : goal.selection_of-returns-in_ok-selections_of-in-Or
unfolding form_of
selection_of-returns-in_ok-selections_of-in-Or t c =
    let parts = c.in-Or.parts in
    form_or c.in_ok-selections_of-in-Or.field-0
    ∙ ap f.or_of (ap forms c.in_ok-selections_of-in-Or.ensures ∙ forms_of_trees (map tree parts))
    ∙ ap form_of (sym (tree_or parts) ∙ ap tree (sym c.in-Or.is))

pub selection_of-returns-in_ok-selections_of-in-And : goal.selection_of-returns-in_ok-selections_of-in-And
unfolding form_of
selection_of-returns-in_ok-selections_of-in-And t c =
    let parts = c.in-And.parts in
    form_and c.in_ok-selections_of-in-And.field-0
    ∙ ap f.and_of (ap forms c.in_ok-selections_of-in-And.ensures ∙ forms_of_trees (map tree parts))
    ∙ ap form_of (sym (tree_and parts) ∙ ap tree (sym c.in-And.is))

pub selection_of-returns-in_ok-boxed-in-MildNot-2 : goal.selection_of-returns-in_ok-boxed-in-MildNot-2
unfolding form_of
selection_of-returns-in_ok-boxed-in-MildNot-2 t c =
    let left = c.in-MildNot.left in
    let right = c.in-MildNot.right in
    let made = c.in_ok-boxed-in-MildNot-2.field-0 in
    form_mild_not c.in_ok-boxed-in-MildNot.field-0 made
    ∙ ap (λ x. f.mild_not x (form made.value)) c.in_ok-boxed-in-MildNot.ensures
    ∙ ap (f.mild_not (form_of (tree left.value))) c.in_ok-boxed-in-MildNot-2.ensures
    ∙ ap form_of (sym (tree_mild left right) ∙ ap tree (sym c.in-MildNot.is))

pub selection_of-returns-in_ok-boxed-in-Not : goal.selection_of-returns-in_ok-boxed-in-Not
unfolding form_of
selection_of-returns-in_ok-boxed-in-Not t c =
    form_not c.in_ok-boxed-in-Not.field-0
    ∙ ap f.not_of c.in_ok-boxed-in-Not.ensures
    ∙ ap form_of (sym (tree_not c.in-Not.field-0 c.in-Not.operand) ∙ ap tree (sym c.in-Not.is))

pub selection_of-returns-in_ok-boxed-in-Filtered : goal.selection_of-returns-in_ok-boxed-in-Filtered
unfolding form_of
selection_of-returns-in_ok-boxed-in-Filtered t c =
    let filter = c.in-Filtered.filter in
    form_filtered c.in_ok-boxed-in-Filtered.field-0 filter
    ∙ ap (λ x. f.filtered x filter) c.in_ok-boxed-in-Filtered.ensures
    ∙ ap form_of (sym (tree_filtered c.in-Filtered.operand filter) ∙ ap tree (sym c.in-Filtered.is))

pub selection_of-returns-in_ok-boxed-in-With : goal.selection_of-returns-in_ok-boxed-in-With
unfolding form_of
selection_of-returns-in_ok-boxed-in-With t c =
    let operand = c.in-With.operand in
    let options = c.in-With.options in
    form_with c.in_ok-boxed-in-With.field-0 c.options_of.result
    ∙ ap (λ x. f.with_options x c.options_of.result) c.in_ok-boxed-in-With.ensures
    ∙ ap (f.with_options (form_of (tree operand.value))) c.options_of.ensures
    ∙ ap form_of (sym (tree_with operand options) ∙ ap tree (sym c.in-With.is))
