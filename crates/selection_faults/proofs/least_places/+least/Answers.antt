-- Each kind of selection has the least places that its parts give; in the list one more part was passed.
use Rattle.std.proofs.Common.{map, take, sym, ap, ◌∙◌, arith}
use Rattle.selection_grammar.proofs.Views.{tree_words, tree_or, tree_and, tree_mild, tree_not, tree_filtered, tree_with}
use Rattle.counted_shapes.specs.Accepted.{is_counted}
use Rattle.selection_grammar.specs.Form.{form_of}
use Rattle.selection_grammar.specs.View.{tree}
use Rattle.selection_faults.specs.LeastPlaces.{least_places, least_places_of, both, of_mild_not, of_not, of_filtered, of_with}
use Rattle.selection_faults.proofs.LeastPlacesLemmas.{least_words, least_or, least_and, least_mild_not, least_not, least_filtered, least_with, least_next}
use Rattle.selection_faults.proofs.least_places.+least.Goals as goal

pub least_places-returns-in-Words : goal.least_places-returns-in-Words
least_places-returns-in-Words t c =
    c.of_words.ensures ∙ least_words c.in-Words.words ∙ ap least_places (sym (tree_words c.in-Words.words) ∙ ap tree (sym c.in-Words.is))

pub least_places-returns-in-Or : goal.least_places-returns-in-Or
least_places-returns-in-Or t c =
    c.of_parts.ensures ∙ least_or (map tree c.in-Or.parts) ∙ ap least_places (sym (tree_or c.in-Or.parts) ∙ ap tree (sym c.in-Or.is))

pub least_places-returns-in-And : goal.least_places-returns-in-And
least_places-returns-in-And t c =
    c.of_parts-in-And.ensures ∙ least_and (map tree c.in-And.parts) ∙ ap least_places (sym (tree_and c.in-And.parts) ∙ ap tree (sym c.in-And.is))

pub least_places-returns-in-MildNot : goal.least_places-returns-in-MildNot
least_places-returns-in-MildNot t c =
    let left = c.in-MildNot.left in
    let right = c.in-MildNot.right in
    c.mild_not.ensures
    ∙ ap (λ places. of_mild_not places c.least_places-in-MildNot.result) (c.least_places.ensures ∙ ap (λ operand. least_places (tree operand)) c.deref.ensures)
    ∙ ap (of_mild_not (least_places (tree left.value))) (c.least_places-in-MildNot.ensures ∙ ap (λ operand. least_places (tree operand)) c.deref-in-MildNot.ensures)
    ∙ least_mild_not (tree left.value) (tree right.value)
    ∙ ap least_places (sym (tree_mild left right) ∙ ap tree (sym c.in-MildNot.is))

pub least_places-returns-in-Not : goal.least_places-returns-in-Not
least_places-returns-in-Not t c =
    let operand = c.in-Not.operand in
    c.negated.ensures
    ∙ ap (of_not c.in-Not.at) (c.least_places-in-Not.ensures ∙ ap (λ x. least_places (tree x)) c.deref-in-Not.ensures)
    ∙ least_not c.in-Not.at (tree operand.value)
    ∙ ap least_places (sym (tree_not c.in-Not.at operand) ∙ ap tree (sym c.in-Not.is))

pub least_places-returns-in-Filtered : goal.least_places-returns-in-Filtered
least_places-returns-in-Filtered t c =
    let operand = c.in-Filtered.operand in
    let filter = c.in-Filtered.filter in
    c.filtered.ensures
    ∙ ap (λ counted. of_filtered counted c.least_places-in-Filtered.result) (c.is_counted.ensures ∙ ap (λ x. is_counted (form_of (tree x)) filter) c.deref-in-Filtered.ensures)
    ∙ ap (of_filtered (is_counted (form_of (tree operand.value)) filter)) (c.least_places-in-Filtered.ensures ∙ ap (λ x. least_places (tree x)) c.deref-in-Filtered-2.ensures)
    ∙ least_filtered (tree operand.value) filter
    ∙ ap least_places (sym (tree_filtered operand filter) ∙ ap tree (sym c.in-Filtered.is))

pub least_places-returns-in-With : goal.least_places-returns-in-With
least_places-returns-in-With t c =
    let operand = c.in-With.operand in
    let options = c.in-With.options in
    c.with_options.ensures
    ∙ ap (λ places. of_with places options) (c.least_places-in-With.ensures ∙ ap (λ x. least_places (tree x)) c.deref-in-With.ensures)
    ∙ least_with (tree operand.value) options
    ∙ ap least_places (sym (tree_with operand options) ∙ ap tree (sym c.in-With.is))

pub of_parts-loop-part-init : goal.of_parts-loop-part-init
unfolding least_places_of
of_parts-loop-part-init t c = c.none-least.ensures

pub of_parts-loop-part-preserved : goal.of_parts-loop-part-preserved
of_parts-loop-part-preserved t c =
    let items = c.as_slice-part-items.result.now in
    c.both-least.ensures
    ∙ ap (λ places. both places c.least_places.result) c.loop-part.invariant
    ∙ ap (both (least_places_of (map tree (take c.loop-part.part-index items)))) (c.least_places.ensures ∙ ap (λ x. least_places (tree x)) c.part-item.is)
    ∙ least_next tree items c.loop-part.part-index c.part-item.result (omega arith)
