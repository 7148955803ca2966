-- Each kind has what its operands have.
use Rattle.std.proofs.Common.{◌∙◌, ◌&&◌, sym, ap}
use Rattle.plan_compiler.specs.declared.operator_plan.OperatorSides.{OperatorSides}
use Rattle.match_marks.specs.steps.WindowRuns.{have_one_length, joins_phrases}
use Rattle.match_marks.proofs.window_plan.+phrases.Goals as goal

pub joins_phrases-returns-in-Phrase : goal.joins_phrases-returns-in-Phrase
unfolding joins_phrases
joins_phrases-returns-in-Phrase t c = c.have_one_length.ensures ∙ ap have_one_length c.as_slice.ensures ∙ sym (ap joins_phrases c.in-Phrase.is)

pub joins_phrases-returns-in-Choice : goal.joins_phrases-returns-in-Choice
unfolding joins_phrases
joins_phrases-returns-in-Choice t c = sym (ap joins_phrases c.in-Choice.is)

pub joins_phrases-returns-in-Both : goal.joins_phrases-returns-in-Both
unfolding joins_phrases
joins_phrases-returns-in-Both t c =
    c.join_phrases.ensures ∙ ap (λ (sides : OperatorSides). joins_phrases sides.left && joins_phrases sides.right) c.deref.ensures ∙ sym (ap joins_phrases c.in-Both.is)

pub joins_phrases-returns-in-MildNot : goal.joins_phrases-returns-in-MildNot
unfolding joins_phrases
joins_phrases-returns-in-MildNot t c = sym (ap joins_phrases c.in-MildNot.is)

pub joins_phrases-returns-in-Negated : goal.joins_phrases-returns-in-Negated
unfolding joins_phrases
joins_phrases-returns-in-Negated t c = sym (ap joins_phrases c.in-Negated.is)

pub joins_phrases-returns-in-Filtered : goal.joins_phrases-returns-in-Filtered
unfolding joins_phrases
joins_phrases-returns-in-Filtered t c = sym (ap joins_phrases c.in-Filtered.is)
