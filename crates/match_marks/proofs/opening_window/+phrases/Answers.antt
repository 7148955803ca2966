-- Each kind puts the phrases that it joins.
use Rattle.std.proofs.Common.{◌∙◌, ◌&&◌, ◌++◌, sym, ap}
use Rattle.std.proofs.lemmas.Result.{on_ok_weaker}
use Rattle.plan_compiler.specs.declared.operator_plan.OperatorSides.{OperatorSides}
use Rattle.plan_kinds.specs.steps.JoinedPhrases.{joined_phrases}
use Rattle.match_marks.specs.steps.WindowRuns.{all_aims, joins_phrases}
use Rattle.match_marks.proofs.WindowOpened.{put_both, put_other, put_phrase, put_sides}
use Rattle.match_marks.proofs.opening_window.+phrases.Goals as goal

pub push_phrases-returns-in-Phrase : goal.push_phrases-returns-in-Phrase
push_phrases-returns-in-Phrase t c =
    on_ok_weaker c.push_walk.result (λ put.
    put_phrase c.args.opening.now.looks c.args.opening.now.lists.now.stems c.args.opening.now.version.now (all_aims c.args.phrases.now.items) (all_aims c.push_walk.new.phrases.items) c.args.plan.now c.in-Phrase._phrase c.in-Phrase.is
    (put c.in-Phrase._phrase c.in-Phrase.is)) c.push_walk.ensures

pub push_phrases-returns-in-Choice : goal.push_phrases-returns-in-Choice
unfolding joins_phrases
push_phrases-returns-in-Choice t c = put_other c.args.opening.now.looks c.args.opening.now.lists.now.stems c.args.opening.now.version.now (all_aims c.args.phrases.now.items) c.args.plan.now (joined_phrases c.args.plan.now) (ap joins_phrases c.in-Choice.is)

pub push_phrases-returns-in-Both : goal.push_phrases-returns-in-Both
unfolding joins_phrases joined_phrases
push_phrases-returns-in-Both t c =
    on_ok_weaker c.push_sides.result (λ put.
    put_both c.args.opening.now.looks c.args.opening.now.lists.now.stems c.args.opening.now.version.now (all_aims c.args.phrases.now.items) (all_aims c.push_sides.new.phrases.items) c.args.plan.now c.deref.result.now
    (ap joins_phrases c.in-Both.is ∙ ap (λ (sides : OperatorSides). joins_phrases sides.left && joins_phrases sides.right) (sym c.deref.ensures))
    (ap joined_phrases c.in-Both.is ∙ ap (λ (sides : OperatorSides). joined_phrases sides.left ++ joined_phrases sides.right) (sym c.deref.ensures))
    put) c.push_sides.ensures

pub push_phrases-returns-in-MildNot : goal.push_phrases-returns-in-MildNot
unfolding joins_phrases
push_phrases-returns-in-MildNot t c = put_other c.args.opening.now.looks c.args.opening.now.lists.now.stems c.args.opening.now.version.now (all_aims c.args.phrases.now.items) c.args.plan.now (joined_phrases c.args.plan.now) (ap joins_phrases c.in-MildNot.is)

pub push_phrases-returns-in-Negated : goal.push_phrases-returns-in-Negated
unfolding joins_phrases
push_phrases-returns-in-Negated t c = put_other c.args.opening.now.looks c.args.opening.now.lists.now.stems c.args.opening.now.version.now (all_aims c.args.phrases.now.items) c.args.plan.now (joined_phrases c.args.plan.now) (ap joins_phrases c.in-Negated.is)

pub push_phrases-returns-in-Filtered : goal.push_phrases-returns-in-Filtered
unfolding joins_phrases
push_phrases-returns-in-Filtered t c = put_other c.args.opening.now.looks c.args.opening.now.lists.now.stems c.args.opening.now.version.now (all_aims c.args.phrases.now.items) c.args.plan.now (joined_phrases c.args.plan.now) (ap joins_phrases c.in-Filtered.is)

pub push_sides-returns : goal.push_sides-returns
push_sides-returns t c =
    on_ok_weaker c.push_phrases-2.result (λ put.
    put_sides c.args.opening.now.looks c.args.opening.now.lists.now.stems c.args.opening.now.version.now (all_aims c.args.phrases.now.items)
    (all_aims c.push_phrases.new.phrases.items) (all_aims c.push_phrases-2.new.phrases.items) c.args.sides.now.left c.args.sides.now.right
    c.in_ok-push_phrases.ensures put) c.push_phrases-2.ensures
