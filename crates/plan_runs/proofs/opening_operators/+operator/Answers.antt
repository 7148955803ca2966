-- Each kind is opened by its operands.
use Rattle.std.proofs.Common.{◌≡◌}
use Rattle.std.proofs.lemmas.Result.{IfOk-weaker}
use Rattle.all_matches.specs.Ways.{either, together, apart, negated, through_filter}
use Rattle.ft_operators.specs.Tuples.{walk_of}
use Rattle.ft_operators.specs.Walk.{joined_walk, made_walk}
use Rattle.ft_operators.specs.declared.tuples.Tuples.{Tuples}
use Rattle.index_phrases.specs.Cursors.{state_of}
use Rattle.index_phrases.specs.declared.phrase_cursor.PhraseCursor.{PhraseCursor}
use Rattle.plan_runs.specs.steps.OpenedOperators.{aims_of, opened_aims, phrase_opened}
use Rattle.plan_runs.proofs.OpenedViews.{opened-Both, opened-Choice, opened-Filtered, opened-MildNot, opened-Negated, opened-Phrase}
use Rattle.plan_runs.proofs.opening_operators.+operator.Goals as goal

pub open_operator-returns-in-Phrase : goal.open_operator-returns-in-Phrase
open_operator-returns-in-Phrase t c =
    let opening = c.args.opening.now in
    let looks = opening.looks in
    let stems = opening.lists.now.stems in
    let version = opening.version.now in
    IfOk-weaker c.open_phrase.result (λ (tuples : Tuples PhraseCursor). aims_of tuples ≡ phrase_opened looks stems version c.in-Phrase.phrase)
    (λ (tuples : Tuples PhraseCursor). aims_of tuples ≡ opened_aims looks stems version c.args.plan.now)
    (λ tuples one. opened-Phrase looks stems version c.args.plan.now tuples c.in-Phrase.phrase c.in-Phrase.is one)
    c.open_phrase.ensures

pub open_operator-returns-in_ok-left-in-Choice : goal.open_operator-returns-in_ok-left-in-Choice
open_operator-returns-in_ok-left-in-Choice t c =
    let opening = c.args.opening.now in
    let looks = opening.looks in
    let stems = opening.lists.now.stems in
    let version = opening.version.now in
    IfOk-weaker c.choice.result (λ (tuples : Tuples PhraseCursor). walk_of state_of tuples ≡ joined_walk either (walk_of state_of c.in_ok-left-in-Choice.left) (walk_of state_of c.in_ok-left-in-Choice.right))
    (λ (tuples : Tuples PhraseCursor). aims_of tuples ≡ opened_aims looks stems version c.args.plan.now)
    (λ tuples walk.
    opened-Choice looks stems version c.args.plan.now tuples c.in-Choice.sides c.deref.result.now c.deref.ensures c.in_ok-left-in-Choice.left c.in_ok-left-in-Choice.right
    c.in_ok-left-in-Choice.ensures.left c.in_ok-left-in-Choice.ensures.right c.in-Choice.is walk)
    c.choice.ensures

pub open_operator-returns-in_ok-left-in-Both : goal.open_operator-returns-in_ok-left-in-Both
open_operator-returns-in_ok-left-in-Both t c =
    let opening = c.args.opening.now in
    let looks = opening.looks in
    let stems = opening.lists.now.stems in
    let version = opening.version.now in
    IfOk-weaker c.both.result (λ (tuples : Tuples PhraseCursor). walk_of state_of tuples ≡ joined_walk together (walk_of state_of c.in_ok-left-in-Both.left) (walk_of state_of c.in_ok-left-in-Both.right))
    (λ (tuples : Tuples PhraseCursor). aims_of tuples ≡ opened_aims looks stems version c.args.plan.now)
    (λ tuples walk.
    opened-Both looks stems version c.args.plan.now tuples c.in-Both.sides c.deref-in-Both.result.now c.deref-in-Both.ensures c.in_ok-left-in-Both.left c.in_ok-left-in-Both.right
    c.in_ok-left-in-Both.ensures.left c.in_ok-left-in-Both.ensures.right c.in-Both.is walk)
    c.both.ensures

pub open_operator-returns-in_ok-left-in-MildNot : goal.open_operator-returns-in_ok-left-in-MildNot
open_operator-returns-in_ok-left-in-MildNot t c =
    let opening = c.args.opening.now in
    let looks = opening.looks in
    let stems = opening.lists.now.stems in
    let version = opening.version.now in
    IfOk-weaker c.mild_not.result (λ (tuples : Tuples PhraseCursor). walk_of state_of tuples ≡ joined_walk apart (walk_of state_of c.in_ok-left-in-MildNot.left) (walk_of state_of c.in_ok-left-in-MildNot.right))
    (λ (tuples : Tuples PhraseCursor). aims_of tuples ≡ opened_aims looks stems version c.args.plan.now)
    (λ tuples walk.
    opened-MildNot looks stems version c.args.plan.now tuples c.in-MildNot.sides c.deref-in-MildNot.result.now c.deref-in-MildNot.ensures c.in_ok-left-in-MildNot.left c.in_ok-left-in-MildNot.right
    c.in_ok-left-in-MildNot.ensures.left c.in_ok-left-in-MildNot.ensures.right c.in-MildNot.is walk)
    c.mild_not.ensures

pub open_operator-returns-in_ok-operand-in-Negated : goal.open_operator-returns-in_ok-operand-in-Negated
open_operator-returns-in_ok-operand-in-Negated t c =
    let opening = c.args.opening.now in
    let looks = opening.looks in
    let stems = opening.lists.now.stems in
    let version = opening.version.now in
    IfOk-weaker c.negated.result (λ (tuples : Tuples PhraseCursor). walk_of state_of tuples ≡ made_walk negated (walk_of state_of c.in_ok-operand-in-Negated.operand))
    (λ (tuples : Tuples PhraseCursor). aims_of tuples ≡ opened_aims looks stems version c.args.plan.now)
    (λ tuples walk.
    opened-Negated looks stems version c.args.plan.now tuples c.in_ok-operand-in-Negated.operand c.in-Negated.plan c.deref-in-Negated.result.now c.deref-in-Negated.ensures c.in-Negated.is
    c.in_ok-operand-in-Negated.ensures walk)
    c.negated.ensures

pub open_operator-returns-in_ok-operand-in-Filtered : goal.open_operator-returns-in_ok-operand-in-Filtered
open_operator-returns-in_ok-operand-in-Filtered t c =
    let opening = c.args.opening.now in
    let looks = opening.looks in
    let stems = opening.lists.now.stems in
    let version = opening.version.now in
    IfOk-weaker c.filtered.result
    (λ (tuples : Tuples PhraseCursor). walk_of state_of tuples
    ≡ made_walk (λ operator. through_filter operator c.deref-in-Filtered-2.result.now.kind) (walk_of state_of c.in_ok-operand-in-Filtered.operand))
    (λ (tuples : Tuples PhraseCursor). aims_of tuples ≡ opened_aims looks stems version c.args.plan.now)
    (λ tuples walk.
    opened-Filtered looks stems version c.args.plan.now tuples c.in_ok-operand-in-Filtered.operand c.in-Filtered.plan c.deref-in-Filtered.result.now c.deref-in-Filtered-2.result.now
    c.deref-in-Filtered.ensures c.deref-in-Filtered-2.ensures c.in-Filtered.is c.in_ok-operand-in-Filtered.ensures walk)
    c.filtered.ensures
