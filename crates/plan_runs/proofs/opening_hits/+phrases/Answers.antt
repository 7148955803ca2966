-- Each kind puts its phrases after the others.
use Rattle.std.proofs.Common.{◌≡◌, ◌∙◌, ◌++◌, List, [], OnOk, append-nil, map, sym, ap, subst}
use Rattle.ft_operators.specs.Phrases.{PhraseAims}
use Rattle.index_phrases.specs.Cursors.{state_of}
use Rattle.phrase_merges.specs.Rows.{all_aims}
use Rattle.plan_compiler.specs.declared.operator_plan.OperatorSides.{OperatorSides}
use Rattle.plan_compiler.specs.declared.operator_plan.PhraseTests.{PhraseTests}
use Rattle.plan_kinds.specs.steps.JoinedPhrases.{joined_phrases}
use Rattle.plan_runs.specs.steps.Passes.{phrase_variants}
use Rattle.plan_runs.proofs.opening_hits.+phrases.Goals as goal

-- nothing is put where no phrase is joined
nothing_joined : (aims : PhraseTests → List PhraseAims) (opened : List (List PhraseAims)) (phrases : List PhraseTests) → phrases ≡ [] → opened ≡ opened ++ map aims phrases
nothing_joined aims opened phrases none = sym (ap (λ ps. opened ++ map aims ps) none ∙ append-nil opened)

pub push_phrases-returns-in-Phrase : goal.push_phrases-returns-in-Phrase
unfolding joined_phrases
push_phrases-returns-in-Phrase t c =
    let opening = c.args.opening.now in
    subst (λ (phrases : List PhraseTests). OnOk c.push_phrase.result (all_aims state_of c.push_phrase.new.phrases.items
    ≡ all_aims state_of c.args.phrases.now.items ++ map (phrase_variants opening.looks opening.lists.now.stems opening.version.now) phrases))
    (sym (ap joined_phrases c.in-Phrase.is)) c.push_phrase.ensures

pub push_phrases-returns-in-Choice : goal.push_phrases-returns-in-Choice
unfolding joined_phrases
push_phrases-returns-in-Choice t c =
    let opening = c.args.opening.now in
    nothing_joined (phrase_variants opening.looks opening.lists.now.stems opening.version.now) (all_aims state_of c.args.phrases.now.items) (joined_phrases c.args.plan.now) (ap joined_phrases c.in-Choice.is)

pub push_phrases-returns-in-Both : goal.push_phrases-returns-in-Both
unfolding joined_phrases
push_phrases-returns-in-Both t c =
    let opening = c.args.opening.now in
    subst (λ (phrases : List PhraseTests). OnOk c.push_sides.result (all_aims state_of c.push_sides.new.phrases.items
    ≡ all_aims state_of c.args.phrases.now.items ++ map (phrase_variants opening.looks opening.lists.now.stems opening.version.now) phrases))
    (ap (λ (sides : OperatorSides). joined_phrases sides.left ++ joined_phrases sides.right) c.deref.ensures ∙ sym (ap joined_phrases c.in-Both.is))
    c.push_sides.ensures

pub push_phrases-returns-in-MildNot : goal.push_phrases-returns-in-MildNot
unfolding joined_phrases
push_phrases-returns-in-MildNot t c =
    let opening = c.args.opening.now in
    nothing_joined (phrase_variants opening.looks opening.lists.now.stems opening.version.now) (all_aims state_of c.args.phrases.now.items) (joined_phrases c.args.plan.now) (ap joined_phrases c.in-MildNot.is)

pub push_phrases-returns-in-Negated : goal.push_phrases-returns-in-Negated
unfolding joined_phrases
push_phrases-returns-in-Negated t c =
    let opening = c.args.opening.now in
    nothing_joined (phrase_variants opening.looks opening.lists.now.stems opening.version.now) (all_aims state_of c.args.phrases.now.items) (joined_phrases c.args.plan.now) (ap joined_phrases c.in-Negated.is)

pub push_phrases-returns-in-Filtered : goal.push_phrases-returns-in-Filtered
unfolding joined_phrases
push_phrases-returns-in-Filtered t c =
    let opening = c.args.opening.now in
    nothing_joined (phrase_variants opening.looks opening.lists.now.stems opening.version.now) (all_aims state_of c.args.phrases.now.items) (joined_phrases c.args.plan.now) (ap joined_phrases c.in-Filtered.is)
