-- Each kind puts the terms of its phrases after the others.
use Rattle.std.proofs.Common.{◌≡◌, ◌∙◌, ◌++◌, List, [], OnOk, append-nil, map, sym, ap, subst}
use Rattle.index_versions.specs.Terms.{VersionTerm}
use Rattle.plan_compiler.specs.declared.operator_plan.OperatorSides.{OperatorSides}
use Rattle.plan_compiler.specs.declared.operator_plan.PhraseTests.{PhraseTests}
use Rattle.plan_kinds.specs.steps.JoinedPhrases.{joined_phrases}
use Rattle.plan_runs.specs.steps.Merges.{phrase_terms}
use Rattle.plan_runs.proofs.opening_merges.+words.Goals as goal

-- nothing is put where no phrase is joined
nothing_joined : (terms_of : PhraseTests → List VersionTerm) (words : List (List VersionTerm)) (phrases : List PhraseTests) → phrases ≡ [] → words ≡ words ++ map terms_of phrases
nothing_joined terms_of words phrases none = sym (ap (λ ps. words ++ map terms_of ps) none ∙ append-nil words)

pub push_words-returns-in-Phrase : goal.push_words-returns-in-Phrase
unfolding joined_phrases
push_words-returns-in-Phrase t c =
    let opening = c.args.opening.now in
    subst (λ (phrases : List PhraseTests). OnOk c.push_phrase.result (c.push_phrase.new.words.items
    ≡ c.args.words.now.items ++ map (phrase_terms opening.looks opening.lists.now.stems opening.version.now) phrases))
    (sym (ap joined_phrases c.in-Phrase.is)) c.push_phrase.ensures

pub push_words-returns-in-Choice : goal.push_words-returns-in-Choice
unfolding joined_phrases
push_words-returns-in-Choice t c =
    let opening = c.args.opening.now in
    nothing_joined (phrase_terms opening.looks opening.lists.now.stems opening.version.now) c.args.words.now.items (joined_phrases c.args.plan.now) (ap joined_phrases c.in-Choice.is)

pub push_words-returns-in-Both : goal.push_words-returns-in-Both
unfolding joined_phrases
push_words-returns-in-Both t c =
    let opening = c.args.opening.now in
    subst (λ (phrases : List PhraseTests). OnOk c.push_sides.result (c.push_sides.new.words.items
    ≡ c.args.words.now.items ++ map (phrase_terms opening.looks opening.lists.now.stems opening.version.now) phrases))
    (ap (λ (sides : OperatorSides). joined_phrases sides.left ++ joined_phrases sides.right) c.deref.ensures ∙ sym (ap joined_phrases c.in-Both.is))
    c.push_sides.ensures

pub push_words-returns-in-MildNot : goal.push_words-returns-in-MildNot
unfolding joined_phrases
push_words-returns-in-MildNot t c =
    let opening = c.args.opening.now in
    nothing_joined (phrase_terms opening.looks opening.lists.now.stems opening.version.now) c.args.words.now.items (joined_phrases c.args.plan.now) (ap joined_phrases c.in-MildNot.is)

pub push_words-returns-in-Negated : goal.push_words-returns-in-Negated
unfolding joined_phrases
push_words-returns-in-Negated t c =
    let opening = c.args.opening.now in
    nothing_joined (phrase_terms opening.looks opening.lists.now.stems opening.version.now) c.args.words.now.items (joined_phrases c.args.plan.now) (ap joined_phrases c.in-Negated.is)

pub push_words-returns-in-Filtered : goal.push_words-returns-in-Filtered
unfolding joined_phrases
push_words-returns-in-Filtered t c =
    let opening = c.args.opening.now in
    nothing_joined (phrase_terms opening.looks opening.lists.now.stems opening.version.now) c.args.words.now.items (joined_phrases c.args.plan.now) (ap joined_phrases c.in-Filtered.is)
