-- The terms are the version's, and the cursor is at no hit.
use Rattle.std.proofs.Common.{◌≡◌, ◌∙◌, ap, sym, subst, map}
use Rattle.std.specs.List.{All}
use Rattle.std.proofs.lemmas.Result.{IfOk-weaker}
use Rattle.ft_operators.specs.Tuples.{walk_of}
use Rattle.ft_operators.specs.Walk.{phrase_walk}
use Rattle.ft_operators.specs.declared.tuples.Tuples.{Tuples}
use Rattle.index_phrases.specs.Cursors.{state_of}
use Rattle.index_phrases.specs.declared.phrase_cursor.PhraseCursor.{PhraseCursor}
use Rattle.index_phrases.specs.steps.Aiming.{AreThere, variant_words}
use Rattle.plan_runs.specs.steps.OpenedItems.{opened_variant}
use Rattle.plan_runs.specs.steps.OpenedOperators.{aims_of, phrase_opened}
use Rattle.plan_runs.proofs.OpenedLemmas.{variants_there}
use Rattle.plan_runs.proofs.OpenedViews.{phrase_is}
use Rattle.plan_runs.proofs.opening_operators.open_phrase.Goals as goal

pub new-cursor-requires-clause-there : goal.new-cursor-requires-clause-there
new-cursor-requires-clause-there c =
    let opening = c.args.opening.now in
    subst (All (All (AreThere opening.version.now)))
    (sym (c.in_ok-terms.ensures ∙ ap (map (opened_variant opening.looks opening.lists.now.stems opening.version.now)) c.as_slice.ensures))
    (variants_there opening.looks opening.lists.now.stems opening.version.now c.args.phrase.now.variants)

pub returns : goal.returns
returns c =
    let opening = c.args.opening.now in
    let looks = opening.looks in
    let stems = opening.lists.now.stems in
    let version = opening.version.now in
    IfOk-weaker c.one.result (λ (tuples : Tuples PhraseCursor). walk_of state_of tuples ≡ phrase_walk (state_of c.new-cursor.result))
    (λ (tuples : Tuples PhraseCursor). aims_of tuples ≡ phrase_opened looks stems version c.args.phrase.now)
    (λ tuples walk.
    phrase_is looks stems version tuples c.new-cursor.result c.args.phrase.now (map variant_words c.in_ok-terms.terms.items) walk c.new-cursor.ensures
    (c.in_ok-terms.ensures ∙ ap (map (opened_variant looks stems version)) c.as_slice.ensures))
    c.one.ensures
