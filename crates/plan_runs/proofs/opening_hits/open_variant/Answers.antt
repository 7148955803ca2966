-- The terms are the version's.
use Rattle.std.proofs.Common.{◌≡◌, ◌∙◌, ◌++◌, ◌∷◌, [], List, Vec, Global, ap, map, subst, sym}
use Rattle.std.specs.List.{All}
use Rattle.index_phrases.specs.declared.word_terms.WordTerms.{WordTerms}
use Rattle.index_phrases.specs.steps.Aiming.{AreThere, variant_words}
use Rattle.plan_runs.specs.steps.OpenedItems.{opened_variant}
use Rattle.plan_runs.proofs.OpenedLemmas.{variants_there}
use Rattle.plan_runs.proofs.opening_hits.open_variant.Goals as goal

pub new-requires-clause-there : goal.new-requires-clause-there
new-requires-clause-there c =
    let opening = c.args.opening.now in
    let items : c.push.new.self.items ≡ c.in_ok-open_items.field-0 ∷ [] =
    c.in_ok-push.ensures.items ∙ ap (λ (terms : List (Vec WordTerms Global)). terms ++ c.in_ok-open_items.field-0 ∷ []) c.new-terms.ensures.items in
    let words : map variant_words c.push.new.self.items ≡ opened_variant opening.looks opening.lists.now.stems opening.version.now c.args.tests.now ∷ [] =
    ap (map variant_words) items ∙ ap (λ (own : List WordTerms). own ∷ []) c.in_ok-open_items.ensures in
    subst (All (All (AreThere opening.version.now))) (sym words) (variants_there opening.looks opening.lists.now.stems opening.version.now (c.args.tests.now ∷ []))
