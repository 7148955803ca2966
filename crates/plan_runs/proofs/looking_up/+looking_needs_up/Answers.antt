-- What is needed is needed up to the same places; where it is missing, each side says it.
use Rattle.std.proofs.Common.{ap, sym, ◌∙◌, Box, Global, Vec, map}
use Rattle.std.proofs.lemmas.Simd.{map-map}
use Rattle.index_versions.specs.FirstPlaces.{sooner, soonest}
use Rattle.index_phrases.specs.declared.word_terms.WordTerms.{WordTerms}
use Rattle.index_phrases.specs.steps.Aiming.{variant_words}
use Rattle.plan_runs.specs.declared.needs.NeededSides.{NeededSides}
use Rattle.plan_runs.specs.declared.needs.Needs.{Needs}
use Rattle.plan_runs.specs.steps.Skips.{later, skip_of, variant_skip, variants_skip}
use Rattle.plan_runs.proofs.NeedViews.{same-AllOf, same-OneOf, same-Phrase, skip-AllOf, skip-OneOf, skip-Phrase}
use Rattle.plan_runs.proofs.MissingLemmas.{later_none}
use Rattle.plan_runs.proofs.looking_up.+looking_needs_up.Goals as goal

pub look_needs_up-returns-in-Phrase-clause-same : goal.look_needs_up-returns-in-Phrase-clause-same
look_needs_up-returns-in-Phrase-clause-same t c =
    same-Phrase c.in-Phrase.variants c.look_variants_up.new.variants
    (c.look_variants_up.ensures.same ∙ ap (λ (variants : Vec (Vec WordTerms Global) Global). map variant_words variants.items) c.in-Phrase.variants-is)
    ∙ sym (ap skip_of c.in-Phrase.is)

pub look_needs_up-returns-in-OneOf-clause-same : goal.look_needs_up-returns-in-OneOf-clause-same
look_needs_up-returns-in-OneOf-clause-same t c =
    let old = c.in-OneOf.sides in
    let new : Box NeededSides Global = record { ptr = old.ptr; alloc = old.alloc; value = c.look_either_up.new.sides } in
    same-OneOf old new
    (c.look_either_up.ensures.left ∙ ap (λ (sides : NeededSides). skip_of sides.left) c.deref_mut.ensures.value)
    (c.look_either_up.ensures.right ∙ ap (λ (sides : NeededSides). skip_of sides.right) c.deref_mut.ensures.value)
    ∙ sym (ap skip_of c.in-OneOf.is)

pub look_needs_up-returns-in-AllOf-clause-same : goal.look_needs_up-returns-in-AllOf-clause-same
look_needs_up-returns-in-AllOf-clause-same t c =
    let old = c.in-AllOf.sides in
    let new : Box NeededSides Global = record { ptr = old.ptr; alloc = old.alloc; value = c.look_both_up.new.sides } in
    same-AllOf old new
    (c.look_both_up.ensures.left ∙ ap (λ (sides : NeededSides). skip_of sides.left) c.deref_mut-in-AllOf.ensures.value)
    (c.look_both_up.ensures.right ∙ ap (λ (sides : NeededSides). skip_of sides.right) c.deref_mut-in-AllOf.ensures.value)
    ∙ sym (ap skip_of c.in-AllOf.is)

-- ---- what is missing

pub look_needs_up-returns-in-Phrase-clause-none : goal.look_needs_up-returns-in-Phrase-clause-none
look_needs_up-returns-in-Phrase-clause-none t c h part =
    let doc = c.args.doc.0 in
    ap (λ (needs : Needs). skip_of needs doc part) c.in-Phrase.is
    ∙ skip-Phrase c.in-Phrase.variants doc part
    ∙ sym (ap soonest (map-map (variant_skip doc part) variant_words c.in-Phrase.variants.items))
    ∙ sym (ap (λ (variants : Vec (Vec WordTerms Global) Global). variants_skip doc part (map variant_words variants.items)) c.in-Phrase.variants-is)
    ∙ c.look_variants_up.ensures.none h part

pub look_needs_up-returns-in-OneOf-clause-none : goal.look_needs_up-returns-in-OneOf-clause-none
look_needs_up-returns-in-OneOf-clause-none t c h part =
    let doc = c.args.doc.0 in
    ap (λ (needs : Needs). skip_of needs doc part) c.in-OneOf.is
    ∙ skip-OneOf c.in-OneOf.sides doc part
    ∙ sym (ap (λ (own : NeededSides). sooner (skip_of own.left doc part) (skip_of own.right doc part)) c.deref_mut.ensures.value)
    ∙ c.look_either_up.ensures.none h part

pub look_needs_up-returns-in-AllOf-clause-none : goal.look_needs_up-returns-in-AllOf-clause-none
look_needs_up-returns-in-AllOf-clause-none t c h part =
    let doc = c.args.doc.0 in
    ap (λ (needs : Needs). skip_of needs doc part) c.in-AllOf.is
    ∙ skip-AllOf c.in-AllOf.sides doc part
    ∙ sym (ap (λ (own : NeededSides). later (skip_of own.left doc part) (skip_of own.right doc part)) c.deref_mut-in-AllOf.ensures.value)
    ∙ c.look_both_up.ensures.none h part

pub look_either_up-returns-clause-none : goal.look_either_up-returns-clause-none
look_either_up-returns-clause-none t c h part =
    let left = c.look_needs_up-left.ensures.none (c.either.ensures.one h) part in
    let right = c.look_needs_up-right.ensures.none (c.either.ensures.other h) part in
    λ i. sooner (left i) (right i)

pub look_both_up-returns-then-not-left-clause-none : goal.look_both_up-returns-then-not-left-clause-none
look_both_up-returns-then-not-left-clause-none t c h part =
    ap (λ left. later left (skip_of c.args.sides.now.right c.args.doc.0 part)) (c.look_needs_up-left.ensures.none c.if-not-left.true part)

pub look_both_up-returns-clause-none : goal.look_both_up-returns-clause-none
look_both_up-returns-clause-none t c h part =
    let left = skip_of c.args.sides.now.left c.args.doc.0 part in
    ap (later left) (c.look_needs_up.ensures.none h part) ∙ later_none left
