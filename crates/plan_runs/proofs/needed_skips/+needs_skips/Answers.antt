-- Each kind, by its sides.
use Rattle.std.proofs.Common.{◌∙◌, ap, sym}
use Rattle.index_versions.specs.FirstPlaces.{sooner}
use Rattle.plan_runs.specs.declared.needs.NeededSides.{NeededSides}
use Rattle.plan_runs.specs.declared.needs.Needs.{Needs}
use Rattle.plan_runs.specs.steps.Skips.{later, skip_of}
use Rattle.plan_runs.proofs.NeedViews.{skip-AllOf, skip-Nothing, skip-OneOf, skip-Phrase}
use Rattle.plan_runs.proofs.needed_skips.+needs_skips.Goals as goal

pub returns-in-Nothing-clause-says : goal.returns-in-Nothing-clause-says
returns-in-Nothing-clause-says g t c = sym (ap (λ (needs : Needs). skip_of needs c.args.doc.0 c.args.part) c.in-Nothing.is ∙ skip-Nothing c.args.doc.0 c.args.part)

pub returns-in-Phrase-clause-says : goal.returns-in-Phrase-clause-says
returns-in-Phrase-clause-says g t c =
    c.variants_skip.ensures.says
    ∙ sym (ap (λ (needs : Needs). skip_of needs c.args.doc.0 c.args.part) c.in-Phrase.is ∙ skip-Phrase c.in-Phrase.variants c.args.doc.0 c.args.part)

pub returns-in-OneOf-clause-says : goal.returns-in-OneOf-clause-says
returns-in-OneOf-clause-says g t c =
    let doc = c.args.doc.0 in
    let part = c.args.part in
    let left = c.needs_skip-left.ensures.says ∙ ap (λ (own : NeededSides). skip_of own.left doc part) c.deref.ensures in
    let right = c.needs_skip-right.ensures.says ∙ ap (λ (own : NeededSides). skip_of own.right doc part) c.deref-in-OneOf.ensures in
    c.sooner.ensures ∙ (λ i. sooner (left i) (right i))
    ∙ sym (ap (λ (needs : Needs). skip_of needs doc part) c.in-OneOf.is ∙ skip-OneOf c.in-OneOf.sides doc part)

pub returns-in-AllOf-clause-says : goal.returns-in-AllOf-clause-says
returns-in-AllOf-clause-says g t c =
    let doc = c.args.doc.0 in
    let part = c.args.part in
    let left = c.needs_skip-left-in-AllOf.ensures.says ∙ ap (λ (own : NeededSides). skip_of own.left doc part) c.deref-in-AllOf.ensures in
    let right = c.needs_skip-right-in-AllOf.ensures.says ∙ ap (λ (own : NeededSides). skip_of own.right doc part) c.deref-in-AllOf-2.ensures in
    c.later.ensures ∙ (λ i. later (left i) (right i))
    ∙ sym (ap (λ (needs : Needs). skip_of needs doc part) c.in-AllOf.is ∙ skip-AllOf c.in-AllOf.sides doc part)
