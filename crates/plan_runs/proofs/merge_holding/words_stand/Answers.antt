-- The cursors of terms are plain, and the units of a document are told by its breaks.
use Rattle.std.proofs.Common.{arith, ap, sym, ◌∙◌}
use Rattle.ft_base.specs.declared.places.Breaks.{Breaks}
use Rattle.index_cursors.specs.SpanHits.{started}
use Rattle.index_meaning.specs.Documents.{breaks_of, document_at}
use Rattle.window_merges.specs.Choices.{are_in_one, some_choice}
use Rattle.window_merges.specs.Rows.{all_places}
use Rattle.plan_kinds.specs.steps.MergeKinds.{stand_as}
use Rattle.plan_runs.proofs.MergeCosts.{all_plain}
use Rattle.plan_runs.proofs.merge_holding.words_stand.Goals as goal

pub returns-in-Close-clause-price : goal.returns-in-Close-clause-price
returns-in-Close-clause-price g c = omega (arith, c.stand_close.ensures.counted (all_plain c.args.cursors.now.items))

pub returns-in-InOrder-clause-price : goal.returns-in-InOrder-clause-price
returns-in-InOrder-clause-price g c = omega (arith, c.stand_in_order.ensures.counted (all_plain c.args.cursors.now.items))

pub returns-in-InSentence-clause-price : goal.returns-in-InSentence-clause-price
returns-in-InSentence-clause-price g c = omega (arith, c.stand_together.ensures.counted (all_plain c.args.cursors.now.items))

pub returns-in-InParagraph-clause-price : goal.returns-in-InParagraph-clause-price
returns-in-InParagraph-clause-price g c = omega (arith, c.stand_together-in-InParagraph.ensures.counted (all_plain c.args.cursors.now.items))

pub returns-in-InSentence-clause-says : goal.returns-in-InSentence-clause-says
returns-in-InSentence-clause-says g c =
    let places = all_places (λ cursor. cursor) c.args.place.now.span c.args.cursors.now.items in
    let breaks = breaks_of (document_at c.args.place.now.doc.0 c.args.place.now.version.now) in
    c.stand_together.ensures.together
    ∙ ap (λ (known : Breaks). some_choice (are_in_one (started known.sentences)) places) c.breaks-breaks.ensures
    ∙ ap (λ kind. stand_as breaks kind places) (sym c.in-InSentence.is)

pub returns-in-InParagraph-clause-says : goal.returns-in-InParagraph-clause-says
returns-in-InParagraph-clause-says g c =
    let places = all_places (λ cursor. cursor) c.args.place.now.span c.args.cursors.now.items in
    let breaks = breaks_of (document_at c.args.place.now.doc.0 c.args.place.now.version.now) in
    c.stand_together-in-InParagraph.ensures.together
    ∙ ap (λ (known : Breaks). some_choice (are_in_one (started known.paragraphs)) places) c.breaks-breaks.ensures
    ∙ ap (λ kind. stand_as breaks kind places) (sym c.in-InParagraph.is)
