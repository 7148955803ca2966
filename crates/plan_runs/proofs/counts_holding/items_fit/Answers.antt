-- The cursors of terms are plain, and the units of a document are told by its breaks.
use Rattle.std.proofs.Common.{◌≡◌, arith, ap, sym, ◌∙◌}
use Rattle.ft_base.specs.declared.places.Breaks.{Breaks}
use Rattle.ft_base.specs.declared.unit.TextUnit.TheVariants as Unit
use Rattle.count_merges.specs.Groups.{all_counted}
use Rattle.counted_shapes.specs.Shapes.{fit_in_unit, fit_in_window}
use Rattle.counted_shapes.specs.Accepted.{fit_in}
use Rattle.counted_shapes.specs.declared.field.Field.{Field}
use Rattle.counted_shapes.specs.declared.field.Field.TheVariants.{Window}
use Rattle.index_cursors.specs.SpanHits.{started}
use Rattle.index_meaning.specs.Documents.{breaks_of, document_at}
use Rattle.plan_runs.specs.steps.Counts.{field_unit, unit_number}
use Rattle.plan_runs.proofs.CountAims.{all_items_plain}
use Rattle.plan_runs.proofs.counts_holding.items_fit.Goals as goal

pub returns-in-Window-default-Words-clause-price : goal.returns-in-Window-default-Words-clause-price
returns-in-Window-default-Words-clause-price g c = omega (arith, c.fit_in_window.ensures.counted (all_items_plain c.args.items.now.items))

pub returns-in-Window-default-Sentences-clause-says : goal.returns-in-Window-default-Sentences-clause-says
returns-in-Window-default-Sentences-clause-says g c =
    let unit : c.in-Window-default-Sentences.field-1 ≡ Unit.Sentences = rw (c.in-Window-default-Sentences.is) at c.in-Window-default-Sentences.field-1-is in
    let place = c.args.place.now in
    let items = c.args.items.now.items in
    c.fit_in_window-in-Window-default-Sentences.ensures.answer Unit.Sentences c.requires.alike c.requires.asks
    ∙ ap (λ (known : Breaks). fit_in_window c.in-Window-default-Sentences.size Unit.Sentences (all_counted (λ cursor. cursor) (started known.sentences) place.span items)) c.breaks-breaks.ensures
    ∙ ap (λ (field : Field). fit_in field (all_counted (λ cursor. cursor) (unit_number (field_unit field) (breaks_of (document_at place.doc.0 place.version.now))) place.span items)) (sym (c.in-Window-default-Sentences.is ∙ ap (Window c.in-Window-default-Sentences.size) unit))

pub returns-in-Window-default-Sentences-clause-price : goal.returns-in-Window-default-Sentences-clause-price
returns-in-Window-default-Sentences-clause-price g c = omega (arith, c.fit_in_window-in-Window-default-Sentences.ensures.counted (all_items_plain c.args.items.now.items))

pub returns-in-Window-default-Paragraphs-clause-says : goal.returns-in-Window-default-Paragraphs-clause-says
returns-in-Window-default-Paragraphs-clause-says g c =
    let unit : c.in-Window-default-Paragraphs.field-1 ≡ Unit.Paragraphs = rw (c.in-Window-default-Paragraphs.is) at c.in-Window-default-Paragraphs.field-1-is in
    let place = c.args.place.now in
    let items = c.args.items.now.items in
    c.fit_in_window-in-Window-default-Paragraphs.ensures.answer Unit.Paragraphs c.requires.alike c.requires.asks
    ∙ ap (λ (known : Breaks). fit_in_window c.in-Window-default-Paragraphs.size Unit.Paragraphs (all_counted (λ cursor. cursor) (started known.paragraphs) place.span items)) c.breaks-breaks.ensures
    ∙ ap (λ (field : Field). fit_in field (all_counted (λ cursor. cursor) (unit_number (field_unit field) (breaks_of (document_at place.doc.0 place.version.now))) place.span items)) (sym (c.in-Window-default-Paragraphs.is ∙ ap (Window c.in-Window-default-Paragraphs.size) unit))

pub returns-in-Window-default-Paragraphs-clause-price : goal.returns-in-Window-default-Paragraphs-clause-price
returns-in-Window-default-Paragraphs-clause-price g c = omega (arith, c.fit_in_window-in-Window-default-Paragraphs.ensures.counted (all_items_plain c.args.items.now.items))

pub returns-in-Sentence-clause-says : goal.returns-in-Sentence-clause-says
returns-in-Sentence-clause-says g c =
    let place = c.args.place.now in
    let items = c.args.items.now.items in
    c.fit_in_unit.ensures.answer Unit.Sentences c.requires.alike c.requires.asks
    ∙ ap (λ (known : Breaks). fit_in_unit Unit.Sentences (all_counted (λ cursor. cursor) (started known.sentences) place.span items)) c.breaks-breaks.ensures
    ∙ ap (λ (field : Field). fit_in field (all_counted (λ cursor. cursor) (unit_number (field_unit field) (breaks_of (document_at place.doc.0 place.version.now))) place.span items)) (sym c.in-Sentence.is)

pub returns-in-Sentence-clause-price : goal.returns-in-Sentence-clause-price
returns-in-Sentence-clause-price g c = omega (arith, c.fit_in_unit.ensures.counted (all_items_plain c.args.items.now.items))

pub returns-in-Paragraph-clause-says : goal.returns-in-Paragraph-clause-says
returns-in-Paragraph-clause-says g c =
    let place = c.args.place.now in
    let items = c.args.items.now.items in
    c.fit_in_unit-in-Paragraph.ensures.answer Unit.Paragraphs c.requires.alike c.requires.asks
    ∙ ap (λ (known : Breaks). fit_in_unit Unit.Paragraphs (all_counted (λ cursor. cursor) (started known.paragraphs) place.span items)) c.breaks-breaks.ensures
    ∙ ap (λ (field : Field). fit_in field (all_counted (λ cursor. cursor) (unit_number (field_unit field) (breaks_of (document_at place.doc.0 place.version.now))) place.span items)) (sym c.in-Paragraph.is)

pub returns-in-Paragraph-clause-price : goal.returns-in-Paragraph-clause-price
returns-in-Paragraph-clause-price g c = omega (arith, c.fit_in_unit-in-Paragraph.ensures.counted (all_items_plain c.args.items.now.items))
