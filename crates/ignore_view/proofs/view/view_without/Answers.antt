-- The words and the breaks are those of the parts that are kept, and so the tokens are those that are left.
use Rattle.std.proofs.Common.{◌≡◌, ◌+◌, ◌∷◌, [], length, ap, ◌∙◌, arith}
use Rattle.std.proofs.lemmas.Result.{IfOk-equal, IfOk-weaker}
use Rattle.index_meaning.specs.Documents.{document_at, document_ids, document_of, leaf_of, numbered}
use Rattle.index_phrases.specs.Tokens.{IsSpan, IsText, span_tokens}
use Rattle.ignore_view.specs.Holes.{tokens_without, whole_document}
use Rattle.ignore_view.proofs.ViewLemmas.{kept-few, parts-many, view-text, view-tokens}
use Rattle.ignore_view.proofs.view.view_without.Goals as goal

pub kept_breaks-requires-clause-few : goal.kept_breaks-requires-clause-few
kept_breaks-requires-clause-few g c =
    let span = c.args.span in
    let few = kept-few span c.args.holes.now in
    let many = ap length c.in_ok-parts.ensures.places in
    omega (arith, few, many, c.in_ok-parts.ensures.few)

pub returns-clause-alone : goal.returns-clause-alone
returns-clause-alone g c =
    IfOk-weaker c.view_of.result _ (λ view. document_ids view ≡ c.args.doc.0 ∷ []) (λ view is. ap document_ids is) c.view_of.ensures.view

pub returns-clause-text : goal.returns-clause-text
returns-clause-text g c =
    let document = document_at c.args.doc.0 c.args.version.now in
    let span = c.args.span in
    let holes = c.args.holes.now in
    let s : IsSpan span document = record { first = c.requires.inside.0; order = c.requires.inside.1; last = c.requires.inside.2 } in
    let parts = c.in_ok-parts.parts.items in
    let breaks = c.in_ok-breaks.breaks in
    let one = c.in_ok-words.ensures in
    IfOk-weaker c.view_of.result _ (λ view. IsText (document_at c.args.doc.0 view) (tokens_without span holes document))
    (λ view is.
    view-text document span holes s parts c.in_ok-parts.ensures.places c.in_ok-parts.ensures.within breaks c.in_ok-breaks.ensures.sentences c.in_ok-breaks.ensures.paragraphs
    c.args.doc.0 view (is ∙ ap (λ ws. numbered c.args.doc.0 (document_of (leaf_of 0 ws ∷ []) breaks) ∷ []) one))
    c.view_of.ensures.view

pub returns-clause-tokens : goal.returns-clause-tokens
returns-clause-tokens g c =
    let document = document_at c.args.doc.0 c.args.version.now in
    let span = c.args.span in
    let holes = c.args.holes.now in
    let s : IsSpan span document = record { first = c.requires.inside.0; order = c.requires.inside.1; last = c.requires.inside.2 } in
    let parts = c.in_ok-parts.parts.items in
    let breaks = c.in_ok-breaks.breaks in
    let one = c.in_ok-words.ensures in
    IfOk-weaker c.view_of.result _
    (λ view. span_tokens (whole_document (document_at c.args.doc.0 view)) (document_at c.args.doc.0 view) ≡ tokens_without span holes document)
    (λ view is.
    view-tokens document span holes s parts c.in_ok-parts.ensures.places c.in_ok-parts.ensures.within breaks c.in_ok-breaks.ensures.sentences c.in_ok-breaks.ensures.paragraphs
    c.args.doc.0 view (is ∙ ap (λ ws. numbered c.args.doc.0 (document_of (leaf_of 0 ws ∷ []) breaks) ∷ []) one))
    c.view_of.ensures.view

pub returns-clause-counted : goal.returns-clause-counted
returns-clause-counted g c =
    let document = document_at c.args.doc.0 c.args.version.now in
    let s : IsSpan c.args.span document = record { first = c.requires.inside.0; order = c.requires.inside.1; last = c.requires.inside.2 } in
    let words = parts-many document c.args.span c.args.holes.now s c.in_ok-parts.parts.items c.in_ok-parts.ensures.places c.in_ok-parts.ensures.within in
    let many = ap length c.in_ok-words.ensures ∙ words in
    IfOk-equal c.view_of.result _ _ _ c.view_of.ensures.counted (ap (λ n. c.args.rows.now + n) many)

pub returns-clause-at_most : goal.returns-clause-at_most
returns-clause-at_most g c =
    let document = document_at c.args.doc.0 c.args.version.now in
    let s : IsSpan c.args.span document = record { first = c.requires.inside.0; order = c.requires.inside.1; last = c.requires.inside.2 } in
    let words = parts-many document c.args.span c.args.holes.now s c.in_ok-parts.parts.items c.in_ok-parts.ensures.places c.in_ok-parts.ensures.within in
    let many = ap length c.in_ok-words.ensures ∙ words in
    let most = c.view_of.ensures.at_most in
    omega (arith, many, most)
