-- The ids of the span name its words.
use Rattle.std.proofs.Common.{◌≡◌, ◌-◌, ◌++◌, map, ap, subst, ◌∙◌}
use Rattle.std.specs.Prelude.{OnOk, slice_range}
use Rattle.index_document.specs.Terms as by_id
use Rattle.index_meaning.specs.Documents.{document_at, words_of}
use Rattle.index_versions.specs.steps.Held.{held_ids, word_of}
use Rattle.index_versions.proofs.SpanWordLemmas.{words_between}
use Rattle.index_versions.proofs.version.Version.push_words.Goals as goal

pub returns : goal.returns
returns c =
    let given = c.self.inside.parts.dictionary.given in
    let from = c.args.span.from - 1 in
    let to = c.args.span.to - 1 in
    let held = c.held.result.now in
    let document = c.held.ensures.meant ∙ ap (document_at c.args.doc.0) c.self.view_is in
    let ids : c.push_terms.new.terms.items ≡ slice_range (held_ids held) from to =
    c.in_ok-push_terms.ensures
    ∙ (λ i. c.new-ids.ensures.items i ++ slice_range (by_id.words_of (c.index.ensures i).leaves) (c.saturating_sub-from.ensures i) (c.saturating_sub-to.ensures i)) in
    let words : map (word_of given) (slice_range (held_ids held) from to) ≡ slice_range (words_of (document_at c.args.doc.0 c.args.self.now)) from to =
    words_between given held from to ∙ ap (λ d. slice_range (words_of d) from to) document in
    subst (λ ws. OnOk c.push_named.result (c.push_named.new.words ≡ c.args.words.now ++ ws)) (ap (map (word_of given)) ids ∙ words) c.push_named.ensures
