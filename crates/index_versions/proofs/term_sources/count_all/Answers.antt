-- The documents of one term more.
use Rattle.std.proofs.Common.{◌≡◌, ◌∙◌, ◌<◌, ◌+◌, ◌-◌, ◌^◌, sym, ap, ℕ, List, length, get_or, min, take, arith}
use Rattle.std.specs.List.{sum_by}
use Rattle.std.proofs.lemmas.List.Sums.{sum_by_more}
use Rattle.index_meaning.specs.Index.{document_count}
use Rattle.text_forms.specs.Forms.{key_of}
use Rattle.index_versions.specs.Terms.{VersionTerm}
use Rattle.index_versions.specs.Versions.{term_at}
use Rattle.index_versions.proofs.term_sources.count_all.Goals as goal

abbrev documents_with : VersionTerm → ℕ
documents_with source = document_count key_of (term_at source.term source.version) source.version

-- what is more than the most was so before, or is so now
at-most : (much more most : ℕ) → min (min much most + more) most ≡ min (much + more) most
at-most much more most = omega arith

pub loop-source-preserved : goal.loop-source-preserved
loop-source-preserved c =
    let items = c.args.sources.now.items in
    let i = c.loop-source.source-index in
    let item = c.source-item.result in
    let list = c.deref-source-items.ensures.value in
    let within : i < length items = omega (arith, c.loop-source-test.true, ap length list) in
    let is : item ≡ get_or items i item = c.source-item.is ∙ ap (λ (all : List VersionTerm). get_or all i item) list in
    c.saturating_add-documents.ensures
    ∙ ((λ j. min (c.loop-source.invariant j + c.document_count.ensures j) (2 ^ 64 - 1))
    ∙ (at-most (sum_by documents_with (take i items)) (documents_with item) (2 ^ 64 - 1)
    ∙ ap (λ n. min n (2 ^ 64 - 1))
    (ap (λ (source : VersionTerm). sum_by documents_with (take i items) + documents_with source) is
    ∙ sym (sum_by_more documents_with items i item within))))
