-- The documents of the first terms are counted.
use Rattle.std.proofs.Common.{◌≡◌, ◌-◌, ◌^◌, min, take}
use Rattle.std.specs.List.{sum_by}
use Rattle.index_meaning.specs.Index.{document_count}
use Rattle.text_forms.specs.Forms.{key_of}
use Rattle.index_versions.specs.Versions.{term_at}
use Rattle.index_versions.proofs.term_sources.count_all.Given as goal

abbrev pub invariant-loop-source : goal.invariant-loop-source
invariant-loop-source l = l.documents
    ≡ min (sum_by (λ source. document_count key_of (term_at source.term source.version) source.version) (take l.source-index l.sources.items)) (2 ^ 64 - 1)
