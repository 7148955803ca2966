-- The words of the parts up to the next one are there.
use Rattle.std.proofs.Common.{◌≡◌, take}
use Rattle.std.specs.List.{flat_map}
use Rattle.index_meaning.specs.Documents.{document_at}
use Rattle.index_phrases.specs.Phrases.{words_at}
use Rattle.ignore_view.proofs.view.kept_words.Given as goal

abbrev pub invariant-loop-part : goal.invariant-loop-part
invariant-loop-part l = l.words ≡ flat_map (λ part. words_at part (document_at l.fn.doc.0 l.version)) (take l.part-index l.parts.items)
