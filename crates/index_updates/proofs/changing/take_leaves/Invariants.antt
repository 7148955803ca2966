-- The leaves that are left are there, and without them the document is what it is without all.
use Rattle.std.proofs.Common.{◌≡◌, ◌+◌, drop}
use Rattle.index_meaning.specs.Documents.{Document, document_at, numbered, with_document}
use Rattle.index_updates.specs.steps.Turns.{AreThere, without_all, words_taken}
use Rattle.index_updates.proofs.changing.take_leaves.Given as goal

abbrev pub invariant-loop-leaf : goal.invariant-loop-leaf
invariant-loop-leaf g l = record {
  there : AreThere (drop l.leaf-index l.taken) (document_at l.doc.0 l.version);
  left : without_all (drop l.leaf-index l.taken) (document_at l.doc.0 l.version) ≡ without_all l.taken (document_at l.doc.0 l.fn.version);
  others : (d : Document) → with_document (numbered l.doc.0 d) l.version ≡ with_document (numbered l.doc.0 d) l.fn.version;
  counted : l.rows + words_taken (drop l.leaf-index l.taken) (document_at l.doc.0 l.version) ≡ l.fn.rows + words_taken l.taken (document_at l.doc.0 l.fn.version);
}
