-- The leaves that are left are new, and with them the document is what it is with all.
use Rattle.std.proofs.Common.{◌≡◌, ◌+◌, drop}
use Rattle.index_meaning.specs.Documents.{Document, document_at, numbered, with_document}
use Rattle.index_updates.specs.steps.Turns.{AreNew, with_all, words_put}
use Rattle.index_updates.proofs.changing.put_leaves.Given as goal

abbrev pub invariant-loop-leaf : goal.invariant-loop-leaf
invariant-loop-leaf g l = record {
  new : AreNew (drop l.leaf-index l.put) (document_at l.doc.0 l.version);
  left : with_all (drop l.leaf-index l.put) (document_at l.doc.0 l.version) ≡ with_all l.put (document_at l.doc.0 l.fn.version);
  others : (d : Document) → with_document (numbered l.doc.0 d) l.version ≡ with_document (numbered l.doc.0 d) l.fn.version;
  counted : l.rows + words_put (drop l.leaf-index l.put) ≡ l.fn.rows + words_put l.put;
}
