-- The documents so far are as they are after the edit, in the version too, and the others come; so do the words that the edit touches.
use Rattle.std.proofs.Common.{◌≡◌, List, length}
use Rattle.std.specs.Vec.Iter.{into_iter_items, into_iter_len}
use Rattle.ft_base.specs.declared.ids.NodeRef.{NodeRef}
use Rattle.document_store.specs.Documents.{Edit}
use Rattle.document_store.specs.steps.Planning.{ArePlanned}
use Rattle.document_store.proofs.ApplyLemmas.{Applied}
use Rattle.document_store.proofs.applying.put_all.Given as goal

abbrev pub invariant-loop-one : goal.invariant-loop-one
invariant-loop-one g l = record {
  applied : (edit : Edit) → (targets : List (List NodeRef)) → ArePlanned edit 0 l.documents targets l.fn.planned.items
      → Applied l.abbreviations edit l.documents targets l.fn.made.version l.fn.rows l.made.documents l.made.version l.made.tokens l.rows (into_iter_items l.one-iterator);
  ends : into_iter_len l.one-iterator ≡ length (into_iter_items l.one-iterator);
}
