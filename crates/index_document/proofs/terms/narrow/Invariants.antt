-- Of the terms up to the next one those with rows are kept.
use Rattle.index_document.specs.Rows.{entries_of}
use Rattle.index_document.proofs.WideningLemmas.{IsNarrowing}
use Rattle.index_document.proofs.terms.narrow.Given as goal

abbrev pub invariant-loop-number : goal.invariant-loop-number
invariant-loop-number l = IsNarrowing (entries_of l.fn.parts.leaves) l.fn.parts.ids.items l.number l.ids.items l.starts.items
