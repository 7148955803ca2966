-- What is made, with the entries of the words that are left, is all.
use Rattle.std.proofs.Common.{◌≡◌, ◌++◌, drop}
use Rattle.index_document.specs.Rows.{entries_from}
use Rattle.index_document.proofs.entry.add_entries.Given as goal

abbrev pub invariant-loop-term : goal.invariant-loop-term
invariant-loop-term l =
    l.made.items ++ entries_from l.number.0 l.offset (drop l.term-index l.leaf.words) ≡ l.fn.made.items ++ entries_from l.number.0 0 l.leaf.words
