-- The terms of the words of the leaves up to the next one are put.
use Rattle.std.proofs.Common.{◌≡◌, ◌++◌, take}
use Rattle.std.specs.Prelude.{slice_range}
use Rattle.index_document.specs.Terms.{words_of}
use Rattle.index_document.proofs.leaf_terms.push_terms.Given as goal

abbrev pub invariant-loop-number : goal.invariant-loop-number
invariant-loop-number l = l.terms.items ≡ l.fn.terms.items ++ slice_range (words_of (take l.number l.leaves.leaves)) l.from l.to
