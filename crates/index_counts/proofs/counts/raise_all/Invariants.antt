-- The terms up to the next one are raised.
use Rattle.std.proofs.Common.{◌≡◌, ℕ, take}
use Rattle.index_document.specs.Terms.{terms_of, words_of}
use Rattle.index_counts.specs.Counts.{count_of, count_with}
use Rattle.index_counts.proofs.counts.raise_all.Given as goal

abbrev pub invariant-loop-number : goal.invariant-loop-number
invariant-loop-number l = (t : ℕ) → count_of l.counts t ≡ count_with l.fn.counts (take l.number (terms_of (words_of l.index.leaves))) t
