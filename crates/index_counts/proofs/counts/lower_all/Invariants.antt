-- The terms up to the next one are lowered, and those of them that have fallen are there.
use Rattle.std.proofs.Common.{◌≡◌, ◌==◌, ◌++◌, ℕ, take, filter}
use Rattle.index_document.specs.Terms.{terms_of, words_of}
use Rattle.index_counts.specs.Counts.{count_of, count_without}
use Rattle.index_counts.proofs.counts.lower_all.Given as goal

abbrev pub invariant-loop-number : goal.invariant-loop-number
invariant-loop-number l = record {
  counts : (t : ℕ) → count_of l.counts t ≡ count_without l.fn.counts (take l.number (terms_of (words_of l.index.leaves))) t;
  gone : l.gone.items ≡ l.fn.gone.items ++ filter (λ t. count_of l.counts t == 0) (take l.number (terms_of (words_of l.index.leaves)));
}
