-- The terms up to the next one are marked.
use Rattle.std.proofs.Common.{◌≡◌, ℕ, ◌&&◌, ◌||◌, take}
use Rattle.index_document.specs.Terms.{has, terms_of, words_of}
use Rattle.index_groups.specs.Groups.{may_be, same_group}
use Rattle.index_groups.proofs.index_groups.mark_all.Given as goal

abbrev pub invariant-loop-number : goal.invariant-loop-number
invariant-loop-number l = (term doc : ℕ) →
    may_be l.groups term doc ≡ (may_be l.fn.groups term doc || (has term (take l.number (terms_of (words_of l.index.leaves))) && same_group l.index.doc doc))
