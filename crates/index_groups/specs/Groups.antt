-- In which groups of documents each term may stand. A document is in the group of its number modulo 64.
use Rattle.std.specs.Prelude.{ℕ, ◌%◌, ◌==◌, Bool, List, slice_index_or}
use Rattle.std.specs.Int.{bit_at}

-- whether two documents are in the same group
abbrev pub same_group : ℕ → ℕ → Bool
same_group first second = first % 64 == second % 64

-- whether the document's group is among those that have a bit
abbrev pub in_group : ℕ → ℕ → Bool
in_group bits doc = bit_at bits (doc % 64) == 1

-- whether a term, by its number, may stand in the document; a term after the last one may stand in none
abbrev pub may_be : List ℕ → ℕ → ℕ → Bool
may_be groups term doc = in_group (slice_index_or groups term 0) doc
