-- Phrases as the lists of their words' keys, and their order: the first keys that differ decide, and a phrase comes before those that it begins.
use Rattle.std.specs.Prelude.{ℕ, Bool, List, [], fold}
use Rattle.std.specs.declared.cmp.Ordering.{Ordering}
use Rattle.std.specs.Ordering.{eq_by_cmp, nat_cmp}
use Rattle.std.specs.Cmp.Lexicographic.{slice_cmp}
use Rattle.std.specs.BTreeSet.{insert_key}

abbrev pub Phrase : Type 0
Phrase = List (List ℕ)

abbrev pub phrase_cmp : Phrase → Phrase → Ordering
phrase_cmp = slice_cmp (slice_cmp nat_cmp)

abbrev pub phrase_eq : Phrase → Phrase → Bool
phrase_eq = eq_by_cmp phrase_cmp

-- phrases in their order, each once
abbrev pub in_order : List Phrase → List Phrase
in_order = fold (insert_key phrase_cmp) []
