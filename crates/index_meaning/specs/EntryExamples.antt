-- Small entries, for the examples.
use Rattle.std.specs.Prelude.{codes}
use Rattle.index_meaning.specs.Entries.{Entry, entry}

-- words in small letters, which are their own keys
abbrev pub a : Entry
a = entry (codes "a") (codes "a")

abbrev pub b : Entry
b = entry (codes "b") (codes "b")

abbrev pub c : Entry
c = entry (codes "c") (codes "c")

-- words in capitals, under the keys of the small ones
abbrev pub capital_a : Entry
capital_a = entry (codes "a") (codes "A")

abbrev pub capital_b : Entry
capital_b = entry (codes "b") (codes "B")
