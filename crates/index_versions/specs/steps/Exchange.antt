-- Documents in the order of their numbers, of which the one with a number goes or is exchanged for another.
use Rattle.std.specs.Prelude.{ℕ, ◌==◌, nat_lt, List, ◌++◌, filter}
use Rattle.index_versions.specs.steps.Held.{Held}

-- the documents with smaller numbers, those with this one, and those with greater ones
abbrev pub held_before : ℕ → List Held → List Held
held_before id documents = filter (λ held. nat_lt held.index.doc id) documents

abbrev pub of_number : ℕ → List Held → List Held
of_number id documents = filter (λ held. held.index.doc == id) documents

abbrev pub in_back : ℕ → List Held → List Held
in_back id documents = filter (λ held. nat_lt id held.index.doc) documents

-- the documents with these in the place of the one with that number
abbrev pub exchanged : ℕ → List Held → List Held → List Held
exchanged id new documents = held_before id documents ++ (new ++ in_back id documents)
