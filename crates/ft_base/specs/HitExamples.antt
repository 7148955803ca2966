-- Small hits, for the examples.
use Rattle.std.specs.Prelude.{ℕ, true}
use Rattle.ft_base.specs.declared.hit.Hit.{Hit}

-- the phrase of that number, from one word to another, in the first sentence and paragraph
abbrev pub phrase : ℕ → ℕ → ℕ → Hit
phrase query from to =
    record { query = query; from = from; to = to; sent_from = 1; sent_to = 1; para_from = 1; para_to = 1; whole = true }

-- one word
abbrev pub word : ℕ → Hit
word place = phrase 0 place place
