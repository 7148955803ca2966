-- Small lists of places and hits, for the examples.
use Rattle.std.specs.Prelude.{ℕ, ◌+◌, ◌/◌, true, List, map}
use Rattle.ft_base.specs.declared.hit.Hit.{Hit}
use Rattle.ft_base.specs.declared.span.Span.{Span}

-- the hit of a word, which has this number among the phrases
abbrev pub word_hit : ℕ → ℕ → Hit
word_hit number place = record { query = number; from = place; to = place; sent_from = 1; sent_to = 1; para_from = 1; para_to = 1; whole = true }

-- the hits of a word with a number, at these places
abbrev pub hits_at : ℕ → List ℕ → List Hit
hits_at number places = map (word_hit number) places

-- a hit of two words
abbrev pub long_hit : Hit
long_hit = record (word_hit 2 2) { to = 3 }

-- one that begins in a sentence and ends in the next
abbrev pub spread_hit : Hit
spread_hit = record long_hit { sent_to = 2 }

-- a text of seven words
abbrev pub item : Span
item = record { from = 1; to = 8 }

-- units of three places each, counted from 1
abbrev pub by_threes : ℕ → ℕ
by_threes place = place / 3 + 1

-- the hits of a word with a number, at these places of a text of one paragraph whose sentences have three words
abbrev pub hits_by_threes : ℕ → List ℕ → List Hit
hits_by_threes number places = map (λ place. record (word_hit number place) { sent_from = by_threes place; sent_to = by_threes place }) places
