-- Small lists of hits, for the examples.
use Rattle.std.specs.Prelude.{ℕ, ◌+◌, ◌/◌, false, true}
use Rattle.ft_base.specs.declared.hit.Hit.{Hit}
use Rattle.ft_base.specs.declared.span.Span.{Span}
use Rattle.phrase_merges.specs.Near.{Units}

-- the hit of a phrase of that number from one word to another, in a text of one sentence
abbrev pub hit : ℕ → ℕ → ℕ → Hit
hit query from to = record { query = query; from = from; to = to; sent_from = 1; sent_to = 1; para_from = 1; para_to = 1; whole = true }

-- one that begins in one sentence and ends in another
abbrev pub in_sentences : ℕ → ℕ → ℕ → Hit
in_sentences query first last = record (hit query first last) { sent_from = first; sent_to = last }

-- a text of nine words
abbrev pub item : Span
item = record { from = 1; to = 10 }

-- one that doesn't cover each of its words
abbrev pub spread : Hit → Hit
spread one = record one { whole = false }

-- sentences of three words each, in one paragraph
abbrev pub by_threes : Units
by_threes = record { sentence = λ place. (place + 2) / 3; paragraph = λ place. 1 }
