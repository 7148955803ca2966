-- The word that stands directly before characters of a text, and the period with which these may begin.
use Rattle.std.specs.Prelude.{◌≡◌, ℕ, Bool, true, ◌&&◌, not, nat_lt, List, slice_range}
use Rattle.text_words.specs.Pieces.{IsPieceOf}
use Rattle.tokenizer.specs.Parts.{is_abbreviation}
use Rattle.tokenizer.specs.declared.behind.WordBefore.{WordBefore}

-- whether there is a word
abbrev pub has_word : WordBefore → Bool
has_word word = nat_lt word.from word.to

-- whether there is one, and it is an abbreviation
abbrev pub spares : List (List ℕ) → List ℕ → WordBefore → Bool
spares abbreviations text word = has_word word && is_abbreviation abbreviations (slice_range text word.from word.to)

-- whether a period directly behind it ends a sentence
abbrev pub period_ends : List (List ℕ) → List ℕ → WordBefore → Bool
period_ends abbreviations text word = has_word word && not (spares abbreviations text word)

-- the word, where there is one, stands in the text
abbrev pub StandsIn : List ℕ → WordBefore → Type 0
StandsIn text word = has_word word ≡ true → IsPieceOf text (record { from = word.from; to = word.to })
