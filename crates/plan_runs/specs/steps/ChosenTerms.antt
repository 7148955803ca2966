-- Terms of a version by their numbers.
use Rattle.std.specs.Prelude.{◌≡◌, ℕ, ◌-◌, Bool, List, [], filter, length, map, Option, Some, None}
use Rattle.std.specs.List.{All, list_any, range_with_len}
use Rattle.ft_base.specs.declared.span.Span.{Span}
use Rattle.index_meaning.specs.Documents.{Numbered}
use Rattle.index_meaning.specs.Postings.{same_word}
use Rattle.index_versions.specs.Terms.{VersionTerm}
use Rattle.index_versions.specs.Versions.{term_at, terms_of}

-- of these numbers, those of the terms whose word passes a test
abbrev pub passing : (List ℕ → Bool) → List Numbered → List ℕ → List ℕ
passing test version numbers = filter (λ number. test (term_at number version).word) numbers

-- of all numbers
abbrev pub terms_for : (List ℕ → Bool) → List Numbered → List ℕ
terms_for test version = passing test version (range_with_len 0 (length (terms_of version)))

-- the numbers of a span, if there is one
abbrev pub numbers_in : Option Span → List ℕ
numbers_in None = []
numbers_in (Some span) = range_with_len span.from (span.to - span.from)

abbrev pub numbers_of : List VersionTerm → List ℕ
numbers_of sources = map (λ source. source.term) sources

-- whether the word is that of one of the terms of these numbers
abbrev pub is_among : List Numbered → List ℕ → List ℕ → Bool
is_among version numbers word = list_any (λ number. same_word (term_at number version).word word) numbers

-- a word of a document: it is that of one of the terms that pass a test exactly where it passes
abbrev pub IsKnown : List Numbered → List ℕ → Type 0
IsKnown version word = (test : List ℕ → Bool) → is_among version (terms_for test version) word ≡ test word

abbrev pub AreKnown : List Numbered → List (List ℕ) → Type 0
AreKnown version text = All (IsKnown version) text
