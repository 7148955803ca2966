-- The tokens of a span of a document, in the numbers of the span, and phrases among them.
use Rattle.std.specs.Prelude.{◌≡◌, ◌≤◌, ℕ, ◌+◌, Bool, true, false, ◌&&◌, List, [], ◌∷◌, map, length}
use Rattle.std.specs.List.{list_any}
use Rattle.ft_base.specs.declared.options.Options.{Options}
use Rattle.ft_base.specs.declared.places.Breaks.{Breaks}
use Rattle.ft_base.specs.declared.span.Span.{Span}
use Rattle.ft_base.specs.declared.token.Token.{Token}
use Rattle.all_matches.specs.Hits.{Interval, paragraph_at, sentence_at, stands_as, tokens_in}
use Rattle.all_matches.specs.Variants.{Item, Lexicon, variants}
use Rattle.index_cursors.specs.SpanHits.{started}
use Rattle.index_meaning.specs.Documents.{Document, Numbered, breaks_of, token_count, words_of}
use Rattle.place_merges.specs.declared.spot.Spot.{Spot}
use Rattle.index_phrases.specs.Phrases.{is_wanted, last_place, own_number, words_at}
use Rattle.index_phrases.specs.declared.word_terms.WordTerms.{WordTerms}

-- the words as tokens, the first of which is at a place; sentences and paragraphs are counted from those of the first place on
abbrev pub tokens_from : Breaks → ℕ → ℕ → List (List ℕ) → List Token
tokens_from breaks first place [] = []
tokens_from breaks first place (word ∷ words) =
    record { word = word; sentence = own_number breaks.sentences first place; paragraph = own_number breaks.paragraphs first place }
    ∷ tokens_from breaks first (place + 1) words

-- the tokens of a span of a document
abbrev pub span_tokens : Span → Document → List Token
span_tokens span document = tokens_from (breaks_of document) span.from span.from (words_at span document)

-- a span of the words of a document
pub record IsSpan (span : Span) (document : Document) : Type 0 where
  pub first : 1 ≤ span.from
  pub order : span.from ≤ span.to
  pub last : span.to ≤ token_count document + 1

-- the tokens of a document, in its own numbers: its words, with the numbers that follow from its breaks
pub record IsText (document : Document) (tokens : List Token) : Type 0 where
  pub words : map (λ token. token.word) tokens ≡ words_of document
  pub sentences : (place : ℕ) → 1 ≤ place → place ≤ length tokens → sentence_at tokens place ≡ started document.sentences place
  pub paragraphs : (place : ℕ) → 1 ≤ place → place ≤ length tokens → paragraph_at tokens place ≡ started document.paragraphs place

-- whether the tokens are as many as the items, and each passes its own
abbrev pub stands_on : {X : Type 0} → (X → Token → Bool) → List X → List Token → Bool
stands_on passes [] [] = true
stands_on passes [] (token ∷ tokens) = false
stands_on passes (item ∷ items) [] = false
stands_on passes (item ∷ items) (token ∷ tokens) = passes item token && stands_on passes items tokens

-- whether a token is one that is wanted
abbrev pub passes_terms : List Numbered → WordTerms → Token → Bool
passes_terms version terms token = is_wanted version terms token.word

-- on each interval of the tokens one of the variants by terms stands where one of the phrase's variants does
abbrev pub AreVariants : List Numbered → List (List WordTerms) → Lexicon → Options → List Item → List Token → Type 0
AreVariants version terms lexicon options phrase tokens =
    (interval : Interval) → list_any (λ variant. stands_on (passes_terms version) variant (tokens_in tokens interval)) terms
    ≡ list_any (λ variant. stands_as lexicon options variant (tokens_in tokens interval)) (variants lexicon options phrase)

-- the interval of a spot
abbrev pub interval_of : Spot → Interval
interval_of at = record { from = at.place; to = last_place at }
