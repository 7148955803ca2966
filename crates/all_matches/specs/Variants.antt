-- The phrases that a phrase of a query stands for, with stop words and thesauri (XQuery and XPath Full Text 3.0, sections 3.4.3 to 3.4.7).
use Rattle.std.specs.Prelude.{ℕ, Bool, true, false, not, ◌&&◌, ◌||◌, if◌then◌else◌, List, [], ◌∷◌, map, flat_map, fold, Option, Some, None, bytes_eq}
use Rattle.std.specs.List.{list_any}
use Rattle.ft_base.specs.declared.options.Options.{Options}
use Rattle.ft_base.specs.declared.options.StopChoice.{StopChoice}
use Rattle.ft_base.specs.declared.options.StopChoice.TheVariants as Stop
use Rattle.ft_base.specs.declared.options.StopTerm.{StopTerm}
use Rattle.ft_base.specs.declared.options.StopSource.{StopSource}
use Rattle.ft_base.specs.declared.options.StopSource.TheVariants.{At, Written}
use Rattle.ft_base.specs.declared.options.ThesaurusChoice.{ThesaurusChoice}
use Rattle.ft_base.specs.declared.options.ThesaurusChoice.TheVariants as Thesaurus
use Rattle.ft_base.specs.declared.options.ThesaurusUse.{ThesaurusUse}

-- what one token of a text has to be: any word, a word of the query, or a pattern with wildcards
pub data Item : Type 0 where
  any_word : Item
  word : List ℕ → Item
  pattern : List ℕ → Item

-- What words, options and lists mean. A word is its list of bytes.
pub record Lexicon : Type 0 where
  -- the words of a string
  pub words_of : List ℕ → List (List ℕ)
  -- the words and patterns of a string of a query, under its options
  pub items_of : Options → List ℕ → List Item
  -- the form of a word in which stop lists and thesauri hold it
  pub key : List ℕ → List ℕ
  -- whether a word of a text passes an item other than `any_word`, under the item's options
  pub accepts : Options → Item → List ℕ → Bool
  -- whether the stop list of a name holds a key
  pub stop_list_holds : List ℕ → List ℕ → Bool
  -- the phrases other than the phrase itself that one choice of a thesaurus option reaches from a phrase, as keys
  pub reached : ThesaurusUse → List (List ℕ) → List (List (List ℕ))

-- whether a term of a stop word option holds a key
abbrev pub source_holds : Lexicon → StopSource → List ℕ → Bool
source_holds lexicon (At name) key = lexicon.stop_list_holds name key
source_holds lexicon (Written texts) key = list_any (λ text. list_any (λ w. bytes_eq (lexicon.key w) key) (lexicon.words_of text)) texts

-- `union` adds the words of its term, and `except` takes them out
abbrev pub after_term : Lexicon → List ℕ → Bool → StopTerm → Bool
after_term lexicon key held term = if term.except then held && not (source_holds lexicon term.source key) else held || source_holds lexicon term.source key

-- whether a key is a stop word, the terms being taken from left to right
abbrev pub is_stop_word : Lexicon → Option StopChoice → List ℕ → Bool
is_stop_word lexicon None key = false
is_stop_word lexicon (Some Stop.No) key = false
is_stop_word lexicon (Some (Stop.Sets terms)) key = fold (after_term lexicon key) false terms

-- a stop word stands for any one word
abbrev pub without_stop_word : Lexicon → Options → Item → Item
without_stop_word lexicon options any_word = any_word
without_stop_word lexicon options (word w) = if is_stop_word lexicon options.stop_words (lexicon.key w) then any_word else word w
without_stop_word lexicon options (pattern p) = pattern p

abbrev pub is_pattern : Item → Bool
is_pattern any_word = false
is_pattern (word w) = false
is_pattern (pattern p) = true

-- the key of a word
abbrev pub key_of : Lexicon → Item → List ℕ
key_of lexicon any_word = []
key_of lexicon (word w) = lexicon.key w
key_of lexicon (pattern p) = []

-- the phrases that the choices of a thesaurus option reach from a phrase, as keys: none where it holds a pattern
abbrev pub reached_keys : Lexicon → Option ThesaurusChoice → List Item → List (List (List ℕ))
reached_keys lexicon None phrase = []
reached_keys lexicon (Some Thesaurus.No) phrase = []
reached_keys lexicon (Some (Thesaurus.Uses uses)) phrase =
    if list_any is_pattern phrase then [] else flat_map (λ use_of. lexicon.reached use_of (map (key_of lexicon) phrase)) uses

-- their keys are words of the query
abbrev pub reached_phrases : Lexicon → Option ThesaurusChoice → List Item → List (List Item)
reached_phrases lexicon thesaurus phrase = map (map word) (reached_keys lexicon thesaurus phrase)

-- the lists of items that a phrase stands for. A phrase without words and patterns stands for none
abbrev pub variants : Lexicon → Options → List Item → List (List Item)
variants lexicon options [] = []
variants lexicon options (first ∷ rest) =
    map (map (without_stop_word lexicon options)) ((first ∷ rest) ∷ reached_phrases lexicon options.thesaurus (first ∷ rest))
