-- What the compiled words of a selection say of the words of a text.
use Rattle.std.specs.Prelude.{ℕ, Bool, true, false, ◌&&◌, if◌then◌else◌, List, [], ◌∷◌, map, sum, bytes_eq, option_map}
use Rattle.ft_base.specs.declared.options.Case.{Case}
use Rattle.ft_base.specs.declared.words.Mode.{Mode}
use Rattle.ft_base.specs.declared.words.Mode.TheVariants.{Any, AnyWord, All, AllWords, Phrase}
use Rattle.text_forms.specs.Forms.{key_of}
use Rattle.all_matches.specs.Variants.{Item, any_word, word, pattern, reached_keys}
use Rattle.all_matches.specs.Counting.{by_length, places, product}
use Rattle.all_matches.specs.Compositional.{enough}
use Rattle.match_options.specs.TokenTest.{has_case}
use Rattle.match_options.specs.WordTests.{item_passes}
use Rattle.thesaurus_file.specs.Phrases.{in_order}
use Rattle.word_lists.specs.Stems.{Stem, stem_in}
use Rattle.plan_compiler.specs.CheapSelections.{is_any}
use Rattle.plan_compiler.specs.ItemTests.{passes}
use Rattle.plan_compiler.specs.Lexicon.{lexicon}
use Rattle.plan_compiler.specs.Stops.{is_stop_key, term_of}
use Rattle.plan_compiler.specs.declared.item_matching.ItemTest.{ItemTest}
use Rattle.plan_compiler.specs.declared.phrase_plan.PhrasePlan.{PhrasePlan}
use Rattle.plan_compiler.specs.declared.reading.Reading.{Reading}
use Rattle.plan_compiler.specs.declared.text_word.TextWord.{TextWord}
use Rattle.plan_compiler.specs.declared.words_plan.WordsPlan.{WordsPlan}

-- ---- counts

-- how often a phrase occurs: its variants of one length count once at a place
abbrev pub phrase_count : PhrasePlan → List TextWord → ℕ
phrase_count plan words = sum (map (λ group. places passes group words) plan.groups)

-- one hit of each phrase, or of one of them
abbrev pub joined : Bool → List ℕ → ℕ
joined true counts = product counts
joined false counts = sum counts

-- how often the words occur
abbrev pub words_count : WordsPlan → List TextWord → ℕ
words_count plan words = joined plan.all (map (λ phrase. phrase_count phrase words) plan.phrases)

abbrev pub words_truth : WordsPlan → List TextWord → Bool
words_truth plan words = enough plan.times (words_count plan words)

-- ---- tests

-- a stop word stands for any word
abbrev pub read_item : Reading → Item → Item
read_item reading any_word = any_word
read_item reading (word w) = if is_stop_key (map term_of reading.stops.items) (key_of w) then any_word else word w
read_item reading (pattern p) = pattern p

-- whether it is read as any word
abbrev pub reads_any : Reading → Item → Bool
reads_any reading item = is_any (read_item reading item)

-- a word with the stem of a word of a query
abbrev pub stem_test : List Stem → Case → List ℕ → TextWord → Bool
stem_test stems case query w = bytes_eq (stem_in stems (key_of query)) w.stem && has_case case w.forms

-- what a word has to be for an item that is no stop word
unfoldable pub bare_test : Reading → Item → TextWord → Bool
bare_test reading any_word w = true
bare_test reading (word query) w = if reading.stemming then stem_test reading.lists.now.stems reading.choice.case query w
    else item_passes reading.choice (word query) w.forms
bare_test reading (pattern p) w = item_passes reading.choice (pattern p) w.forms

abbrev pub item_test : Reading → Item → TextWord → Bool
item_test reading item = bare_test reading (read_item reading item)

-- ---- phrases

-- what thesauri reach from a phrase, in order, each phrase once
abbrev pub reached_once : Reading → List Item → List (List (List ℕ))
reached_once reading phrase = in_order (reached_keys (lexicon reading.lists.now) (option_map (λ lent. lent.now) reading.thesaurus) phrase)

-- the phrase itself, and those that thesauri reach from it
abbrev pub phrases_for : Reading → List Item → List (List Item)
phrases_for reading [] = []
phrases_for reading (first ∷ rest) = (first ∷ rest) ∷ map (map word) (reached_once reading (first ∷ rest))

-- the tests of the phrases for a phrase, those of one length together
abbrev pub grouped_tests : Reading → List Item → List (List (List (TextWord → Bool)))
grouped_tests reading phrase = map (λ group. group.1) (by_length (map (map (item_test reading)) (phrases_for reading phrase)))

abbrev pub tests_of : List (List ItemTest) → List (List (TextWord → Bool))
tests_of phrases = map (map passes) phrases

abbrev pub plan_tests : PhrasePlan → List (List (List (TextWord → Bool)))
plan_tests plan = map tests_of plan.groups

abbrev pub asks_all : Mode → Bool
asks_all Any = false
asks_all AnyWord = false
asks_all All = true
asks_all AllWords = true
asks_all Phrase = false
