-- Texts, words and selections for examples: words are divided by spaces and accept themselves alone.
use Rattle.std.specs.Prelude.{ℕ, ℤ, Bool, true, false, ◌&&◌, ◌==◌, List, [], ◌∷◌, map, filter, codes, bytes_eq, Option, Some, None}
use Rattle.std.specs.List.{slice_split}
use Rattle.ft_base.specs.declared.token.Token.{Token}
use Rattle.ft_base.specs.declared.hit.Hit.{Hit}
use Rattle.ft_base.specs.declared.span.Span.{Span}
use Rattle.ft_base.specs.declared.range.Range.{Range}
use Rattle.ft_base.specs.declared.range.Range.TheVariants.{AtLeast}
use Rattle.ft_base.specs.declared.words.Mode.{Mode}
use Rattle.ft_base.specs.declared.words.Mode.TheVariants.{Any}
use Rattle.ft_base.specs.declared.options.Options.{Options}
use Rattle.ft_base.specs.declared.options.Case.{Case}
use Rattle.ft_base.specs.declared.options.StopChoice.{StopChoice}
use Rattle.ft_base.specs.declared.options.ThesaurusChoice.{ThesaurusChoice}
use Rattle.ft_base.specs.declared.options.Case.TheVariants.{Insensitive, Sensitive, Lower, Upper}
use Rattle.ft_base.specs.Selection.{no_options, Form, words, or_of, and_of, not_of, with_options, none, more}
use Rattle.all_matches.specs.declared.window.Window.{Window}
use Rattle.all_matches.specs.Variants.{Item, any_word, word, pattern, Lexicon}

abbrev pub has_bytes : List ℕ → Bool
has_bytes [] = false
has_bytes (byte ∷ rest) = true

-- the parts of a text between its spaces
abbrev pub spaced_words : List ℕ → List (List ℕ)
spaced_words bytes = filter has_bytes (slice_split (λ byte. byte == 32) bytes)

abbrev pub is_word : Item → List ℕ → Bool
is_word any_word w = false
is_word (word q) w = bytes_eq q w
is_word (pattern p) w = false

-- words without options: one stop list, `short`, which holds the word `of`, and no thesaurus
abbrev pub plain : Lexicon
plain = record {
  words_of = spaced_words;
  items_of = λ options string. map word (spaced_words string);
  key = λ w. w;
  accepts = λ options item w. is_word item w;
  stop_list_holds = λ name key. bytes_eq key (codes "of");
  reached = λ choice phrase. [];
}

-- the words of a text, all in this sentence of the first paragraph
abbrev pub sentence : ℕ → List ℕ → List Token
sentence number bytes = map (λ w. record { word = w; sentence = number; paragraph = 1 }) (spaced_words bytes)

-- a text of one sentence
abbrev pub text : List ℕ → List Token
text bytes = sentence 1 bytes

-- a value with a mode and a range of times
abbrev pub value : Mode → Option Range → List (List ℕ) → Form
value mode times strings = words record { values = strings; mode = mode; times = times; options = no_options }

-- one string
abbrev pub quoted : List ℕ → Form
quoted string = value Any None (string ∷ [])

-- two selections joined by `ftand`, by `ftor`
abbrev pub two_and : Form → Form → Form
two_and a b = and_of (more a (more b none))

abbrev pub two_or : Form → Form → Form
two_or a b = or_of (more a (more b none))

abbrev pub three_and : Form → Form → Form → Form
three_and a b c = and_of (more a (more b (more c none)))

-- `.. ftand ftnot ..`
abbrev pub but_not : Form → Form → Form
but_not a b = two_and a (not_of b)

-- single words
abbrev pub word_a : Form
word_a = quoted (codes "a")

abbrev pub word_b : Form
word_b = quoted (codes "b")

abbrev pub word_c : Form
word_c = quoted (codes "c")

abbrev pub word_x : Form
word_x = quoted (codes "x")

-- `"a" occurs at least 2 times`
abbrev pub twice_a : Form
twice_a = value Any (Some (AtLeast 2)) (codes "a" ∷ [])

-- the words of a paragraph that is one sentence, the paragraphs before it being so too
abbrev pub paragraph : ℕ → List ℕ → List Token
paragraph number bytes = map (λ w. record { word = w; sentence = number; paragraph = number }) (spaced_words bytes)

-- words that accept themselves where their options pass a test
abbrev pub under_options : (Options → Bool) → Lexicon
under_options test = record plain { accepts = λ options item w. test options && is_word item w }

-- the word `a` with options before it, and others before these
abbrev pub word_inside : Options → Options → Form
word_inside inner outer = with_options (with_options word_a inner) outer

-- words that a thesaurus option with a list takes for the word `x` as well
abbrev pub also_x : Lexicon
also_x = record plain { reached = λ choice phrase. (codes "x" ∷ []) ∷ [] }

abbrev pub is_sensitive : Option Case → Bool
is_sensitive None = false
is_sensitive (Some Insensitive) = false
is_sensitive (Some Sensitive) = true
is_sensitive (Some Lower) = false
is_sensitive (Some Upper) = false

abbrev pub is_on : Option Bool → Bool
is_on None = false
is_on (Some on) = on

abbrev pub is_english : Option (List ℕ) → Bool
is_english None = false
is_english (Some name) = bytes_eq name (codes "en")

-- options of one group each
abbrev pub stemmed : Bool → Options
stemmed on = record no_options { stemming = Some on }

abbrev pub marked : Bool → Options
marked on = record no_options { diacritics_sensitive = Some on }

abbrev pub with_wildcards : Bool → Options
with_wildcards on = record no_options { wildcards = Some on }

abbrev pub in_case : Case → Options
in_case case = record no_options { case = Some case }

abbrev pub in_language : List ℕ → Options
in_language name = record no_options { language = Some name }

abbrev pub stopped : StopChoice → Options
stopped choice = record no_options { stop_words = Some choice }

abbrev pub with_thesaurus : ThesaurusChoice → Options
with_thesaurus choice = record no_options { thesaurus = Some choice }

-- windows and spans, from one number to another
abbrev pub window : ℤ → ℤ → Window
window from to = record { from = from; to = to }

abbrev pub span : ℕ → ℕ → Span
span from to = record { from = from; to = to }

-- a hit that is in other sentences, and one that doesn't cover each of its words
abbrev pub in_sentences : ℕ → ℕ → Hit → Hit
in_sentences from to hit = record hit { sent_from = from; sent_to = to }

abbrev pub with_a_hole : Hit → Hit
with_a_hole hit = record hit { whole = false }
