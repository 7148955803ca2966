-- What is known of a text, wherever it stands: going past the text is going past this.
use Rattle.std.specs.Prelude.{◌≡◌, ◌<◌, ℕ, ◌+◌, true, false, All, List, [], ◌∷◌, ◌++◌, length, if◌then◌else◌}
use Rattle.tokenizer.specs.Parts.{Part, parts_of_text}
use Rattle.tokenizer.specs.Tokens.{starts}
use Rattle.text_words.specs.Words.{words}
use Rattle.tokenizer.specs.steps.Begun.{after_begun, places_begun}
use Rattle.tokenizer.specs.steps.Behind.{StandsIn, has_word, period_ends, spares}
use Rattle.tokenizer.specs.steps.GapSteps.{after_part, nothing_seen, with_period_if}
use Rattle.tokenizer.specs.steps.Numbering.{paragraph_ends, sentence_ends, tokens_left}
use Rattle.tokenizer.specs.declared.behind.WordBefore.{WordBefore}
use Rattle.tokenizer.specs.declared.gap.Gap.{Gap}
use Rattle.tokenizer.specs.declared.gap_part.GapPart.{GapPart}
use Rattle.tokenizer.specs.declared.numbering.Numbering.{Numbering}
use Rattle.tokenizer.specs.declared.text_starts.TextStarts.{TextStarts}

-- what is known: the characters before the first word, the number of words, the places inside, and the numbering there
pub record Known : Type 0 where
  pub before : GapPart
  pub words : ℕ
  pub sentences : List ℕ
  pub paragraphs : List ℕ
  pub inside : Numbering

-- the starts of sentences that stay: not those that only a period directly behind an abbreviation makes. Of each start the word before it
-- is given, where only a period directly behind that word makes the start.
unfoldable pub staying : List (List ℕ) → List ℕ → List ℕ → List WordBefore → List ℕ
staying abbreviations text [] words = []
staying abbreviations text (place ∷ places) [] = place ∷ places
staying abbreviations text (place ∷ places) (word ∷ words) =
    (if spares abbreviations text word then [] else place ∷ []) ++ staying abbreviations text places words

abbrev pub sentences_under : List (List ℕ) → List ℕ → TextStarts → List ℕ
sentences_under abbreviations text known = staying abbreviations text known.after.breaks.sentences known.by_period.items

-- what is known of the gap at the text's end
abbrev pub gap_under : List (List ℕ) → List ℕ → TextStarts → Gap
gap_under abbreviations text known = with_period_if (period_ends abbreviations text known.last_period) known.after.last.gap

abbrev pub known_under : List (List ℕ) → List ℕ → TextStarts → Known
known_under abbreviations text known = record {
  before = known.before;
  words = known.after.words;
  sentences = sentences_under abbreviations text known;
  paragraphs = known.after.breaks.paragraphs;
  inside = record known.after.last { sentence = length (sentences_under abbreviations text known); gap = gap_under abbreviations text known };
}

-- how many words the text has
abbrev pub words_known : TextStarts → ℕ
words_known known = known.after.words

-- the numbering before the text's first word
abbrev pub before_first : Known → Numbering → Numbering
before_first known last = record last { gap = after_part known.before last.gap }

-- the numbering after the text
abbrev pub after_known : Known → Numbering → Numbering
after_known known last = after_begun known.words known.inside (before_first known last)

-- the places in the text at which a sentence starts, after the words seen
abbrev pub sentences_known : Known → Numbering → ℕ → List ℕ
sentences_known known last seen = places_begun known.words known.sentences (sentence_ends (before_first known last)) seen

-- the same of a paragraph
abbrev pub paragraphs_known : Known → Numbering → ℕ → List ℕ
paragraphs_known known last seen = places_begun known.words known.paragraphs (paragraph_ends (before_first known last)) seen

-- whatever stands before, the starts in `parts` are those that are known and then those that are left
pub record Leads (parts : List Part) (known : Known) (left : List Part) : Type 0 where
  pub sentences : (last : Numbering) (seen : ℕ) (rest : List Part)
      → starts (λ token. token.sentence) last.sentence (seen + 1) (tokens_left last (parts ++ rest))
      ≡ sentences_known known last seen
      ++ starts (λ token. token.sentence) (after_known known last).sentence (seen + known.words + 1) (tokens_left (after_known known last) (left ++ rest))
  pub paragraphs : (last : Numbering) (seen : ℕ) (rest : List Part)
      → starts (λ token. token.paragraph) last.paragraph (seen + 1) (tokens_left last (parts ++ rest))
      ≡ paragraphs_known known last seen
      ++ starts (λ token. token.paragraph) (after_known known last).paragraph (seen + known.words + 1) (tokens_left (after_known known last) (left ++ rest))

-- a word was the last thing that was seen
pub record AtWord (known : TextStarts) : Type 0 where
  pub some : 0 < words_known known
  pub nothing : known.after.last.gap ≡ nothing_seen
  pub no_period : has_word known.last_period ≡ false

-- where there is a word, it was the last thing that was seen
abbrev pub IsBehind : WordBefore → TextStarts → Type 0
IsBehind word known = has_word word ≡ true → AtWord known

-- the words that are kept with periods stand in the text
pub record WordsStandIn (text : List ℕ) (known : TextStarts) : Type 0 where
  pub by_period : All (StandsIn text) known.by_period.items
  pub last_period : StandsIn text known.last_period

-- while a text is read: of its parts under each set of abbreviations these are left
pub record Reads (text : List ℕ) (known : TextStarts) (left : List (List ℕ) → List Part) : Type 0 where
  pub told : length known.by_period.items ≡ length known.after.breaks.sentences
  pub stand : WordsStandIn text known
  pub leads : (abbreviations : List (List ℕ)) → Leads (parts_of_text abbreviations text) (known_under abbreviations text known) (left abbreviations)

-- the number of the text's words is known, and under no set of abbreviations is anything left of its parts
pub record Tells (known : TextStarts) (text : List ℕ) : Type 0 where
  pub words : words_known known ≡ length (words text)
  pub stand : WordsStandIn text known
  pub leads : (abbreviations : List (List ℕ)) → Leads (parts_of_text abbreviations text) (known_under abbreviations text known) []
