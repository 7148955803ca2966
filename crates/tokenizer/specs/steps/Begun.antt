-- What was seen from the first word of a text on, where it is known only elsewhere which gap stands before that word.
use Rattle.std.specs.Prelude.{◌≡◌, ◌<◌, ◌≤◌, ℕ, zero, suc, ◌+◌, Bool, All, List, [], ◌∷◌, ◌++◌, map, length, if◌then◌else◌}
use Rattle.tokenizer.specs.steps.Numbering.{after_word, both_passed, nothing_passed}
use Rattle.tokenizer.specs.declared.numbering.Numbering.{Numbering}
use Rattle.tokenizer.specs.declared.starts.Starts.{Starts}

-- the numbering after so many words, in which `inside` was counted, where `last` stands before them
abbrev pub after_begun : ℕ → Numbering → Numbering → Numbering
after_begun zero inside last = last
after_begun (suc n) inside last = both_passed (after_word last) inside

-- the places of starts among so many words after the words seen: the first word, where one `ends` before it, and those inside
abbrev pub places_begun : ℕ → List ℕ → Bool → ℕ → List ℕ
places_begun zero inside ends seen = []
places_begun (suc n) inside ends seen = (if ends then (seen + 1) ∷ [] else []) ++ map (λ place. seen + place) inside

-- no sentence and no paragraph starts with the first word, or is counted there
pub record Begun (after : Starts) : Type 0 where
  pub sentences : All (λ place. 1 < place) after.breaks.sentences
  pub paragraphs : All (λ place. 1 < place) after.breaks.paragraphs
  pub sentences_few : 0 < after.words → after.last.sentence < after.words
  pub paragraphs_few : 0 < after.words → after.last.paragraph < after.words
  pub counted : length after.breaks.sentences ≤ after.last.sentence
  pub none : after.words ≡ 0 → after.last ≡ nothing_passed
  pub no_sentences : after.words ≡ 0 → after.breaks.sentences ≡ []
  pub no_paragraphs : after.words ≡ 0 → after.breaks.paragraphs ≡ []
