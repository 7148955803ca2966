-- The places at which sentences and paragraphs start, of a document of which a part is still to come.
use Rattle.std.specs.Prelude.{ℕ, ◌+◌, List, ◌++◌}
use Rattle.tokenizer.specs.steps.Numbering.{tokens_left}
use Rattle.tokenizer.specs.Parts.{Part}
use Rattle.tokenizer.specs.Tokens.{starts}
use Rattle.tokenizer.specs.declared.starts.Starts.{Starts}

-- how many words were seen
abbrev pub words_seen : Starts → ℕ
words_seen seen = seen.words

unfoldable pub sentences_in : Starts → List Part → List ℕ
sentences_in seen rest = seen.breaks.sentences ++ starts (λ token. token.sentence) seen.last.sentence (seen.words + 1) (tokens_left seen.last rest)

unfoldable pub paragraphs_in : Starts → List Part → List ℕ
paragraphs_in seen rest = seen.breaks.paragraphs ++ starts (λ token. token.paragraph) seen.last.paragraph (seen.words + 1) (tokens_left seen.last rest)
