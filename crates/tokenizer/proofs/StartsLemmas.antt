-- The places at which sentences and paragraphs start, one part further.
use Rattle.std.proofs.Common.{◌≡◌, ℕ, ◌+◌, ◌==◌, List, [], ◌∷◌, ◌++◌, refl, sym, ap, ◌∙◌, append_assoc, append-nil, if◌then◌else◌}
use Rattle.tokenizer.specs.steps.Numbering.{tokens_left}
use Rattle.tokenizer.specs.Tokens.{starts}
use Rattle.tokenizer.proofs.NumberingLemmas.{tokens_left-nil}
use Rattle.tokenizer.specs.declared.numbering.Numbering.{Numbering}
use Rattle.ft_base.specs.declared.token.Token.{Token}

-- one token more: `added` is its place, where a sentence or a paragraph starts there
pub starts-token : (number : Token → ℕ) (before place : ℕ) (token : Token) (tokens : List Token) (known : List ℕ) → known ++ starts number before place (token ∷ tokens) ≡ (known ++ (if number token == before then [] else place ∷ [])) ++ starts number (number token) (place + 1) tokens
unfolding starts
starts-token number before place token tokens known = sym (append_assoc known (if number token == before then [] else place ∷ []) (starts number (number token) (place + 1) tokens))

pub starts-nil : (number : Token → ℕ) (before place : ℕ) → starts number before place [] ≡ []
unfolding starts
starts-nil number before place = refl

-- at the end nothing is added
pub starts-ended : (number : Token → ℕ) (before place : ℕ) (last : Numbering) (known : List ℕ) → known ≡ known ++ starts number before place (tokens_left last [])
starts-ended number before place last known =
    sym (ap (λ l. known ++ starts number before place l) (tokens_left-nil last) ∙ ap (λ l. known ++ l) (starts-nil number before place) ∙ append-nil known)
