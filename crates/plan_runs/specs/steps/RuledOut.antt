-- Stretches of a document in which no span satisfies a selection.
use Rattle.std.specs.Prelude.{◌≡◌, ◌≤◌, ◌+◌, ℕ, true, false, List, Option, None, Some}
use Rattle.all_matches.specs.Meaning.{sat}
use Rattle.ft_base.specs.declared.span.Span.{Span}
use Rattle.ft_base.specs.declared.token.Token.{Token}
use Rattle.index_meaning.specs.Documents.{document_at, has_document, token_count}
use Rattle.index_phrases.specs.Tokens.{span_tokens}
use Rattle.plan_compiler.specs.Lexicon.{lexicon}
use Rattle.plan_runs.specs.Judgement.{HaveWordsOf}
use Rattle.plan_runs.specs.RunMeaning.{RunMeaning}

-- Of no span of the document that starts at `from` or after, and ends at `to` or before, do tokens with words of the span alone satisfy the
-- selection: neither its own tokens nor what is left of them.
abbrev pub HasNone : RunMeaning → ℕ → ℕ → ℕ → Type 0
HasNone run doc from to = has_document doc run.version ≡ true → (span : Span)
    → (1 ≤ span.from) × (span.from ≤ span.to) × (span.to ≤ token_count (document_at doc run.version) + 1)
    → from ≤ span.from → span.to ≤ to → (tokens : List Token) → HaveWordsOf tokens (span_tokens span (document_at doc run.version))
    → sat (lexicon run.lists) run.form tokens ≡ false

-- the part of a document from a position on, up to the greatest one
abbrev pub part_from : ℕ → Span
part_from from = record { from = from; to = 4294967295 }

-- a place up to which a part can be skipped, where there is none after it that of the greatest number
abbrev pub place_of : Option ℕ → ℕ
place_of None = 4294967295
place_of (Some place) = place

-- Of no part of a document a place is told: nothing of the document satisfies what is asked for.
abbrev pub IsMissing : (Span → Option ℕ) → Type 0
IsMissing place = (part : Span) → place part ≡ None
