-- The words of a span of a document of a version are known, and are those of its tokens.
use Rattle.std.proofs.Common.{◌≡◌, sym, ap, subst, ◌∙◌, ℕ, ◌+◌, ◌-◌, ◌<◌, List, [], map, length, get_or, drop, arith}
use Rattle.std.proofs.lemmas.List.{get_or-take, get_or-drop, length-drop, length-take}
use Rattle.std.proofs.lemmas.List.Elements.{All-from_get_or}
use Rattle.std.proofs.lemmas.Simd.{map-map}
use Rattle.ft_base.specs.declared.token.Token.{Token}
use Rattle.index_meaning.specs.Documents.{Numbered, document_at, token_count, words_of}
use Rattle.index_phrases.proofs.SpanTokens.{words_of_span}
use Rattle.word_lists.specs.Stems.{Stem}
use Rattle.plan_compiler.specs.TextWords.{word_as, words_of_tokens}
use Rattle.plan_compiler.specs.declared.looks.Looks.{Looks}
use Rattle.plan_runs.specs.steps.AskedSpans.{AskedSpan, IsAsked, tokens_in, words_in}
use Rattle.plan_runs.specs.steps.ChosenTerms.{AreKnown, IsKnown}
use Rattle.plan_runs.proofs.TermLaws.{word_law}

pub text_known : (version : List Numbered) (asked : AskedSpan) → IsAsked version asked → AreKnown version (words_in version asked)
text_known version asked s = All-from_get_or (IsKnown version) (words_in version asked) [] each
  where
    each : (i : ℕ) → i < length (words_in version asked) → IsKnown version (get_or (words_in version asked) i [])
    each i h =
        let span = asked.span in
        let all = words_of (document_at asked.doc version) in
        let first = s.inside.first in
        let order = s.inside.order in
        let last = s.inside.last in
        let taken = length-take (span.to - 1 - (span.from - 1)) (drop (span.from - 1) all) in
        let dropped = length-drop (span.from - 1) all in
        let near : i < span.to - 1 - (span.from - 1) = omega arith in
        let within : span.from - 1 + i < token_count (document_at asked.doc version) = omega arith in
        let is : get_or (words_in version asked) i [] ≡ get_or all (span.from - 1 + i) [] =
        get_or-take (span.to - 1 - (span.from - 1)) (drop (span.from - 1) all) i [] near ∙ get_or-drop (span.from - 1) all i [] in
        subst (IsKnown version) (sym is) (λ test. word_law version test asked.doc (span.from - 1 + i) s.there within)

-- what is looked at of its words is what is looked at of its tokens
pub looked_words : (looks : Looks) (stems : List Stem) (version : List Numbered) (asked : AskedSpan)
    → map (word_as looks stems) (words_in version asked) ≡ words_of_tokens looks stems (tokens_in version asked)
looked_words looks stems version asked =
    ap (map (word_as looks stems)) (sym (words_of_span asked.span (document_at asked.doc version)))
    ∙ map-map (word_as looks stems) (λ (token : Token). token.word) (tokens_in version asked)
