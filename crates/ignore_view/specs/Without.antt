-- The tokens of a text without those that are ignored (XQuery and XPath Full Text 3.0, section 3.7, "Ignore Option").
use Rattle.std.specs.Prelude.{ℕ, ◌+◌, Bool, ◌&&◌, ◌||◌, ◌==◌, true, List, [], ◌∷◌, length, nat_le, nat_lt, if◌then◌else◌}
use Rattle.std.specs.List.{list_any}
use Rattle.ft_base.specs.declared.span.Span.{Span}
use Rattle.ft_base.specs.declared.token.Token.{Token}
use Rattle.index_cursors.specs.SpanHits.{is_inside}

-- whether the place is one that is left out: one of a hole. The place at the end of a hole isn't one of its places
abbrev pub is_left_out : List Span → ℕ → Bool
is_left_out holes place = list_any (λ hole. is_inside hole place) holes

-- the tokens that aren't left out, where the first of all is at the place
abbrev pub kept_from : List Span → ℕ → List Token → List Token
kept_from holes place [] = []
kept_from holes place (token ∷ rest) =
    if is_left_out holes place then kept_from holes (place + 1) rest else token ∷ kept_from holes (place + 1) rest

-- the number of a sentence or paragraph: that of the token before in the result, or the next one where the numbers of both in the
-- text differ
abbrev pub counted_on : ℕ → ℕ → ℕ → ℕ
counted_on before told number = if number == before then told else told + 1

-- the token after a token, which has other numbers in the result
abbrev pub told_after : Token → Token → Token → Token
told_after before told token = record {
  word = token.word;
  sentence = counted_on before.sentence told.sentence token.sentence;
  paragraph = counted_on before.paragraph told.paragraph token.paragraph;
}

abbrev pub counted_after : Token → Token → List Token → List Token
counted_after before told [] = []
counted_after before told (token ∷ rest) = told_after before told token ∷ counted_after token (told_after before told token) rest

-- the token in the first sentence and the first paragraph
abbrev pub as_first : Token → Token
as_first token = record { word = token.word; sentence = 1; paragraph = 1 }

-- the tokens with their sentences and paragraphs counted anew, from 1
abbrev pub counted : List Token → List Token
counted [] = []
counted (first ∷ rest) = as_first first ∷ counted_after first (as_first first) rest

-- the tokens of a text whose places, which count from 1, are in no hole, with sentences and paragraphs of their own
abbrev pub without : List Token → List Span → List Token
without tokens holes = counted (kept_from holes 1 tokens)

-- whether the hole covers all places of the text
abbrev pub covers : Span → List Token → Bool
covers hole tokens = nat_le hole.from 1 && nat_lt (length tokens) hole.to

-- whether sentences and paragraphs are counted as those of a text: from 1, and each number is that of the token before or the next
abbrev pub follows_on : ℕ → ℕ → Bool
follows_on before number = number == before || number == before + 1

abbrev pub are_counted_after : Token → List Token → Bool
are_counted_after before [] = true
are_counted_after before (token ∷ rest) =
    (follows_on before.sentence token.sentence && follows_on before.paragraph token.paragraph) && are_counted_after token rest

abbrev pub are_counted : List Token → Bool
are_counted [] = true
are_counted (first ∷ rest) = (first.sentence == 1 && first.paragraph == 1) && are_counted_after first rest
