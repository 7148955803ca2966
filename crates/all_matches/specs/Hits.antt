-- Where a phrase stands in a text (XQuery and XPath Full Text 3.0, sections 4.1 and 4.2.4: matchTokenInfos).
use Rattle.std.specs.Prelude.{ℕ, suc, ◌-◌, Bool, true, false, ◌&&◌, List, [], ◌∷◌, map, filter, flat_map, length, take, drop, slice_get}
use Rattle.std.specs.List.{list_any, range_with_len}
use Rattle.std.specs.Option.{option_map_or}
use Rattle.ft_base.specs.declared.token.Token.{Token}
use Rattle.ft_base.specs.declared.hit.Hit.{Hit}
use Rattle.ft_base.specs.declared.hit.Match.{Match}
use Rattle.ft_base.specs.declared.options.Options.{Options}
use Rattle.all_matches.specs.Variants.{Item, any_word, word, pattern, Lexicon, variants}

-- whether a token passes an item
abbrev pub passes_item : Lexicon → Options → Item → Token → Bool
passes_item lexicon options any_word token = true
passes_item lexicon options (word w) token = lexicon.accepts options (word w) token.word
passes_item lexicon options (pattern p) token = lexicon.accepts options (pattern p) token.word

-- whether the tokens are as many as the items, and each passes its own
abbrev pub stands_as : Lexicon → Options → List Item → List Token → Bool
stands_as lexicon options [] [] = true
stands_as lexicon options [] (token ∷ tokens) = false
stands_as lexicon options (item ∷ items) [] = false
stands_as lexicon options (item ∷ items) (token ∷ tokens) = passes_item lexicon options item token && stands_as lexicon options items tokens

-- the first and the last place of a part of a text that isn't empty
pub record Interval : Type 0 where
  pub from : ℕ
  pub to : ℕ

-- all intervals of the first n places, by their first and then their last place
abbrev pub intervals : ℕ → List Interval
intervals n = flat_map (λ from. map (λ to. record { from = from; to = to }) (range_with_len from (suc n - from))) (range_with_len 1 n)

abbrev pub tokens_in : List Token → Interval → List Token
tokens_in tokens interval = take (suc interval.to - interval.from) (drop (interval.from - 1) tokens)

-- the sentence and the paragraph of the token at a place
abbrev pub sentence_at : List Token → ℕ → ℕ
sentence_at tokens place = option_map_or (λ token. token.sentence) (slice_get tokens (place - 1)) 0

abbrev pub paragraph_at : List Token → ℕ → ℕ
paragraph_at tokens place = option_map_or (λ token. token.paragraph) (slice_get tokens (place - 1)) 0

-- the hit of the phrase with this number on an interval
abbrev pub hit_on : List Token → ℕ → Interval → Hit
hit_on tokens number interval = record {
  query = number;
  from = interval.from;
  to = interval.to;
  sent_from = sentence_at tokens interval.from;
  sent_to = sentence_at tokens interval.to;
  para_from = paragraph_at tokens interval.from;
  para_to = paragraph_at tokens interval.to;
  whole = true;
}

-- the intervals on which some variant of a phrase stands: `"a b"` stands on one in "a x a b", from 3 to 4
abbrev pub intervals_of : Lexicon → Options → List Item → List Token → List Interval
intervals_of lexicon options phrase tokens =
    filter
    (λ interval. list_any (λ variant. stands_as lexicon options variant (tokens_in tokens interval)) (variants lexicon options phrase))
    (intervals (length tokens))

-- the hits of a phrase, one on each of these intervals
abbrev pub hits : Lexicon → Options → ℕ → List Item → List Token → List Hit
hits lexicon options number phrase tokens = map (hit_on tokens number) (intervals_of lexicon options phrase tokens)

-- the Match whose only include is this hit
abbrev pub match_of_hit : Hit → Match
match_of_hit hit = record { includes = hit ∷ []; excludes = [] }

-- the AllMatches of a phrase
abbrev pub phrase_matches : Lexicon → Options → ℕ → List Item → List Token → List Match
phrase_matches lexicon options number phrase tokens = map match_of_hit (hits lexicon options number phrase tokens)
