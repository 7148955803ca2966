-- What is asked of hits that are chosen, one of each phrase.
use Rattle.std.specs.Prelude.{ℕ, suc, ◌+◌, Bool, false, ◌&&◌, ◌||◌, nat_le, nat_lt, List, [], ◌∷◌, map, Option, Some, None}
use Rattle.ft_base.specs.declared.hit.Hit.{Hit}
use Rattle.ft_base.specs.declared.range.Range.{Range}
use Rattle.ft_base.specs.declared.range.Range.TheVariants.{AtLeast, AtMost, Exactly, FromTo}
use Rattle.ft_base.specs.declared.unit.TextUnit.{TextUnit}
use Rattle.all_matches.specs.Join.{greatest, least}
use Rattle.all_matches.specs.Positions.{start_in, end_in}
use Rattle.window_merges.specs.Choices.{are_in_order}

-- whether no hit begins more than so many words, sentences or paragraphs after the end of another: in `a x b` there is one between
-- "a" and "b"
abbrev pub are_near : ℕ → TextUnit → List Hit → Bool
are_near size unit [] = false
are_near size unit (first ∷ rest) =
    nat_le (greatest (start_in unit first) (map (λ hit. start_in unit hit) rest)) (suc (least (end_in unit first) (map (λ hit. end_in unit hit) rest) + size))

-- whether the second hit begins after the end of the first, with at least so many words, sentences or paragraphs between them, and at
-- most so many, if there is a most
abbrev pub is_after : ℕ → Option ℕ → TextUnit → Hit → Hit → Bool
is_after low None unit a b = nat_le (suc (end_in unit a + low)) (start_in unit b)
is_after low (Some high) unit a b = nat_le (suc (end_in unit a + low)) (start_in unit b) && nat_le (start_in unit b) (suc (end_in unit a + high))

-- whether there are two hits, one of which is so far after the other
abbrev pub are_between : ℕ → Option ℕ → TextUnit → List Hit → Bool
are_between low high unit [] = false
are_between low high unit (a ∷ []) = false
are_between low high unit (a ∷ b ∷ []) = is_after low high unit a b || is_after low high unit b a
are_between low high unit (a ∷ b ∷ c ∷ rest) = false

-- whether hits are as far from one another as a range tells: those that overlap are so under `at most` alone
abbrev pub are_apart : Range → TextUnit → List Hit → Bool
are_apart (Exactly size) unit hits = are_between size (Some size) unit hits
are_apart (AtLeast size) unit hits = are_between size None unit hits
are_apart (AtMost size) unit hits = are_near size unit hits
are_apart (FromTo low high) unit hits = are_between low (Some high) unit hits

-- whether no hit begins before one that comes earlier in the list
abbrev pub begin_in_order : List Hit → Bool
begin_in_order hits = are_in_order (map (λ hit. hit.from) hits)

-- whether a hit ends no earlier than it begins
abbrev pub ends_after : TextUnit → Hit → Bool
ends_after unit hit = nat_le (start_in unit hit) (end_in unit hit)

-- whether of two hits the one that begins no later begins in no later sentence or paragraph
abbrev pub begin_alike : TextUnit → Hit → Hit → Bool
begin_alike unit a b = (nat_lt b.from a.from || nat_le (start_in unit a) (start_in unit b)) && (nat_lt a.from b.from || nat_le (start_in unit b) (start_in unit a))
