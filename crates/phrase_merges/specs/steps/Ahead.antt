-- The hits from a place on, and the first place up to which some of them reach.
use Rattle.std.specs.Prelude.{ℕ, Bool, min, max, nat_le, List, [], ◌∷◌, map, filter, Option, Some, None}
use Rattle.std.specs.List.{list_any}
use Rattle.std.specs.declared.vec.Vec.{Vec}
use Rattle.std.specs.declared.alloc.Global.{Global}
use Rattle.ft_base.specs.declared.hit.Hit.{Hit}
use Rattle.ft_base.specs.declared.unit.TextUnit.{TextUnit}
use Rattle.all_matches.specs.Positions.{start_in, end_in}
use Rattle.ft_operators.specs.Phrases.{PhraseState}
use Rattle.phrase_merges.specs.Choices.{is_after}
use Rattle.phrase_merges.specs.declared.edge.Edge.{Edge}
use Rattle.phrase_merges.specs.declared.edge.Edge.TheVariants.{Start, End}

-- the first or the last number of a hit
abbrev pub number_at : Edge → TextUnit → Hit → ℕ
number_at Start unit hit = start_in unit hit
number_at End unit hit = end_in unit hit

-- the hits that begin, or else end, at a place or after it
abbrev pub from_on : Edge → TextUnit → ℕ → List Hit → List Hit
from_on by unit place hits = filter (λ hit. nat_le place (number_at by unit hit)) hits

-- those that each list has left, and each list of each phrase
abbrev pub lists_from : {P : Type 0} → (P → PhraseState) → Edge → TextUnit → ℕ → List P → List (List Hit)
lists_from state by unit place sources = map (λ source. from_on by unit place (state source).rest) sources

abbrev pub phrases_from : {P : Type 0} → (P → PhraseState) → Edge → TextUnit → ℕ → List (Vec P Global) → List (List (List Hit))
phrases_from state by unit place phrases = map (λ phrase. lists_from state by unit place phrase.items) phrases

-- the smaller of two numbers, or the one that there is
abbrev pub sooner : Option ℕ → Option ℕ → Option ℕ
sooner None second = second
sooner (Some a) None = Some a
sooner (Some a) (Some b) = Some (min a b)

-- the smallest number of a hit of a list, and of one of several lists
abbrev pub least_in : (Hit → ℕ) → List Hit → Option ℕ
least_in number [] = None
least_in number (hit ∷ hits) = sooner (Some (number hit)) (least_in number hits)

abbrev pub least_of : (Hit → ℕ) → List (List Hit) → Option ℕ
least_of number [] = None
least_of number (hits ∷ lists) = sooner (least_in number hits) (least_of number lists)

-- the larger of two numbers, where there are both
abbrev pub farther : Option ℕ → Option ℕ → Option ℕ
farther None second = None
farther (Some a) None = None
farther (Some a) (Some b) = Some (max a b)

-- the largest of the smallest numbers of each phrase
abbrev pub farthest_of : (Hit → ℕ) → List (List (List Hit)) → Option ℕ
farthest_of number [] = Some 0
farthest_of number (lists ∷ phrases) = farther (least_of number lists) (farthest_of number phrases)

-- whether some hit of the second list is so far after one of the first
abbrev pub some_after : ℕ → Option ℕ → TextUnit → List Hit → List Hit → Bool
some_after low high unit first second = list_any (λ a. list_any (λ b. is_after low high unit a b) second) first
