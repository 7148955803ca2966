-- Operators whose ways come in the order of their includes, by their places: the first clean one of them has the least.
use Rattle.std.specs.Prelude.{Bool, true, false, ◌&&◌, List, [], ◌∷◌, Option, Some, None}
use Rattle.ft_base.specs.declared.filter.Filter.{Filter}
use Rattle.ft_base.specs.declared.filter.Filter.TheVariants as F
use Rattle.ft_base.specs.declared.hit.Hit.{Hit}
use Rattle.all_matches.specs.Ways.{Operator, phrase, either, together, apart, negated, through_filter}
use Rattle.best_hits.specs.Least.{is_earlier}

-- whether a hit stands after the last one, if there is one
abbrev pub is_after : Option Hit → Hit → Bool
is_after None hit = true
is_after (Some last) hit = is_earlier last hit

-- whether each of some hits stands after the one before it
abbrev pub rise_after : Option Hit → List Hit → Bool
rise_after last [] = true
rise_after last (hit ∷ rest) = is_after last hit && rise_after (Some hit) rest

-- whether the includes after a filter are those before it
abbrev pub leaves_includes : Filter → Bool
leaves_includes F.Ordered = true
leaves_includes (F.Window size unit) = false
leaves_includes (F.Distance range unit) = false
leaves_includes F.SameSentence = true
leaves_includes F.SameParagraph = true
leaves_includes F.DifferentSentence = true
leaves_includes F.DifferentParagraph = true
leaves_includes F.AtStart = true
leaves_includes F.AtEnd = true
leaves_includes F.EntireContent = true

-- whether an operator chooses one hit of each of some phrases, whose hits rise, and nothing else
abbrev pub comes_in_order : Operator → Bool
comes_in_order (phrase found) = rise_after None found
comes_in_order (either left right) = false
comes_in_order (together left right) = comes_in_order left && comes_in_order right
comes_in_order (apart left right) = comes_in_order left
comes_in_order (negated operand) = true
comes_in_order (through_filter operand kind) = leaves_includes kind && comes_in_order operand
