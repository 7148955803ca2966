-- Hits that begin in no later sentence or paragraph than those that begin after them in the text.
use Rattle.std.specs.Prelude.{Bool, ◌||◌, nat_le, nat_lt, List, ◌++◌}
use Rattle.std.specs.List.{list_all}
use Rattle.ft_base.specs.declared.hit.Hit.{Hit}
use Rattle.ft_base.specs.declared.unit.TextUnit.{TextUnit}
use Rattle.all_matches.specs.Positions.{start_in}
use Rattle.all_matches.specs.Ways.{Operator, phrase, either, together, apart, negated, through_filter}

-- whether a hit that begins no later than another in words begins no later in the unit
abbrev pub rises_to : TextUnit → Hit → Hit → Bool
rises_to kind hit other = nat_lt other.from hit.from || nat_le (start_in kind hit) (start_in kind other)

-- the same of every two
abbrev pub starts_rise : TextUnit → List Hit → Bool
starts_rise kind hits = list_all (λ other. list_all (λ hit. rises_to kind hit other) hits) hits

-- the hits of all phrases of an operator
abbrev pub hits_of : Operator → List Hit
hits_of (phrase found) = found
hits_of (either left right) = hits_of left ++ hits_of right
hits_of (together left right) = hits_of left ++ hits_of right
hits_of (apart left right) = hits_of left ++ hits_of right
hits_of (negated operand) = hits_of operand
hits_of (through_filter operand filter) = hits_of operand
