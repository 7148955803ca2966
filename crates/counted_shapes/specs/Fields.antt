-- Fields: what a window or a scope takes of a text (XQuery and XPath Full Text 3.0, section 4.2.7), and the Matches that are made in one.
use Rattle.std.specs.Prelude.{ℕ, ◌+◌, Bool, ◌&&◌, ◌==◌, nat_le, nat_lt}
use Rattle.std.specs.List.{list_all}
use Rattle.ft_base.specs.declared.hit.Hit.{Hit}
use Rattle.ft_base.specs.declared.hit.Match.{Match}
use Rattle.ft_base.specs.declared.unit.TextUnit.{TextUnit}
use Rattle.all_matches.specs.Boolean.{survives}
use Rattle.all_matches.specs.Positions.{start_in, end_in}

-- whether a Match is made in a field: each of its includes lies there, and no exclude does
abbrev pub made_in : (Hit → Bool) → Match → Bool
made_in field m = list_all field m.includes && survives field m

-- whether a number is one of so many that end at the last one. The first of them may be below 1
abbrev pub is_in_window : ℕ → ℕ → ℕ → Bool
is_in_window size last number = nat_le number last && nat_lt last (number + size)

-- whether a hit lies in the window of a size that ends at a number. The window may begin below number 1, and end after the text
abbrev pub in_window : ℕ → TextUnit → ℕ → Hit → Bool
in_window size kind last hit = nat_le (end_in kind hit) last && nat_lt last (start_in kind hit + size)

-- whether a hit lies in the sentence or the paragraph of a number
abbrev pub in_unit : TextUnit → ℕ → Hit → Bool
in_unit kind number hit = (start_in kind hit == number) && (end_in kind hit == number)
