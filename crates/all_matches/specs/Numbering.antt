-- Hits, Matches and AllMatches whose phrases have other numbers.
use Rattle.std.specs.Prelude.{ℕ, ◌+◌, List, map}
use Rattle.ft_base.specs.declared.hit.Hit.{Hit}
use Rattle.ft_base.specs.declared.hit.Match.{Match}

-- a hit of a phrase with a number that is greater by this
abbrev pub shifted_hit : ℕ → Hit → Hit
shifted_hit by hit = record hit { query = by + hit.query }

abbrev pub shifted_match : ℕ → Match → Match
shifted_match by m = record { includes = map (shifted_hit by) m.includes; excludes = map (shifted_hit by) m.excludes }

abbrev pub shifted : ℕ → List Match → List Match
shifted by matches = map (shifted_match by) matches
