-- Hits, Matches and AllMatches whose phrases have other numbers. Only `ordered` looks at numbers: at those of two includes, and of an
-- exclude and an include.
use Rattle.std.specs.Prelude.{ℕ, Bool, ◌&&◌, ◌||◌, nat_lt, nat_le, List, map}
use Rattle.std.specs.List.{list_all}
use Rattle.ft_base.specs.Hits.{every_two}
use Rattle.ft_base.specs.declared.hit.Hit.{Hit}
use Rattle.ft_base.specs.declared.hit.Match.{Match}

-- a hit of the phrase that has another number
abbrev pub renumbered_hit : (ℕ → ℕ) → Hit → Hit
renumbered_hit number hit = record hit { query = number hit.query }

abbrev pub renumbered_match : (ℕ → ℕ) → Match → Match
renumbered_match number m = record { includes = map (renumbered_hit number) m.includes; excludes = map (renumbered_hit number) m.excludes }

abbrev pub renumbered : (ℕ → ℕ) → List Match → List Match
renumbered number matches = map (renumbered_match number) matches

-- whether two hits are of phrases with different numbers, and the one with the lesser number has the lesser new one
abbrev pub are_in_turn : (ℕ → ℕ) → Hit → Hit → Bool
are_in_turn number a b =
    (nat_lt a.query b.query && nat_lt (number a.query) (number b.query)) || (nat_lt b.query a.query && nat_lt (number b.query) (number a.query))

-- whether every two includes of a Match are, and each exclude and each include
abbrev pub keeps_turns : (ℕ → ℕ) → Match → Bool
keeps_turns number m = every_two (are_in_turn number) m.includes && list_all (λ hit. list_all (are_in_turn number hit) m.includes) m.excludes

-- whether the numbers of all hits of a Match pass a test
abbrev pub has_numbers : (ℕ → Bool) → Match → Bool
has_numbers test m = list_all (λ hit. test hit.query) m.includes && list_all (λ hit. test hit.query) m.excludes

-- whether a number is one of those from the first on, before the next
abbrev pub is_between : ℕ → ℕ → ℕ → Bool
is_between first next n = nat_le first n && nat_lt n next
