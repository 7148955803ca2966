-- AllMatches that nothing which stands round them tells apart. What stands round AllMatches looks at the includes of a Match, and by
-- them keeps or drops its excludes. So neither how often a Match is among them nor in which order they stand makes a difference.
use Rattle.std.specs.Prelude.{◌≡◌, Bool, List}
use Rattle.std.specs.List.{list_any}
use Rattle.ft_base.specs.declared.hit.Hit.{Hit}
use Rattle.ft_base.specs.declared.hit.Match.{Match}
use Rattle.all_matches.specs.Boolean.{survives}

-- whether a Match has no exclude under one of the tests that belong to its includes: a window filter has a test for each window
abbrev pub is_left : (List Hit → List (Hit → Bool)) → Match → Bool
is_left tests m = list_any (λ kept. survives kept m) (tests m.includes)

-- whether of both some Match is left, by whichever tests
abbrev pub Alike : List Match → List Match → Type 0
Alike a b = (tests : List Hit → List (Hit → Bool)) → list_any (is_left tests) a ≡ list_any (is_left tests) b
