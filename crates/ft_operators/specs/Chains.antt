-- The chain of filters that a value of `Chain` is, the room that it has for more, and what is asked under a chain.
use Rattle.std.specs.Prelude.{◌≡◌, ◌≤◌, ℕ, ◌-◌, Bool, true, List, [], ◌∷◌, length, take, drop, reverse, Option, None, vec_capacity}
use Rattle.std.specs.List.{list_all}
use Rattle.ft_base.specs.declared.hit.Hit.{Hit}
use Rattle.all_matches.specs.declared.window.Window.{Window}
use Rattle.all_matches.specs.Chain.{Link}
use Rattle.all_matches.specs.Ways.{Operator, phrase, either, together, apart, negated, through_filter}
use Rattle.all_matches.specs.Ways.{Way, one_hit, two_ways, turned_about, by_filter, way_includes, clean_under}
use Rattle.ft_operators.specs.declared.chain.Chain.{Chain}
use Rattle.ft_operators.specs.declared.chain.ChainLink.{ChainLink}

-- the filters with their includes, of which those of the innermost filter stand last
unfoldable pub links_from : List Hit → List ChainLink → List Link
links_from hits [] = []
links_from hits (link ∷ outer) = record { kind = link.kind; includes = drop link.start hits; choice = link.window } ∷ links_from (take link.start hits) outer

-- the filters, from the inside to the outside
abbrev pub links_of : Chain → List Link
links_of chain = links_from chain.hits.items (reverse chain.links.items)

-- for how many more filters, and how many more includes, there is room
abbrev pub spare_filters : Chain → ℕ
spare_filters chain = vec_capacity chain.links - length chain.links.items

abbrev pub spare_hits : Chain → ℕ
spare_hits chain = vec_capacity chain.hits - length chain.hits.items

-- the includes of the innermost filter
abbrev pub first_includes : List Link → List Hit
first_includes [] = []
first_includes (link ∷ outer) = link.includes

-- a chain without filters, with that room
pub record IsOpen (more_filters more_hits : ℕ) (chain : Chain) : Type 0 where
  pub none : links_of chain ≡ []
  pub filters : more_filters ≤ spare_filters chain
  pub hits : more_hits ≤ spare_hits chain

-- a chain with the same filters, and no less room
pub record IsKept (old new : Chain) : Type 0 where
  pub links : links_of new ≡ links_of old
  pub filters : spare_filters old ≤ spare_filters new
  pub hits : spare_hits old ≤ spare_hits new

-- whether the first of some ways passes a test
abbrev pub passes_now : (Way → Bool) → List Way → Bool
passes_now test [] = true
passes_now test (way ∷ rest) = test way

-- whether the first of some ways is clean under a test
abbrev pub clean_now : (Hit → Bool) → List Way → Bool
clean_now kept ways = passes_now (clean_under kept) ways

-- whether a test keeps each include of a way
abbrev pub all_kept : (Hit → Bool) → Way → Bool
all_kept kept way = list_all kept (way_includes way)

-- the window that was chosen last in a way
abbrev pub way_window : Way → Option Window
way_window (one_hit hit) = None
way_window (two_ways left right) = None
way_window (turned_about matches) = None
way_window (by_filter way kind choice) = choice

-- the window of the first of some ways
abbrev pub window_now : List Way → Option Window
window_now [] = None
window_now (way ∷ rest) = way_window way

-- the same, where a filter stands outermost in the operator
abbrev pub outer_window : Operator → List Way → Option Window
outer_window (phrase found) ways = None
outer_window (either left right) ways = None
outer_window (together left right) ways = None
outer_window (apart left right) ways = None
outer_window (negated operand) ways = None
outer_window (through_filter operand kind) ways = window_now ways
