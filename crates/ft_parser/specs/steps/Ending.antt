-- Where a selection ends that stands in no parentheses.
use Rattle.std.specs.Prelude.{Bool, true, false, ◌&&◌, ◌||◌, not, List, [], ◌∷◌, codes}
use Rattle.std.specs.Option.{is_none}
use Rattle.selection_grammar.specs.declared.symbol.Placed.{Placed}
use Rattle.selection_grammar.specs.steps.Machine as m
use Rattle.selection_grammar.specs.steps.Machine.{Frame, Stage, State}
use Rattle.selection_grammar.specs.steps.Reading.{first_is}
use Rattle.ft_parser.specs.steps.Parts.{begins_filter}
use Rattle.ft_parser.specs.steps.Turns.{begins_range_without_at}

-- whether the first of symbols joins a whole operand with another
abbrev pub joins : List Placed → Bool
joins w = first_is (codes "ftor") w || first_is (codes "ftand") w || first_is (codes "not") w

-- whether it goes on after whole options, and after a value with its mode
abbrev pub follows_options : List Placed → Bool
follows_options w = begins_filter w || first_is (codes "using") w || joins w

abbrev pub follows_mode : List Placed → Bool
follows_mode w = first_is (codes "occurs") w || follows_options w

-- whether it may stand after a thesaurus that still may have a relationship, or not
abbrev pub follows_name : Bool → List Placed → Bool
follows_name may_relate w = may_relate && first_is (codes "relationship") w || (begins_range_without_at w || follows_options w)

-- whether it begins a mode, and a further term of stop words
abbrev pub begins_mode : List Placed → Bool
begins_mode w = first_is (codes "any") w || first_is (codes "all") w || first_is (codes "phrase") w

abbrev pub begins_term : List Placed → Bool
begins_term w = first_is (codes "union") w || first_is (codes "except") w

-- whether it goes on with the selection, where that may end; elsewhere something has to come
abbrev pub goes_on : Stage → List Placed → Bool
goes_on (m.wanted n) w = true
goes_on (m.in_braces n strings) w = true
goes_on (m.valued n strings) w = begins_mode w || follows_mode w
goes_on (m.any_of n strings) w = first_is (codes "word") w || follows_mode w
goes_on (m.all_of n strings) w = first_is (codes "words") w || follows_mode w
goes_on (m.moded n strings mode) w = follows_mode w
goes_on (m.given_options n x os) w = follows_options w
goes_on (m.stop_terms n x os at ts) w = begins_term w || follows_options w
goes_on (m.stop_strings n x os at ts except strings) w = true
goes_on (m.thesaurus n x os at s r) w = follows_name (is_none r) w
goes_on (m.thesaurus_in n x os at us s r) w = true
goes_on (m.thesauri_in n x os at us) w = true
goes_on (m.with_filter x) w = begins_filter w

abbrev pub ends_in : List Frame → Stage → List Placed → Bool
ends_in [] stage w = not (goes_on stage w)
ends_in (frame ∷ outer) stage w = false

-- whether a selection is whole where the machine stands, and the first of symbols doesn't go on with it
unfoldable pub ends_before : State → List Placed → Bool
ends_before s w = ends_in s.outer s.stage w
