-- Where one construct leads the machine, each step by itself.
use Rattle.std.specs.Prelude.{ℕ, ◌+◌, Bool, false, true, ◌&&◌, ◌||◌, if◌then◌else◌, List, [], ◌∷◌, ◌++◌, drop, codes, Option, Some, None, Result, Ok, Err}
use Rattle.std.specs.Option.{is_none}
use Rattle.ft_base.specs.declared.filter.Filter.{Filter}
use Rattle.ft_base.specs.declared.range.Range.{Range}
use Rattle.ft_base.specs.declared.words.Mode.{Mode}
use Rattle.ft_base.specs.declared.words.Mode.TheVariants as M
use Rattle.ft_base.specs.declared.options.StopTerm.{StopTerm}
use Rattle.ft_base.specs.declared.options.ThesaurusUse.{ThesaurusUse}
use Rattle.selection_grammar.specs.declared.symbol.Placed.{Placed}
use Rattle.selection_grammar.specs.declared.parsed.PlacedString.{PlacedString}
use Rattle.selection_grammar.specs.declared.parsed.PlacedOption.{PlacedOption}
use Rattle.selection_grammar.specs.Keywords.{plain_option, range, range_without_at, bound, side}
use Rattle.selection_grammar.specs.Tree.{Tree, Primary, phrases}
use Rattle.selection_grammar.specs.steps.Machine as m
use Rattle.selection_grammar.specs.steps.Machine.{Left, Frame, Stage, State, selection_with, operand_of, filtered_state, thesaurus_ended, thesaurus_selection}
use Rattle.selection_grammar.specs.steps.Reading.{reading, further, first_is, first_place}
use Rattle.ft_parser.specs.steps.Parts.{before_word, times_reading, filter_reading, other_filter_reading, begins_filter, begins_other_filter}

abbrev pub Turn : Type 0
Turn = Result (State × ℕ) ℕ

abbrev pub stands : List Frame → Left → Stage → State
stands outer left stage = record { outer = outer; left = left; stage = stage }

unfoldable pub using_turn : List Frame → Left → Option ℕ → Primary → List PlacedOption → ℕ → List Placed → ℕ → Turn
using_turn outer left n x os at w i =
    if first_is (codes "thesaurus") (drop i w) then reading (m.thesaurus_first outer left n x os at) w (i + 1)
    else if first_is (codes "stop") (drop i w)
    then (if first_is (codes "words") (drop (i + 1) w) then reading (m.term_next outer left n x os at [] false) w (i + 1 + 1) else Err (i + 1))
    else further (reading (plain_option at) w i) (λ o k. Ok (stands outer left (m.given_options n x (os ++ o ∷ [])), k))

unfoldable pub unfiltered_turn : List Frame → Left → Option ℕ → Primary → List PlacedOption → List Placed → ℕ → Turn
unfiltered_turn outer left n x os w i =
    if first_is (codes "using") (drop i w) then using_turn outer left n x os (first_place (drop i w)) w (i + 1)
    else reading (m.joint_next outer left (operand_of n x os)) w i

abbrev pub filtered_turn : List Frame → Tree → Result (Filter × ℕ) ℕ → Turn
filtered_turn outer x r = further r (λ f k. Ok (filtered_state outer x f, k))

unfoldable pub options_turn : List Frame → Left → Option ℕ → Primary → List PlacedOption → List Placed → ℕ → Turn
options_turn outer left n x os w i =
    if begins_filter (drop i w) then filtered_turn outer (selection_with left (operand_of n x os)) (filter_reading w i)
    else unfiltered_turn outer left n x os w i

unfoldable pub moded_turn : List Frame → Left → Option ℕ → List PlacedString → Mode → List Placed → ℕ → Turn
moded_turn outer left n strings mode w i =
    if first_is (codes "occurs") (drop i w)
    then further (times_reading (first_place (drop i w)) w (i + 1))
    (λ t k. Ok (stands outer left (m.given_options n (phrases strings mode (Some t)) []), k))
    else options_turn outer left n (phrases strings mode None) [] w i

-- the rest of levels
abbrev pub levels_turn : (Option Range → State) → List Placed → Result (Range × ℕ) ℕ → Turn
levels_turn made w r = further r (λ l k. before_word (codes "levels") (made (Some l)) w k)

abbrev pub with_levels : List Frame → Left → Option ℕ → Primary → List PlacedOption → ℕ → List ℕ → Option (List ℕ) → Option Range → State
with_levels outer left n x os at s r l = stands outer left (m.given_options n x (thesaurus_ended os at s r l))

abbrev pub begins_bound : List Placed → Bool
begins_bound w = first_is (codes "least") w || first_is (codes "most") w

abbrev pub begins_range_without_at : List Placed → Bool
begins_range_without_at w = first_is (codes "exactly") w || first_is (codes "from") w

unfoldable pub after_at_turn : List Frame → Left → Option ℕ → Primary → List PlacedOption → ℕ → List ℕ → Option (List ℕ) → List Placed → ℕ → Turn
after_at_turn outer left n x os at s r w i =
    if begins_bound (drop i w) then levels_turn (with_levels outer left n x os at s r) w (reading bound w i)
    else filtered_turn outer (thesaurus_selection left n x os at s r) (reading side w i)

unfoldable pub after_thesaurus_turn : List Frame → Left → Option ℕ → Primary → List PlacedOption → ℕ → List ℕ → Option (List ℕ) → List Placed → ℕ → Turn
after_thesaurus_turn outer left n x os at s r w i =
    if begins_other_filter (drop i w) then filtered_turn outer (thesaurus_selection left n x os at s r) (other_filter_reading w i)
    else unfiltered_turn outer left n x (thesaurus_ended os at s r None) w i

unfoldable pub thesaurus_rest_turn : List Frame → Left → Option ℕ → Primary → List PlacedOption → ℕ → List ℕ → Option (List ℕ) → List Placed → ℕ → Turn
thesaurus_rest_turn outer left n x os at s r w i =
    if first_is (codes "at") (drop i w) then after_at_turn outer left n x os at s r w (i + 1)
    else if begins_range_without_at (drop i w) then levels_turn (with_levels outer left n x os at s r) w (reading range_without_at w i)
    else after_thesaurus_turn outer left n x os at s r w i

abbrev pub begins_range : List Placed → Bool
begins_range w = begins_range_without_at w || first_is (codes "at") w

abbrev pub in_levels : List Frame → Left → Option ℕ → Primary → List PlacedOption → ℕ → List ThesaurusUse → List ℕ → Option (List ℕ) → Option Range → State
in_levels outer left n x os at us s r l = stands outer left (m.thesauri_in n x os at (us ++ m.thesaurus_use s r l ∷ []))

unfoldable pub thesaurus_in_rest_turn : List Frame → Left → Option ℕ → Primary → List PlacedOption → ℕ → List ThesaurusUse → List ℕ
    → Option (List ℕ) → List Placed → ℕ → Turn
thesaurus_in_rest_turn outer left n x os at us s r w i =
    if begins_range (drop i w) then levels_turn (in_levels outer left n x os at us s r) w (reading range w i)
    else reading (m.thesauri_next outer left n x os at (us ++ m.thesaurus_use s r None ∷ [])) w i

unfoldable pub thesaurus_in_turn : List Frame → Left → Option ℕ → Primary → List PlacedOption → ℕ → List ThesaurusUse → List ℕ
    → Option (List ℕ) → List Placed → ℕ → Turn
thesaurus_in_turn outer left n x os at us s r w i =
    if is_none r && first_is (codes "relationship") (drop i w)
    then reading (m.relationship_name (λ t. stands outer left (m.thesaurus_in n x os at us s (Some t)))) w (i + 1)
    else thesaurus_in_rest_turn outer left n x os at us s r w i

unfoldable pub thesaurus_turn : List Frame → Left → Option ℕ → Primary → List PlacedOption → ℕ → List ℕ → Option (List ℕ) → List Placed → ℕ → Turn
thesaurus_turn outer left n x os at s r w i =
    if is_none r && first_is (codes "relationship") (drop i w)
    then reading (m.relationship_name (λ t. stands outer left (m.thesaurus n x os at s (Some t)))) w (i + 1)
    else thesaurus_rest_turn outer left n x os at s r w i

unfoldable pub valued_turn : List Frame → Left → Option ℕ → List PlacedString → List Placed → ℕ → Turn
valued_turn outer left n strings w i =
    if first_is (codes "any") (drop i w) then Ok (stands outer left (m.any_of n strings), i + 1)
    else if first_is (codes "all") (drop i w) then Ok (stands outer left (m.all_of n strings), i + 1)
    else if first_is (codes "phrase") (drop i w) then Ok (stands outer left (m.moded n strings M.Phrase), i + 1)
    else moded_turn outer left n strings M.Any w i

unfoldable pub any_of_turn : List Frame → Left → Option ℕ → List PlacedString → List Placed → ℕ → Turn
any_of_turn outer left n strings w i =
    if first_is (codes "word") (drop i w) then Ok (stands outer left (m.moded n strings M.AnyWord), i + 1) else moded_turn outer left n strings M.Any w i

unfoldable pub all_of_turn : List Frame → Left → Option ℕ → List PlacedString → List Placed → ℕ → Turn
all_of_turn outer left n strings w i =
    if first_is (codes "words") (drop i w) then Ok (stands outer left (m.moded n strings M.AllWords), i + 1) else moded_turn outer left n strings M.All w i

unfoldable pub stop_terms_turn : List Frame → Left → Option ℕ → Primary → List PlacedOption → ℕ → List StopTerm → List Placed → ℕ → Turn
stop_terms_turn outer left n x os at ts w i =
    if first_is (codes "union") (drop i w) then reading (m.term_next outer left n x os at ts false) w (i + 1)
    else if first_is (codes "except") (drop i w) then reading (m.term_next outer left n x os at ts true) w (i + 1)
    else options_turn outer left n x (os ++ m.stop_option at ts ∷ []) w i

unfoldable pub with_filter_turn : List Frame → Tree → List Placed → ℕ → Turn
with_filter_turn outer x w i = if begins_filter (drop i w) then filtered_turn outer x (filter_reading w i) else reading (m.close_next outer x) w i

abbrev pub stage_turn : List Frame → Left → Stage → List Placed → ℕ → Turn
stage_turn outer left (m.wanted n) w i = reading (m.wanted_next outer left n) w i
stage_turn outer left (m.in_braces n strings) w i = reading (m.next_at outer left (m.in_braces n strings)) w i
stage_turn outer left (m.valued n strings) w i = valued_turn outer left n strings w i
stage_turn outer left (m.any_of n strings) w i = any_of_turn outer left n strings w i
stage_turn outer left (m.all_of n strings) w i = all_of_turn outer left n strings w i
stage_turn outer left (m.moded n strings mode) w i = moded_turn outer left n strings mode w i
stage_turn outer left (m.given_options n x os) w i = options_turn outer left n x os w i
stage_turn outer left (m.stop_terms n x os at ts) w i = stop_terms_turn outer left n x os at ts w i
stage_turn outer left (m.stop_strings n x os at ts except strings) w i = reading (m.next_at outer left (m.stop_strings n x os at ts except strings)) w i
stage_turn outer left (m.thesaurus n x os at s r) w i = thesaurus_turn outer left n x os at s r w i
stage_turn outer left (m.thesaurus_in n x os at us s r) w i = thesaurus_in_turn outer left n x os at us s r w i
stage_turn outer left (m.thesauri_in n x os at us) w i = reading (m.thesauri_next outer left n x os at us) w i
stage_turn outer left (m.with_filter x) w i = with_filter_turn outer x w i

-- wherever the machine stands
unfoldable pub state_turn : State → List Placed → ℕ → Turn
state_turn s w i = stage_turn s.outer s.left s.stage w i
