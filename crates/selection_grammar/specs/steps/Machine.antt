-- A machine that goes over symbols once: what stands round the operand under way, and what may stand next.
use Rattle.std.specs.Prelude.{ℕ, suc, ◌+◌, Bool, true, false, ◌&&◌, nat_le, if◌then◌else◌, List, [], ◌∷◌, ◌++◌, Option, Some, None, codes}
use Rattle.ft_base.specs.declared.range.Range.{Range}
use Rattle.ft_base.specs.declared.words.Mode.{Mode}
use Rattle.ft_base.specs.declared.words.Mode.TheVariants as M
use Rattle.ft_base.specs.declared.options.StopChoice.TheVariants.{Sets}
use Rattle.ft_base.specs.declared.options.StopTerm.{StopTerm}
use Rattle.ft_base.specs.declared.options.StopSource.TheVariants.{At, Written}
use Rattle.ft_base.specs.declared.options.ThesaurusChoice.TheVariants.{Uses}
use Rattle.ft_base.specs.declared.options.ThesaurusUse.{ThesaurusUse}
use Rattle.ft_base.specs.declared.filter.Filter.{Filter}
use Rattle.selection_grammar.specs.declared.symbol.Placed.{Placed}
use Rattle.selection_grammar.specs.declared.parsed.MatchOption.TheVariants as O
use Rattle.selection_grammar.specs.declared.parsed.PlacedString.{PlacedString}
use Rattle.selection_grammar.specs.declared.parsed.PlacedOption.{PlacedOption}
use Rattle.selection_grammar.specs.Shapes as shapes
use Rattle.selection_grammar.specs.Shapes.{Shape, whole, nothing, word, text, mark, open_parenthesis, close_parenthesis}
use Rattle.selection_grammar.specs.Shapes.{open_brace, close_brace, comma, or_else, and_then, run}
use Rattle.selection_grammar.specs.Keywords.{key, range, range_without_at, bound, side, filters, filters_without_at, times, plain_option, given}
use Rattle.selection_grammar.specs.Grammar.{texts_of}
use Rattle.selection_grammar.specs.Tree.{Tree, or_of, and_of, mild_not, filtered, joined, Primary, phrases, inner, optioned, negated}

-- what stands to the left of an operand in the selection under way: before the last `ftor`, after it before the last `ftand`, and after that before `not in`
pub record Left : Type 0 where
  pub ors : List Tree
  pub ands : List Tree
  pub mild : Option Tree

abbrev pub nothing_left_of : Left
nothing_left_of = record { ors = []; ands = []; mild = None }

-- an open parenthesis: what stands to the left of it, and whether `ftnot` stands before it, at which place
pub record Frame : Type 0 where
  pub left : Left
  pub negation : Option ℕ

-- what the operand under way has got to
pub data Stage : Type 0 where
  -- it has not begun, but for `ftnot`
  wanted : Option ℕ → Stage
  -- strings in braces
  in_braces : Option ℕ → List PlacedString → Stage
  -- a value; and with `any` or `all` after it, and with its whole mode
  valued : Option ℕ → List PlacedString → Stage
  any_of : Option ℕ → List PlacedString → Stage
  all_of : Option ℕ → List PlacedString → Stage
  moded : Option ℕ → List PlacedString → Mode → Stage
  -- whole options
  given_options : Option ℕ → Primary → List PlacedOption → Stage
  -- a stop word option with these terms; and strings of its next term
  stop_terms : Option ℕ → Primary → List PlacedOption → ℕ → List StopTerm → Stage
  stop_strings : Option ℕ → Primary → List PlacedOption → ℕ → List StopTerm → Bool → List PlacedString → Stage
  -- a thesaurus option outside parentheses, with this name and relationship
  thesaurus : Option ℕ → Primary → List PlacedOption → ℕ → List ℕ → Option (List ℕ) → Stage
  -- one in parentheses, with whole uses and the next one's name and relationship; and with whole uses alone
  thesaurus_in : Option ℕ → Primary → List PlacedOption → ℕ → List ThesaurusUse → List ℕ → Option (List ℕ) → Stage
  thesauri_in : Option ℕ → Primary → List PlacedOption → ℕ → List ThesaurusUse → Stage
  -- a whole selection with a filter
  with_filter : Tree → Stage

pub record State : Type 0 where
  pub outer : List Frame
  pub left : Left
  pub stage : Stage

abbrev pub start : State
start = record { outer = []; left = nothing_left_of; stage = wanted None }

-- the operand put to the right of what stands to its left
abbrev pub mild_with : Option Tree → Tree → Tree
mild_with None x = x
mild_with (Some y) x = mild_not y x

abbrev pub ands_with : Left → Tree → List Tree
ands_with left x = left.ands ++ mild_with left.mild x ∷ []

abbrev pub ors_with : Left → Tree → List Tree
ors_with left x = left.ors ++ joined and_of (ands_with left x) ∷ []

abbrev pub selection_with : Left → Tree → Tree
selection_with left x = joined or_of (ors_with left x)

abbrev pub to : {A : Type 0} → A → ℕ → Shape A
to a at = whole a

abbrev pub operand_of : Option ℕ → Primary → List PlacedOption → Tree
operand_of n x options = negated n (optioned x options)

-- inside one more parenthesis
abbrev pub opened : List Frame → Left → Option ℕ → State
opened outer left n = record { outer = record { left = left; negation = n } ∷ outer; left = nothing_left_of; stage = wanted None }

abbrev pub first_in_braces : List Frame → Left → Option ℕ → Shape State
first_in_braces outer left n = text (λ at s. whole (record { outer = outer; left = left; stage = in_braces n (record { at = at; text = s } ∷ []) })) nothing

abbrev pub enclosed_next : List Frame → Left → Option ℕ → Shape State
enclosed_next outer left n = mark open_brace (first_in_braces outer left n) (mark open_parenthesis (whole (opened outer left n)) nothing)

-- what may stand where an operand is wanted
abbrev pub operand_next : List Frame → Left → Option ℕ → Shape State
operand_next outer left n =
    text (λ at s. whole (record { outer = outer; left = left; stage = valued n (record { at = at; text = s } ∷ []) })) (enclosed_next outer left n)

abbrev pub wanted_next : List Frame → Left → Option ℕ → Shape State
wanted_next outer left None =
    word (codes "ftnot") (λ at. whole (record { outer = outer; left = left; stage = wanted (Some at) })) (operand_next outer left None)
wanted_next outer left (Some at) = operand_next outer left (Some at)

-- a parenthesis that closes the selection
abbrev pub close_next : List Frame → Tree → Shape State
close_next [] x = nothing
close_next (frame ∷ outer) x =
    mark close_parenthesis (whole (record { outer = outer; left = frame.left; stage = given_options frame.negation (inner x) [] })) nothing

abbrev pub filtered_state : List Frame → Tree → Filter → State
filtered_state outer x f = record { outer = outer; left = nothing_left_of; stage = with_filter (filtered x f) }

abbrev pub filtered_next : List Frame → Tree → Shape State
filtered_next outer x = or_else (and_then filters (λ f. whole (filtered_state outer x f))) (close_next outer x)

-- what may stand after an operand that stands to the right of these
abbrev pub joint_words : List Frame → Left → Tree → Shape State
joint_words outer left x =
    word (codes "ftor") (λ at. whole (record { outer = outer; left = record { ors = ors_with left x; ands = []; mild = None }; stage = wanted None }))
    (word (codes "ftand") (λ at. whole (record { outer = outer; left = record { ors = left.ors; ands = ands_with left x; mild = None }; stage = wanted None }))
    (word (codes "not") (λ at. key (codes "in")
    (whole (record { outer = outer; left = record { ors = left.ors; ands = left.ands; mild = Some (mild_with left.mild x) }; stage = wanted None })))
    nothing))

abbrev pub joint_next : List Frame → Left → Tree → Shape State
joint_next outer left x = or_else (joint_words outer left x) (close_next outer (selection_with left x))

-- a term of a stop word option
abbrev pub listed_term : List Frame → Left → Option ℕ → Primary → List PlacedOption → ℕ → List StopTerm → Bool → Shape State
listed_term outer left n x options at terms except =
    text
    (λ q s. whole (record { outer = outer; left = left; stage = stop_terms n x options at (terms ++ record { except = except; source = At s } ∷ []) }))
    nothing

abbrev pub written_term : List Frame → Left → Option ℕ → Primary → List PlacedOption → ℕ → List StopTerm → Bool → Shape State
written_term outer left n x options at terms except =
    text (λ q s. whole (record { outer = outer; left = left; stage = stop_strings n x options at terms except (record { at = q; text = s } ∷ []) })) nothing

abbrev pub term_next : List Frame → Left → Option ℕ → Primary → List PlacedOption → ℕ → List StopTerm → Bool → Shape State
term_next outer left n x options at terms except =
    word (codes "at") (λ p. listed_term outer left n x options at terms except)
    (mark open_parenthesis (written_term outer left n x options at terms except)
    nothing)

-- a further term
abbrev pub term_words : List Frame → Left → Option ℕ → Primary → List PlacedOption → ℕ → List StopTerm → Shape State
term_words outer left n x options at terms =
    word (codes "union") (λ p. term_next outer left n x options at terms false)
    (word (codes "except") (λ p. term_next outer left n x options at terms true)
    nothing)

-- the name of a thesaurus, outside parentheses and inside
abbrev pub thesaurus_name : List Frame → Left → Option ℕ → Primary → List PlacedOption → ℕ → Shape State
thesaurus_name outer left n x options at = text (λ q s. whole (record { outer = outer; left = left; stage = thesaurus n x options at s None })) nothing

abbrev pub thesaurus_name_in : List Frame → Left → Option ℕ → Primary → List PlacedOption → ℕ → List ThesaurusUse → Shape State
thesaurus_name_in outer left n x options at uses =
    text (λ q s. whole (record { outer = outer; left = left; stage = thesaurus_in n x options at uses s None })) nothing

abbrev pub thesaurus_first : List Frame → Left → Option ℕ → Primary → List PlacedOption → ℕ → Shape State
thesaurus_first outer left n x options at =
    word (codes "at") (λ p. thesaurus_name outer left n x options at)
    (mark open_parenthesis (key (codes "at") (thesaurus_name_in outer left n x options at []))
    nothing)

-- an option with a list
abbrev pub listed_next : List Frame → Left → Option ℕ → Primary → List PlacedOption → ℕ → Shape State
listed_next outer left n x options at =
    word (codes "thesaurus") (λ p. thesaurus_first outer left n x options at)
    (word (codes "stop") (λ p. key (codes "words") (term_next outer left n x options at [] false))
    nothing)

-- an option
abbrev pub using_next : List Frame → Left → Option ℕ → Primary → List PlacedOption → ℕ → Shape State
using_next outer left n x options at =
    or_else (listed_next outer left n x options at)
    (and_then (plain_option at) (λ o. whole (record { outer = outer; left = left; stage = given_options n x (options ++ o ∷ []) })))

-- what may stand after whole options, but for filters
abbrev pub using_word : List Frame → Left → Option ℕ → Primary → List PlacedOption → Shape State
using_word outer left n x options = word (codes "using") (λ at. using_next outer left n x options at) nothing

abbrev pub unfiltered_next : List Frame → Left → Option ℕ → Primary → List PlacedOption → Shape State
unfiltered_next outer left n x options = or_else (using_word outer left n x options) (joint_next outer left (operand_of n x options))

abbrev pub options_next : List Frame → Left → Option ℕ → Primary → List PlacedOption → Shape State
options_next outer left n x options =
    or_else (and_then filters (λ f. whole (filtered_state outer (selection_with left (operand_of n x options)) f))) (unfiltered_next outer left n x options)

abbrev pub moded_next : List Frame → Left → Option ℕ → List PlacedString → Mode → Shape State
moded_next outer left n strings mode =
    or_else (and_then times (λ t. whole (record { outer = outer; left = left; stage = given_options n (phrases strings mode (Some t)) [] })))
    (options_next outer left n (phrases strings mode None) [])

abbrev pub mode_words : List Frame → Left → Option ℕ → List PlacedString → Shape State
mode_words outer left n strings =
    word (codes "any") (λ at. whole (record { outer = outer; left = left; stage = any_of n strings }))
    (word (codes "all") (λ at. whole (record { outer = outer; left = left; stage = all_of n strings }))
    (word (codes "phrase") (λ at. whole (record { outer = outer; left = left; stage = moded n strings M.Phrase }))
    nothing))

-- the second word of a mode
abbrev pub mode_word : List ℕ → Mode → List Frame → Left → Option ℕ → List PlacedString → Shape State
mode_word second mode outer left n strings = word second (λ at. whole (record { outer = outer; left = left; stage = moded n strings mode })) nothing

-- a further string
abbrev pub further_string : (List PlacedString → State) → List PlacedString → Shape State
further_string stands strings = text (λ at s. whole (stands (strings ++ record { at = at; text = s } ∷ []))) nothing

abbrev pub string_next : (List PlacedString → State) → List PlacedString → Shape State → Shape State
string_next stands strings end = mark comma (further_string stands strings) end

abbrev pub stop_option : ℕ → List StopTerm → PlacedOption
stop_option at terms = given at (O.StopWords (Sets terms))

abbrev pub thesaurus_option : ℕ → List ThesaurusUse → PlacedOption
thesaurus_option at uses = given at (O.Thesaurus (Uses uses))

abbrev pub thesaurus_use : List ℕ → Option (List ℕ) → Option Range → ThesaurusUse
thesaurus_use name relationship levels = record { name = name; relationship = relationship; levels = levels }

-- levels after a thesaurus, from its range on
abbrev pub levels_end : (Option Range → State) → Range → Shape State
levels_end stands r = key (codes "levels") (whole (stands (Some r)))

abbrev pub relationship_name : (List ℕ → State) → Shape State
relationship_name stands = text (λ q s. whole (stands s)) nothing

abbrev pub relationship_word : (List ℕ → State) → Option (List ℕ) → Shape State
relationship_word stands None = word (codes "relationship") (λ p. relationship_name stands) nothing
relationship_word stands (Some relationship) = nothing

abbrev pub relationship_next : (List ℕ → State) → Option (List ℕ) → Shape State → Shape State
relationship_next stands r rest = or_else (relationship_word stands r) rest

-- After a thesaurus and its relationship `at` begins levels or a filter.
abbrev pub thesaurus_ended : List PlacedOption → ℕ → List ℕ → Option (List ℕ) → Option Range → List PlacedOption
thesaurus_ended options at s r l = options ++ thesaurus_option at (thesaurus_use s r l ∷ []) ∷ []

abbrev pub thesaurus_selection : Left → Option ℕ → Primary → List PlacedOption → ℕ → List ℕ → Option (List ℕ) → Tree
thesaurus_selection left n x options at s r = selection_with left (operand_of n x (thesaurus_ended options at s r None))

abbrev pub levels_words : List Frame → Left → Option ℕ → Primary → List PlacedOption → ℕ → List ℕ → Option (List ℕ) → Shape State
levels_words outer left n x options at s r =
    word (codes "at") (λ p.
    or_else (and_then bound (levels_end with_levels)) (and_then side (λ f. whole (filtered_state outer (thesaurus_selection left n x options at s r) f))))
    (and_then range_without_at (levels_end with_levels))
  where
    with_levels : Option Range → State
    with_levels l = record { outer = outer; left = left; stage = given_options n x (thesaurus_ended options at s r l) }

abbrev pub thesaurus_rest : List Frame → Left → Option ℕ → Primary → List PlacedOption → ℕ → List ℕ → Option (List ℕ) → Shape State
thesaurus_rest outer left n x options at s r =
    or_else (levels_words outer left n x options at s r)
    (or_else (and_then filters_without_at (λ f. whole (filtered_state outer (thesaurus_selection left n x options at s r) f)))
    (unfiltered_next outer left n x (thesaurus_ended options at s r None)))

abbrev pub thesaurus_next : List Frame → Left → Option ℕ → Primary → List PlacedOption → ℕ → List ℕ → Option (List ℕ) → Shape State
thesaurus_next outer left n x options at s r =
    relationship_next (λ t. record { outer = outer; left = left; stage = thesaurus n x options at s (Some t) }) r (thesaurus_rest outer left n x options at s r)

-- in the parentheses of a thesaurus option
abbrev pub thesauri_next : List Frame → Left → Option ℕ → Primary → List PlacedOption → ℕ → List ThesaurusUse → Shape State
thesauri_next outer left n x options at uses =
    mark comma (key (codes "at") (thesaurus_name_in outer left n x options at uses))
    (mark close_parenthesis (whole (record { outer = outer; left = left; stage = given_options n x (options ++ thesaurus_option at uses ∷ []) }))
    nothing)

abbrev pub thesaurus_in_rest : List Frame → Left → Option ℕ → Primary → List PlacedOption → ℕ → List ThesaurusUse → List ℕ → Option (List ℕ) → Shape State
thesaurus_in_rest outer left n x options at uses s r =
    or_else (and_then range (levels_end (λ l. record { outer = outer; left = left; stage = thesauri_in n x options at (uses ++ thesaurus_use s r l ∷ []) })))
    (thesauri_next outer left n x options at (uses ++ thesaurus_use s r None ∷ []))

abbrev pub thesaurus_in_next : List Frame → Left → Option ℕ → Primary → List PlacedOption → ℕ → List ThesaurusUse → List ℕ → Option (List ℕ) → Shape State
thesaurus_in_next outer left n x options at uses s r =
    relationship_next (λ t. record { outer = outer; left = left; stage = thesaurus_in n x options at uses s (Some t) }) r
    (thesaurus_in_rest outer left n x options at uses s r)

abbrev pub next_at : List Frame → Left → Stage → Shape State
next_at outer left (wanted n) = wanted_next outer left n
next_at outer left (in_braces n strings) =
    string_next (λ xs. record { outer = outer; left = left; stage = in_braces n xs }) strings
    (mark close_brace (whole (record { outer = outer; left = left; stage = valued n strings })) nothing)
next_at outer left (valued n strings) = or_else (mode_words outer left n strings) (moded_next outer left n strings M.Any)
next_at outer left (any_of n strings) = or_else (mode_word (codes "word") M.AnyWord outer left n strings) (moded_next outer left n strings M.Any)
next_at outer left (all_of n strings) = or_else (mode_word (codes "words") M.AllWords outer left n strings) (moded_next outer left n strings M.All)
next_at outer left (moded n strings mode) = moded_next outer left n strings mode
next_at outer left (given_options n x options) = options_next outer left n x options
next_at outer left (stop_terms n x options at terms) =
    or_else (term_words outer left n x options at terms) (options_next outer left n x (options ++ stop_option at terms ∷ []))
next_at outer left (stop_strings n x options at terms except strings) =
    string_next (λ xs. record { outer = outer; left = left; stage = stop_strings n x options at terms except xs }) strings
    (mark close_parenthesis
    (whole (record {
      outer = outer;
      left = left;
      stage = stop_terms n x options at (terms ++ record { except = except; source = Written (texts_of strings) } ∷ []);
    })) nothing)
next_at outer left (thesaurus n x options at s r) = thesaurus_next outer left n x options at s r
next_at outer left (thesaurus_in n x options at uses s r) = thesaurus_in_next outer left n x options at uses s r
next_at outer left (thesauri_in n x options at uses) = thesauri_next outer left n x options at uses
next_at outer left (with_filter x) = filtered_next outer x

-- what may stand next
unfoldable pub next : State → Shape State
next s = next_at s.outer s.left s.stage

-- where a symbol leads from within a construct, or from between two
abbrev pub advance : Shape State → Placed → Option (Shape State)
advance (whole s) p = shapes.step (next s) p
advance nothing p = None
advance (word name leads rest) p = shapes.step (word name leads rest) p
advance (shapes.number leads rest) p = shapes.step (shapes.number leads rest) p
advance (text leads rest) p = shapes.step (text leads rest) p
advance (mark m leads rest) p = shapes.step (mark m leads rest) p

-- symbols, from where the machine stands
abbrev pub run_on : Option (Shape State) → List Placed → Option (Shape State)
run_on None u = None
run_on (Some shape) [] = Some shape
run_on (Some shape) (p ∷ u) = run_on (advance shape p) u

abbrev pub read : List Placed → Option (Shape State)
read u = run_on (Some (whole start)) u

-- the whole selection under way, if symbols may end here
abbrev pub selection_at : Left → Stage → Option Tree
selection_at left (wanted n) = None
selection_at left (in_braces n strings) = None
selection_at left (valued n strings) = Some (selection_with left (operand_of n (phrases strings M.Any None) []))
selection_at left (any_of n strings) = Some (selection_with left (operand_of n (phrases strings M.Any None) []))
selection_at left (all_of n strings) = Some (selection_with left (operand_of n (phrases strings M.All None) []))
selection_at left (moded n strings mode) = Some (selection_with left (operand_of n (phrases strings mode None) []))
selection_at left (given_options n x options) = Some (selection_with left (operand_of n x options))
selection_at left (stop_terms n x options at terms) = Some (selection_with left (operand_of n x (options ++ stop_option at terms ∷ [])))
selection_at left (stop_strings n x options at terms except strings) = None
selection_at left (thesaurus n x options at s r) =
    Some (selection_with left (operand_of n x (options ++ thesaurus_option at (thesaurus_use s r None ∷ []) ∷ [])))
selection_at left (thesaurus_in n x options at uses s r) = None
selection_at left (thesauri_in n x options at uses) = None
selection_at left (with_filter x) = Some x

abbrev pub finished_in : List Frame → Option Tree → Option Tree
finished_in [] x = x
finished_in (frame ∷ outer) x = None

abbrev pub finished_at : Shape State → Option Tree
finished_at (whole s) = finished_in s.outer (selection_at s.left s.stage)
finished_at nothing = None
finished_at (word name leads rest) = None
finished_at (shapes.number leads rest) = None
finished_at (text leads rest) = None
finished_at (mark m leads rest) = None

-- the selection that symbols spell, if they are a whole one
abbrev pub finished : Option (Shape State) → Option Tree
finished None = None
finished (Some shape) = finished_at shape
