-- The answers to a query, document by document: the lines of each, under the stamp that its document had.
use Rattle.std.specs.Prelude.{ℕ, List, [], Option, flat_map, map, nat_eq, unwrap_or}
use Rattle.std.specs.Map.{lookup}
use Rattle.standing_queries.specs.declared.turn.Turn.{Turn}

-- each a stamp and its lines
abbrev pub Answers : Type 0
Answers = List (ℕ × List (List ℕ))

abbrev pub kept_under : ℕ → Answers → Option (List (List ℕ))
kept_under stamp answers = lookup (nat_eq stamp) answers

-- the lines of all answers, in their order
abbrev pub all_lines : Answers → List (List ℕ)
all_lines answers = flat_map (λ a. a.1) answers

-- the lines for which a turn stands: those that it brings, else those that are kept under its stamp
abbrev pub turn_lines : Answers → Turn → List (List ℕ)
turn_lines kept turn = unwrap_or turn.fresh (unwrap_or (kept_under turn.stamp kept) [])

-- the answers for which turns stand, in their order
abbrev pub answers_of : Answers → List Turn → Answers
answers_of kept turns = map (λ t. (t.stamp, turn_lines kept t)) turns

abbrev pub stamps_of : List Turn → List ℕ
stamps_of turns = map (λ t. t.stamp) turns
