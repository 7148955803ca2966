-- Answers that stay as they are: those whose turns bring no lines. The others are gone through.
use Rattle.std.specs.Prelude.{ℕ, Bool, ◌&&◌, not, List, filter, is_some, nat_eq, bytes_eq}
use Rattle.std.specs.HashSet.{HashSet, contains_by}
use Rattle.std.specs.List.{list_any}
use Rattle.standing_queries.specs.Answers.{Answers, all_lines}
use Rattle.standing_queries.specs.declared.turn.Turn.{Turn}
use denote.Ref.{Bor}

-- whether a turn of the stamp brings no lines
abbrev pub stays : List Turn → ℕ → Bool
stays turns stamp = list_any (λ t. not (is_some t.fresh) && nat_eq stamp t.stamp) turns

-- the same by the set of those stamps
abbrev pub is_in : {S : Type 0} → HashSet ℕ S → ℕ → Bool
is_in staying stamp = contains_by (nat_eq stamp) staying

-- the lines of the answers whose stamps don't pass the test
abbrev pub changed_lines : (ℕ → Bool) → Answers → List (List ℕ)
changed_lines stays answers = all_lines (filter (λ a. not (stays a.0)) answers)

-- whether a set of texts has the line
abbrev pub has_line : {S : Type 0} → HashSet (Bor (List ℕ)) S → List ℕ → Bool
has_line set line = contains_by (λ k. bytes_eq line k.now) set
