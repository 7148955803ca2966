-- Which selection of a path says what its selected elements show: that of a last predicate of the last step which is `. contains text` with
-- the selection, and nothing else, so none where `without content` follows.
use Rattle.std.specs.Prelude.{ℕ, Bool, false, nat_eq, if◌then◌else◌, List, codes, drop, slice_get, Option, Some, None}
use Rattle.std.specs.List.{starts_with}
use Rattle.text_lines.specs.Lines.{trimmed_start}
use Rattle.path_grammar.specs.Form.{Step, step, Steps, no_steps, step_then, Predicate, number, holds, Predicates, no_predicates, predicate_then}
use Rattle.path_grammar.specs.Form.{Condition, contains, no_paths}
use Rattle.path_subset.specs.Paths.{PathForm, PlacedForm}

-- the number of the selection that elements are to satisfy themselves
abbrev pub condition_selection : Condition → Option ℕ
condition_selection (contains no_steps selection no_paths) = Some selection
condition_selection other = None

abbrev pub predicate_selection : Predicate → Option ℕ
predicate_selection (number k) = None
predicate_selection (holds condition) = condition_selection condition

-- that of the last predicate
abbrev pub predicates_selection : Predicates → Option ℕ
predicates_selection no_predicates = None
predicates_selection (predicate_then p no_predicates) = predicate_selection p
predicates_selection (predicate_then p (predicate_then next rest)) = predicates_selection (predicate_then next rest)

abbrev pub step_selection : Step → Option ℕ
step_selection (step deep test predicates) = predicates_selection predicates

-- that of the last step
abbrev pub shown_selection : Steps → Option ℕ
shown_selection no_steps = None
shown_selection (step_then s no_steps) = step_selection s
shown_selection (step_then s (step_then next rest)) = shown_selection (step_then next rest)

-- A text goes on with a closing bracket behind a place, which blanks may stand before. Where a selection is all of a predicate, this says that the
-- predicate doesn't stand in parentheses, of which its form has nothing.
abbrev pub is_before_bracket : List ℕ → ℕ → Bool
is_before_bracket text place = starts_with nat_eq (trimmed_start (drop place text)) (codes "]")

abbrev pub stands_before_bracket : List ℕ → Option PlacedForm → Bool
stands_before_bracket text None = false
stands_before_bracket text (Some s) = is_before_bracket text s.extent.to

abbrev pub bare_selection : List ℕ → List PlacedForm → Option ℕ → Option ℕ
bare_selection text selections None = None
bare_selection text selections (Some selection) = if stands_before_bracket text (slice_get selections selection) then Some selection else None

-- the number of the selection that a path shows which is read from a text
abbrev pub shown_number : List ℕ → PathForm → Option ℕ
shown_number text value = bare_selection text value.selections (shown_selection value.path.steps)
