-- Choices of phrases in an operator, united: a choice of phrases becomes one phrase, which has the hits of all, equal ones once.
use Rattle.std.specs.Prelude.{◌≡◌, ℕ, suc, Bool, true, false, ◌&&◌, nat_le, List, [], ◌++◌, map}
use Rattle.std.specs.List.{list_any, list_all}
use Rattle.ft_base.specs.declared.filter.Filter.{Filter}
use Rattle.ft_base.specs.declared.hit.Hit.{Hit}
use Rattle.all_matches.specs.Ways.{Operator, phrase, either, together, apart, negated, through_filter}
use Rattle.match_sets.specs.Numbers.{renumbered_hit, is_between}

-- whether an operator is a phrase, or a choice of such
abbrev pub is_choice : Operator → Bool
is_choice (phrase found) = true
is_choice (either left right) = is_choice left && is_choice right
is_choice (together left right) = false
is_choice (apart left right) = false
is_choice (negated operand) = false
is_choice (through_filter operand kind) = false

-- the hits of a choice of phrases
abbrev pub choice_hits : Operator → List Hit
choice_hits (phrase found) = found
choice_hits (either left right) = choice_hits left ++ choice_hits right
choice_hits (together left right) = []
choice_hits (apart left right) = []
choice_hits (negated operand) = []
choice_hits (through_filter operand kind) = []

-- a hit of the phrase with this number
abbrev pub with_number : ℕ → Hit → Hit
with_number number hit = renumbered_hit (λ other. number) hit

-- whether the phrases of an operator have numbers from the first on, before the next, those of a right side all after those of the left one
abbrev pub IsNumbered : ℕ → ℕ → Operator → Type 0
IsNumbered first next (phrase found) = (nat_le first next ≡ true) × (list_all (λ hit. is_between first next hit.query) found ≡ true)
IsNumbered first next (either left right) = (middle : ℕ) × IsNumbered first middle left × IsNumbered middle next right
IsNumbered first next (together left right) = (middle : ℕ) × IsNumbered first middle left × IsNumbered middle next right
IsNumbered first next (apart left right) = (middle : ℕ) × IsNumbered first middle left × IsNumbered middle next right
IsNumbered first next (negated operand) = IsNumbered first next operand
IsNumbered first next (through_filter operand kind) = IsNumbered first next operand

-- one phrase in the place of a choice of phrases: under its number it has the hits of all, however often and in whichever order
pub record IsOnePhrase (number : ℕ) (choice : Operator) (found : List Hit) : Type 0 where
  pub of_phrases : is_choice choice ≡ true
  pub same_hits : (test : Hit → Bool) → list_any test (map (with_number number) (choice_hits choice)) ≡ list_any test found

-- an operator, and the same with some choices of phrases united, whose phrases are numbered from the first on, one after the other, to before
-- the next
pub data IsUnited : ℕ → ℕ → Operator → Operator → Type 0 where
  one_phrase : (first : ℕ) (choice : Operator) (found : List Hit) → IsOnePhrase first choice found → IsUnited first (suc first) choice (phrase found)
  one_side : (first middle next : ℕ) (left right one other : Operator) → IsUnited first middle left one → IsUnited middle next right other
      → IsUnited first next (either left right) (either one other)
  both_sides : (first middle next : ℕ) (left right one other : Operator) → IsUnited first middle left one → IsUnited middle next right other
      → IsUnited first next (together left right) (together one other)
  without_side : (first middle next : ℕ) (left right one other : Operator) → IsUnited first middle left one → IsUnited middle next right other
      → IsUnited first next (apart left right) (apart one other)
  of_negated : (first next : ℕ) (operand one : Operator) → IsUnited first next operand one → IsUnited first next (negated operand) (negated one)
  of_filtered : (first next : ℕ) (operand one : Operator) (kind : Filter) → IsUnited first next operand one
      → IsUnited first next (through_filter operand kind) (through_filter one kind)
