-- The grammar of patterns, by cases.
use Rattle.std.specs.Prelude.{◌≡◌, ℕ, Bool, true, false, ◌||◌, ◌==◌, ◌<◌, ◌≤◌, List, [], ◌∷◌, ◌++◌, length, Some, None}
use Rattle.std.specs.List.{list_all}
use Rattle.match_options.specs.declared.atom.Atom.{Atom}
use Rattle.match_options.specs.declared.atom.Atom.TheVariants.{Letter, Gap}
use Rattle.ft_base.specs.Letters.{is_digit, number_of}
use Rattle.ft_base.specs.Limits.{max_number}
use Rattle.match_options.specs.Patterns.{is_period, is_backslash}

-- digits, at least one
pub record IsNumber (digits : List ℕ) : Type 0 where
  pub some : 0 < length digits
  pub each : list_all is_digit digits ≡ true

-- what makes a form of a period longer: `?`, `*`, `+` or `{`
abbrev pub goes_on_with_period : List ℕ → Bool
goes_on_with_period [] = false
goes_on_with_period (c ∷ rest) = (c == 63) || (c == 42) || (c == 43) || (c == 123)

-- which characters spell an atom that stands before the rest
pub data Spells : List ℕ → Atom → List ℕ → Type 0 where
  -- any character other than a period and a backslash
  letter : (c : ℕ) (rest : List ℕ) → (is_period c || is_backslash c) ≡ false → Spells (c ∷ []) (Letter c) rest
  -- a backslash and any character
  escaped : (c : ℕ) (rest : List ℕ) → Spells (92 ∷ c ∷ []) (Letter c) rest
  -- a period: one character
  one : (rest : List ℕ) → goes_on_with_period rest ≡ false → Spells (46 ∷ []) (Gap 1 (Some 1)) rest
  -- `.?`: at most one
  at_most_one : (rest : List ℕ) → Spells (46 ∷ 63 ∷ []) (Gap 0 (Some 1)) rest
  -- `.*`: any number
  any_number : (rest : List ℕ) → Spells (46 ∷ 42 ∷ []) (Gap 0 None) rest
  -- `.+`: at least one
  at_least_one : (rest : List ℕ) → Spells (46 ∷ 43 ∷ []) (Gap 1 None) rest
  -- `.{n,m}`: from n to m, where n isn't above m and no number is too great
  from_to : (low high rest : List ℕ) → IsNumber low → IsNumber high → number_of low ≤ number_of high → number_of high ≤ max_number
      → Spells (46 ∷ 123 ∷ (low ++ 44 ∷ (high ++ 125 ∷ []))) (Gap (number_of low) (Some (number_of high))) rest

-- a pattern is one atom or more
pub data Pattern : List ℕ → List Atom → Type 0 where
  last : (text : List ℕ) (atom : Atom) → Spells text atom [] → Pattern text (atom ∷ [])
  before : (prefix rest : List ℕ) (atom : Atom) (atoms : List Atom) → Spells prefix atom rest → Pattern rest atoms → Pattern (prefix ++ rest) (atom ∷ atoms)
