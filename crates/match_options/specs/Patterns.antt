-- Patterns of a query string under `using wildcards` (XQuery and XPath Full Text 3.0, section 3.4.2: FTWildCardOption): the parts of a string,
-- which of them are patterns, and the atoms of a pattern, read from left to right.
use Rattle.std.specs.Prelude.{ℕ, zero, suc, ◌+◌, ◌-◌, Bool, true, false, ◌&&◌, ◌||◌, ◌==◌, nat_le, nat_lt, if◌then◌else◌, List}
use Rattle.std.specs.Prelude.{[], ◌∷◌, map, filter, take, drop, Option, Some, None, option_map, encode_utf8_all, chars}
use Rattle.std.specs.List.{list_any, prefix_len, slice_split}
use Rattle.std.specs.Option.{is_none}
use Rattle.std.specs.Char.{is_whitespace}
use Rattle.ft_base.specs.Lists.{is_not_empty}
use Rattle.ft_base.specs.Letters.{is_digit, number_of, begins_with}
use Rattle.ft_base.specs.Limits.{max_number}
use Rattle.match_options.specs.declared.atom.Atom.{Atom}
use Rattle.match_options.specs.declared.atom.Atom.TheVariants.{Letter, Gap}
use Rattle.match_options.specs.declared.atom.SizedAtom.{SizedAtom}
use Rattle.match_options.specs.declared.atom.Number.{Number}

abbrev pub parts : List ℕ → List (List ℕ)
parts text = map encode_utf8_all (filter is_not_empty (slice_split is_whitespace (chars text)))

abbrev pub is_period : ℕ → Bool
is_period c = c == 46

abbrev pub is_backslash : ℕ → Bool
is_backslash c = c == 92

-- a part that holds a period or a backslash is a pattern
abbrev pub is_pattern : List ℕ → Bool
is_pattern part = list_any (λ c. is_period c || is_backslash c) part

-- Atoms are read from the characters of a part.

abbrev pub sized : Atom → ℕ → Option SizedAtom
sized atom size = Some record { atom = atom; size = size }

-- a number with a closing character after it
abbrev pub number_before : ℕ → List ℕ → Option Number
number_before closing letters =
    if nat_lt 0 (prefix_len is_digit letters) && begins_with closing (drop (prefix_len is_digit letters) letters)
    then Some record { value = number_of (take (prefix_len is_digit letters) letters); size = prefix_len is_digit letters + 1 }
    else None

-- from `low` to `high` characters, where `low` isn't above `high` and `high` isn't too great
abbrev pub bounded_gap : ℕ → ℕ → ℕ → Option SizedAtom
bounded_gap low high size = if nat_le low high && nat_le high max_number then sized (Gap low (Some high)) size else None

abbrev pub upper_bound : ℕ → ℕ → Option Number → Option SizedAtom
upper_bound low size None = None
upper_bound low size (Some high) = bounded_gap low high.value (size + high.size + 2)

-- after `.{`: a number, a comma, a number and a closing brace
abbrev pub bounds : Option Number → List ℕ → Option SizedAtom
bounds None letters = None
bounds (Some low) letters = upper_bound low.value low.size (number_before 125 (drop low.size letters))

abbrev pub braces_at : List ℕ → Option SizedAtom
braces_at letters = bounds (number_before 44 letters) letters

-- after a period: the longest form is taken
abbrev pub period_before : List ℕ → Option SizedAtom
period_before [] = sized (Gap 1 (Some 1)) 1
period_before (c ∷ rest) =
    if c == 63 then sized (Gap 0 (Some 1)) 2
    else if c == 42 then sized (Gap 0 None) 2
    else if c == 43 then sized (Gap 1 None) 2
    else if c == 123 then braces_at rest
    else sized (Gap 1 (Some 1)) 1

-- after a backslash: it makes the next character a letter
abbrev pub backslash_before : List ℕ → Option SizedAtom
backslash_before [] = None
backslash_before (c ∷ rest) = sized (Letter c) 2

-- the atom at the front of a pattern that begins with a character
abbrev pub first_atom : ℕ → List ℕ → Option SizedAtom
first_atom c rest =
    if is_period c then period_before rest
    else if is_backslash c then backslash_before rest
    else sized (Letter c) 1

abbrev pub atom_before : Option SizedAtom → (ℕ → Option (List Atom)) → Option (List Atom)
atom_before None further = None
atom_before (Some first) further = option_map (λ atoms. first.atom ∷ atoms) (further (first.size - 1))

-- the atoms of characters, of which the first ones belong to an atom that is read
unfoldable pub atoms_after : ℕ → List ℕ → Option (List Atom)
atoms_after zero [] = Some []
atoms_after (suc passed) [] = None
atoms_after zero (c ∷ rest) = atom_before (first_atom c rest) (λ passed. atoms_after passed rest)
atoms_after (suc passed) (c ∷ rest) = atoms_after passed rest

-- the atoms of a pattern, unless it is badly formed; it has at least one
unfoldable pub atoms_of : List ℕ → Option (List Atom)
atoms_of [] = None
atoms_of (c ∷ rest) = atoms_after 0 (c ∷ rest)

-- whether a string holds a badly formed pattern
abbrev pub is_bad_pattern : List ℕ → Bool
is_bad_pattern part = is_pattern part && is_none (atoms_of (chars part))

abbrev pub holds_bad_pattern : List ℕ → Bool
holds_bad_pattern text = list_any is_bad_pattern (parts text)
