-- What a pattern covers (XQuery and XPath Full Text 3.0, section 3.4.2: FTWildCardOption).
use Rattle.std.specs.Prelude.{ℕ, suc, Bool, true, false, ◌&&◌, ◌==◌, nat_le, List, [], ◌∷◌, ◌++◌, map, length, drop, Option, Some, None, option_map, chars}
use Rattle.std.specs.List.{list_any, range_with_len}
use Rattle.ft_base.specs.declared.options.Options.{Options}
use Rattle.ft_base.specs.declared.options.Case.{Case}
use Rattle.ft_base.specs.declared.options.Case.TheVariants.{Insensitive, Sensitive, Lower, Upper}
use Rattle.text_forms.specs.Forms.{key_form, plain_case_form, plain_marks_form, exact_form}
use Rattle.match_options.specs.Patterns.{atoms_of}
use Rattle.match_options.specs.TokenTest.{is_on, case_of}
use Rattle.match_options.specs.declared.atom.Atom.{Atom}
use Rattle.match_options.specs.declared.atom.Atom.TheVariants.{Letter, Gap}

-- the form that the options choose for literals and for the word of the text
abbrev pub form_by : Case → Bool → List ℕ → List ℕ
form_by Sensitive true characters = exact_form characters
form_by Sensitive false characters = plain_marks_form characters
form_by Insensitive true characters = plain_case_form characters
form_by Insensitive false characters = key_form characters
form_by Lower true characters = plain_case_form characters
form_by Lower false characters = key_form characters
form_by Upper true characters = plain_case_form characters
form_by Upper false characters = key_form characters

-- atoms whose runs of letters are put through a form, after the letters of a run
unfoldable pub formed : (List ℕ → List ℕ) → List ℕ → List Atom → List Atom
formed form run [] = map Letter (form run)
formed form run (Letter c ∷ rest) = formed form (run ++ c ∷ []) rest
formed form run (Gap low high ∷ rest) = map Letter (form run) ++ Gap low high ∷ formed form [] rest

-- the atoms of a pattern under options, unless it is badly formed
abbrev pub pattern_in : Case → Bool → List ℕ → Option (List Atom)
pattern_in case diacritics_sensitive pattern = option_map (formed (form_by case diacritics_sensitive) []) (atoms_of (chars pattern))

abbrev pub pattern_of : Options → List ℕ → Option (List Atom)
pattern_of options pattern = pattern_in (case_of options.case) (is_on options.diacritics_sensitive) pattern

-- whether a gap may stand for so many characters
abbrev pub fits_gap : ℕ → Option ℕ → ℕ → Bool
fits_gap low None count = nat_le low count
fits_gap low (Some high) count = nat_le low count && nat_le count high

-- whether atoms cover characters exactly: a letter covers itself, a gap any characters, as many as it may stand for
unfoldable pub covers : List Atom → List ℕ → Bool
covers [] [] = true
covers [] (c ∷ rest) = false
covers (Letter a ∷ atoms) [] = false
covers (Letter a ∷ atoms) (c ∷ rest) = (a == c) && covers atoms rest
covers (Gap low high ∷ atoms) characters =
    list_any (λ count. fits_gap low high count && covers atoms (drop count characters)) (range_with_len 0 (suc (length characters)))
