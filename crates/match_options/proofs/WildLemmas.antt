-- The atoms of a pattern with its runs of letters in a form, one atom after the other.
use Rattle.std.proofs.Common.{Bool, ◌≡◌, refl, sym, ap, ◌∙◌, ℕ, List, [], ◌∷◌, ◌++◌, map, append_assoc, IsUtf8, chars, encode_utf8_all, Vec, Global}
use Rattle.std.proofs.lemmas.Str.{chars_from_encodes}
use Rattle.match_options.specs.declared.atom.Atom.{Atom}
use Rattle.match_options.specs.declared.atom.Atom.TheVariants.{Letter, Gap}
use Rattle.std.specs.Prelude.{Option, None, option_map}
use Rattle.ft_base.specs.declared.options.Case.{Case}
use Rattle.match_options.specs.Patterns.{atoms_of}
use Rattle.match_options.specs.Wildcards.{formed, form_by, pattern_in}

module _ (form : List ℕ → List ℕ) where
  -- a letter belongs to the run
  pub letter_passed : (out : List Atom) (run more : List ℕ) (c : ℕ) (rest : List Atom) → more ≡ run ++ c ∷ [] → out ++ formed form more rest ≡ out ++ formed form run (Letter c ∷ rest)
  unfolding formed
  letter_passed out run more c rest e = ap (λ r. out ++ formed form r rest) e

  -- a gap ends it
  pub gap_passed : (out ended new : List Atom) (run none : List ℕ) (low : ℕ) (high : Option ℕ) (rest : List Atom) → ended ≡ out ++ map Letter (form run) → none ≡ [] → new ≡ ended ++ Gap low high ∷ []
      → new ++ formed form none rest ≡ out ++ formed form run (Gap low high ∷ rest)
  unfolding formed
  gap_passed out ended new run none low high rest e n g =
      ap (λ r. new ++ formed form r rest) n
      ∙ ap (λ xs. xs ++ formed form [] rest) (g ∙ ap (λ xs. xs ++ Gap low high ∷ []) e)
      ∙ append_assoc (out ++ map Letter (form run)) (Gap low high ∷ []) (formed form [] rest)
      ∙ append_assoc out (map Letter (form run)) (Gap low high ∷ formed form [] rest)

  -- nothing is left
  pub all_formed : (run : List ℕ) → formed form run [] ≡ map Letter (form run)
  unfolding formed
  all_formed run = refl

  -- the characters of the form of a run
  pub run_form : (run text read letters : List ℕ) → IsUtf8 text → IsUtf8 read → text ≡ encode_utf8_all run → read ≡ encode_utf8_all (form (chars text)) → letters ≡ chars read → letters ≡ form run
  run_form run text read letters utf8 utf8_read spelled formed_text got =
      got ∙ sym (chars_from_encodes (form (chars text)) read utf8_read (sym formed_text)) ∙ ap form (sym (chars_from_encodes run text utf8 (sym spelled)))

-- the atoms of a pattern in their form, and a badly formed pattern
module _ (case : Case) (marks : Bool) (pattern : List ℕ) (read : Option (Vec Atom Global)) (known : option_map (λ (v : Vec Atom Global). v.items) read ≡ atoms_of (chars pattern)) where
  pub pattern_bad : read ≡ None → None ≡ pattern_in case marks pattern
  pattern_bad none = ap (option_map (formed (form_by case marks) [])) (sym (ap (option_map (λ (v : Vec Atom Global). v.items)) none) ∙ known)
