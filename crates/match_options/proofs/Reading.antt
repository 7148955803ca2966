-- The atoms of a pattern, one after the other.
use Rattle.std.proofs.Common.{◌≡◌, refl, sym, ap, ◌∙◌, ℕ, zero, suc, ◌+◌, ◌-◌, ◌<◌, ◌≤◌, List, [], ◌∷◌, ◌++◌, length, get_or, drop, Option, Some, None, append_assoc, append-nil, arith, drop-drop}
use Rattle.std.specs.Prelude.{option_map, ◌==◌, false}
use Rattle.std.proofs.lemmas.List.{drop_more, drop_all}
use Rattle.match_options.specs.declared.atom.Atom.{Atom}
use Rattle.match_options.specs.declared.atom.SizedAtom.{SizedAtom}
use Rattle.match_options.specs.Patterns.{first_atom, atom_before, atoms_after, atoms_of}

-- the characters of an atom that is read are passed
pub passed : (n : ℕ) (letters : List ℕ) → n ≤ length letters → atoms_after n letters ≡ atoms_after 0 (drop n letters)
unfolding atoms_after
passed zero letters h = refl
passed (suc n) [] h = absurd (omega arith)
passed (suc n) (c ∷ rest) h = passed n rest (omega arith)

-- atoms that are read, before what is left
abbrev pub after_read : List Atom → Option (List Atom) → Option (List Atom)
after_read prefix further = option_map (λ rest. prefix ++ rest) further

one_read : (prefix more : List Atom) (atom : Atom) (further : Option (List Atom)) → more ≡ prefix ++ atom ∷ [] → after_read prefix (option_map (λ atoms. atom ∷ atoms) further) ≡ after_read more further
one_read prefix more atom None e = refl
one_read prefix more atom (Some rest) e = ap Some (sym (ap (λ xs. xs ++ rest) e ∙ append_assoc prefix (atom ∷ []) rest))

-- the first atom of what is left
pub atoms_first : (c : ℕ) (rest : List ℕ) (first : SizedAtom) → first_atom c rest ≡ Some first → atoms_after 0 (c ∷ rest) ≡ option_map (λ atoms. first.atom ∷ atoms) (atoms_after (first.size - 1) rest)
unfolding atoms_after
atoms_first c rest first e = ap (λ o. atom_before o (λ n. atoms_after n rest)) e

pub atoms_bad : (c : ℕ) (rest : List ℕ) → first_atom c rest ≡ None → atoms_after 0 (c ∷ rest) ≡ None
unfolding atoms_after
atoms_bad c rest e = ap (λ o. atom_before o (λ n. atoms_after n rest)) e

module _ (letters : List ℕ) {whole : Option (List Atom)} (atoms : List Atom) (i c : ℕ) (h : i < length letters) (is : c ≡ get_or letters i c) (known : after_read atoms (atoms_after 0 (drop i letters)) ≡ whole) where
  split : drop i letters ≡ c ∷ drop (i + 1) letters
  split = drop_more letters i c h ∙ ap (λ d. d ∷ drop (i + 1) letters) (sym is)

  -- no atom begins here
  pub bad_here : first_atom c (drop (i + 1) letters) ≡ None → None ≡ whole
  bad_here bad = sym (ap (after_read atoms) (ap (atoms_after 0) split ∙ atoms_bad c (drop (i + 1) letters) bad)) ∙ known

  -- one atom more
  pub atom_read : (first : SizedAtom) (new : List Atom) → first_atom c (drop (i + 1) letters) ≡ Some first → 0 < first.size → first.size ≤ length (drop (i + 1) letters) + 1 → new ≡ atoms ++ first.atom ∷ []
      → after_read new (atoms_after 0 (drop (i + first.size) letters)) ≡ whole
  atom_read first new found some within written =
      let place : i + first.size ≡ (i + 1) + (first.size - 1) = omega arith in
      ap (λ n. after_read new (atoms_after 0 (drop n letters))) place
      ∙ ap (λ d. after_read new (atoms_after 0 d)) (sym (drop-drop (first.size - 1) (i + 1) letters))
      ∙ ap (after_read new) (sym (passed (first.size - 1) (drop (i + 1) letters) (omega arith)))
      ∙ sym (one_read atoms new first.atom (atoms_after (first.size - 1) (drop (i + 1) letters)) written)
      ∙ ap (after_read atoms) (sym (ap (atoms_after 0) split ∙ atoms_first c (drop (i + 1) letters) first found))
      ∙ known

-- nothing is left
pub all_read : (letters : List ℕ) {whole : Option (List Atom)} (atoms : List Atom) (i : ℕ) → length letters ≤ i → after_read atoms (atoms_after 0 (drop i letters)) ≡ whole → Some atoms ≡ whole
unfolding atoms_after
all_read letters atoms i h known = ap Some (sym (append-nil atoms)) ∙ sym (ap (λ d. after_read atoms (atoms_after 0 d)) (drop_all i letters h)) ∙ known

-- a pattern has at least one character
pub no_pattern : (letters : List ℕ) → length letters ≡ 0 → None ≡ atoms_of letters
unfolding atoms_of
no_pattern [] none = refl
no_pattern (c ∷ rest) none = absurd (omega arith)

pub some_pattern : (letters : List ℕ) → 0 < length letters → atoms_after 0 letters ≡ atoms_of letters
unfolding atoms_of
some_pattern [] some = absurd (omega arith)
some_pattern (c ∷ rest) some = refl

pub not_empty : (letters : List ℕ) → (length letters == 0) ≡ false → 0 < length letters
not_empty [] h = cc
not_empty (c ∷ rest) h = omega arith

-- before the first atom
pub nothing_read : (letters : List ℕ) (found : Option (List Atom)) → found ≡ atoms_of letters → after_read [] found ≡ atoms_of letters
nothing_read letters None e = e
nothing_read letters (Some atoms) e = e
