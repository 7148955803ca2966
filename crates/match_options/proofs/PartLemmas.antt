-- The parts of a text, one character after the other.
use Rattle.std.proofs.Common.{◌≡◌, refl, sym, ap, ◌∙◌, ℕ, ◌<◌, true, false, List, [], ◌∷◌, ◌++◌, map, filter, length, append_assoc, append-nil, arith, inl, inr, encode_utf8_all, chars}
use Rattle.std.specs.List.{slice_split, onto_first}
use Rattle.std.specs.Char.{is_whitespace}
use Rattle.std.proofs.lemmas.Bool.{cond-true, cond-false, cases_Bool}
use Rattle.std.proofs.lemmas.List.Splits.{slice_split-cons_yes, slice_split-cons_no, length-slice_split}
use Rattle.ft_base.specs.Lists.{is_not_empty}
use Rattle.match_options.specs.Patterns.{parts}
use Rattle.match_options.specs.steps.PartsLeft.{ended, parts_left}

-- ---- text of characters

-- ---- parts

-- characters put before the first of some lists
onto_prefix : List ℕ → List (List ℕ) → List (List ℕ)
onto_prefix prefix [] = []
onto_prefix prefix (part ∷ rest) = (prefix ++ part) ∷ rest

texts : List (List ℕ) → List (List ℕ)
texts pieces = map encode_utf8_all (filter is_not_empty pieces)

texts_cons : (piece : List ℕ) (rest : List (List ℕ)) → texts (piece ∷ rest) ≡ ended piece ++ texts rest
unfolding texts
texts_cons [] rest = refl
texts_cons (c ∷ piece) rest = refl

onto_one : (prefix : List ℕ) (c : ℕ) (pieces : List (List ℕ)) → 0 < length pieces → onto_prefix prefix (onto_first c pieces) ≡ onto_prefix (prefix ++ c ∷ []) pieces
unfolding onto_prefix
onto_one prefix c [] h = absurd (omega arith)
onto_one prefix c (piece ∷ rest) h = ap (λ p. p ∷ rest) (sym (append_assoc prefix (c ∷ []) piece))

onto_none : (pieces : List (List ℕ)) → onto_prefix [] pieces ≡ pieces
unfolding onto_prefix
onto_none [] = refl
onto_none (piece ∷ rest) = refl

some_pieces : (cs : List ℕ) → 0 < length (slice_split is_whitespace cs)
some_pieces cs = rw (length-slice_split is_whitespace cs) (omega arith)

-- what is left makes the parts that it makes after the first characters of a part
left_split : (prefix cs : List ℕ) → texts (onto_prefix prefix (slice_split is_whitespace cs)) ≡ parts_left prefix cs
unfolding onto_prefix texts parts_left
left_split prefix [] = ap (λ f. texts (f ∷ [])) (append-nil prefix)
left_split prefix (c ∷ cs) = elim (cases_Bool (is_whitespace c)) [
  | inl white ↦
      ap (λ pieces. texts (onto_prefix prefix pieces)) (slice_split-cons_yes is_whitespace c cs white)
      ∙ ap (λ f. texts (f ∷ slice_split is_whitespace cs)) (append-nil prefix)
      ∙ texts_cons prefix (slice_split is_whitespace cs)
      ∙ ap (λ ts. ended prefix ++ ts) (ap texts (sym (onto_none (slice_split is_whitespace cs))) ∙ left_split [] cs)
      ∙ sym (cond-true _ _ _ white)
  | inr other ↦
      ap (λ pieces. texts (onto_prefix prefix pieces)) (slice_split-cons_no is_whitespace c cs other)
      ∙ ap texts (onto_one prefix c (slice_split is_whitespace cs) (some_pieces cs))
      ∙ left_split (prefix ++ c ∷ []) cs
      ∙ sym (cond-false _ _ _ other)
]

-- the parts of a text are those of its characters
pub text_parts : (text : List ℕ) → parts_left [] (chars text) ≡ parts text
unfolding texts
text_parts text = sym (left_split [] (chars text)) ∙ ap texts (onto_none (slice_split is_whitespace (chars text)))

-- one character more
pub white_passed : (done new : List (List ℕ)) (part : List ℕ) (c : ℕ) (rest : List ℕ) → is_whitespace c ≡ true → new ≡ done ++ ended part → new ++ parts_left [] rest ≡ done ++ parts_left part (c ∷ rest)
unfolding parts_left
white_passed done new part c rest white put =
    ap (λ ts. ts ++ parts_left [] rest) put ∙ append_assoc done (ended part) (parts_left [] rest) ∙ ap (λ ts. done ++ ts) (sym (cond-true _ _ _ white))

pub letter_passed : (done : List (List ℕ)) (part more : List ℕ) (c : ℕ) (rest : List ℕ) → is_whitespace c ≡ false → more ≡ part ++ c ∷ [] → done ++ parts_left more rest ≡ done ++ parts_left part (c ∷ rest)
unfolding parts_left
letter_passed done part more c rest other put = ap (λ p. done ++ parts_left p rest) put ∙ ap (λ ts. done ++ ts) (sym (cond-false _ _ _ other))

-- nothing is left
pub nothing_left : (part : List ℕ) → parts_left part [] ≡ ended part
unfolding parts_left
nothing_left part = refl
