-- A string after its opening quote, one character after the other.
use Rattle.std.proofs.Common.{◌≡◌, ℕ, ◌+◌, ◌<◌, List, [], ◌∷◌, ◌++◌, length, get_or, drop, refl, ap, sym, ◌∙◌, arith, true, false, cond, eqb, Option, Some, None, append_assoc, length-drop, drop-drop}
use Rattle.std.specs.Prelude.{option_map, encode_utf8}
use Rattle.std.proofs.lemmas.List.{drop_more}
use Rattle.query_lexer.specs.declared.lexeme.Quoted.{Quoted}
use Rattle.ft_base.specs.Letters.{begins_with}
use Rattle.query_lexer.specs.Symbols.{with_letter, quoted_at}

-- what was read, before what is left
abbrev pub after_read : List ℕ → ℕ → Option Quoted → Option Quoted
after_read text size rest = option_map (λ quoted. record { text = text ++ quoted.text; size = size + quoted.size }) rest

one_letter : (quote c : ℕ) (rest : List ℕ) → eqb c quote ≡ false → quoted_at quote (c ∷ rest) ≡ with_letter c 1 (quoted_at quote rest)
one_letter quote c [] h = ap (λ b. cond b (Some record { text = []; size = 1 }) None) h
one_letter quote c (d ∷ rest) h = ap (λ b. cond b (cond (eqb d quote) (with_letter c 2 (quoted_at quote rest)) (Some record { text = []; size = 1 })) (with_letter c 1 (quoted_at quote (d ∷ rest)))) h

two_quotes : (quote c : ℕ) (rest : List ℕ) → eqb c quote ≡ true → begins_with quote rest ≡ true → quoted_at quote (c ∷ rest) ≡ with_letter c 2 (quoted_at quote (drop 1 rest))
two_quotes quote c [] h b = absurd (elim_false b)
  where
    elim_false : false ≡ true → ⊥
    elim_false e = cc
two_quotes quote c (d ∷ rest) h b =
    (λ i. cond (h i) (cond (b i) (with_letter c 2 (quoted_at quote rest)) (Some record { text = []; size = 1 })) (with_letter c 1 (quoted_at quote (d ∷ rest))))

closing : (quote c : ℕ) (rest : List ℕ) → eqb c quote ≡ true → begins_with quote rest ≡ false → quoted_at quote (c ∷ rest) ≡ Some record { text = []; size = 1 }
closing quote c [] h b = ap (λ t. cond t (Some record { text = []; size = 1 }) None) h
closing quote c (d ∷ rest) h b =
    (λ i. cond (h i) (cond (b i) (with_letter c 2 (quoted_at quote rest)) (Some record { text = []; size = 1 })) (with_letter c 1 (quoted_at quote (d ∷ rest))))

regrouped : (text : List ℕ) (size c more : ℕ) (rest : Option Quoted) → after_read text size (with_letter c more rest) ≡ after_read (text ++ encode_utf8 c) (size + more) rest
regrouped text size c more None = refl
regrouped text size c more (Some quoted) =
    let sums : size + (more + quoted.size) ≡ (size + more) + quoted.size = omega arith in
    λ i. Some record { text = sym (append_assoc text (encode_utf8 c) quoted.text) i; size = sums i }

module _ (quote : ℕ) (letters : List ℕ) (whole : Option Quoted) (text new : List ℕ) (i c : ℕ) (h : i < length letters) (is : c ≡ get_or letters i c) (known : after_read text i (quoted_at quote (drop i letters)) ≡ whole) where
  split : drop i letters ≡ c ∷ drop (i + 1) letters
  split = drop_more letters i c h ∙ ap (λ d. d ∷ drop (i + 1) letters) (sym is)

  -- one letter more, a doubled quote, and the closing quote
  pub letter_read : eqb c quote ≡ false → new ≡ text ++ encode_utf8 c → after_read new (i + 1) (quoted_at quote (drop (i + 1) letters)) ≡ whole
  letter_read other written =
      ap (λ t. after_read t (i + 1) (quoted_at quote (drop (i + 1) letters))) written
      ∙ sym (regrouped text i c 1 (quoted_at quote (drop (i + 1) letters)))
      ∙ ap (after_read text i) (sym (ap (quoted_at quote) split ∙ one_letter quote c (drop (i + 1) letters) other))
      ∙ known

  pub quote_read : eqb c quote ≡ true → begins_with quote (drop (i + 1) letters) ≡ true → new ≡ text ++ encode_utf8 c → after_read new (i + 2) (quoted_at quote (drop 1 (drop (i + 1) letters))) ≡ whole
  quote_read same doubled written =
      ap (λ t. after_read t (i + 2) (quoted_at quote (drop 1 (drop (i + 1) letters)))) written
      ∙ sym (regrouped text i c 2 (quoted_at quote (drop 1 (drop (i + 1) letters))))
      ∙ ap (after_read text i) (sym (ap (quoted_at quote) split ∙ two_quotes quote c (drop (i + 1) letters) same doubled))
      ∙ known

  pub closed : eqb c quote ≡ true → begins_with quote (drop (i + 1) letters) ≡ false → after_read text i (Some record { text = []; size = 1 }) ≡ whole
  closed same single = ap (after_read text i) (sym (ap (quoted_at quote) split ∙ closing quote c (drop (i + 1) letters) same single)) ∙ known

-- what begins with a quote isn't empty
begins_some : (quote : ℕ) (xs : List ℕ) → begins_with quote xs ≡ true → 0 < length xs
begins_some quote [] e = absurd (false_true e)
  where
    false_true : false ≡ true → ⊥
    false_true b = cc
begins_some quote (x ∷ xs) e = omega arith

pub some_letter : (quote : ℕ) (letters : List ℕ) (i : ℕ) → begins_with quote (drop i letters) ≡ true → i < length letters
some_letter quote letters i e = let some = begins_some quote (drop i letters) e in omega (arith, length-drop i letters)

pub over_two : (quote : ℕ) (letters text : List ℕ) (i : ℕ) → after_read text (i + 2) (quoted_at quote (drop (i + 2) letters)) ≡ after_read text (i + 2) (quoted_at quote (drop 1 (drop (i + 1) letters)))
over_two quote letters text i =
    let same : i + 2 ≡ (i + 1) + 1 = omega arith in
    ap (λ xs. after_read text (i + 2) (quoted_at quote xs)) (ap (λ n. drop n letters) same ∙ sym (drop-drop 1 (i + 1) letters))
