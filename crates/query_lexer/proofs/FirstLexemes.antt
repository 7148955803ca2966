-- The first lexeme, by its first character.
use Rattle.std.proofs.Common.{◌≡◌, ℕ, ◌<◌, List, ◌∷◌, length, get_or, drop, ap, sym, ◌∙◌, true, false, cond}
use Rattle.std.proofs.lemmas.List.{drop_more}
use Rattle.ft_base.specs.Characters.{is_name_start}
use Rattle.ft_base.specs.Letters.{is_digit}
use Rattle.query_lexer.specs.Symbols.{is_quote, is_slash, name_at, number_at, string_at, slash_at, mark_at, first_mark, first_string, first_number, first_lexeme}

module _ (letters : List ℕ) (c : ℕ) (h : 0 < length letters) (is : c ≡ get_or letters 0 c) where
  pub parts : letters ≡ c ∷ drop 1 letters
  parts = drop_more letters 0 c h ∙ ap (λ d. d ∷ drop 1 letters) (sym is)

  whole_first : first_lexeme letters ≡ cond (is_name_start c) (name_at letters) (first_number c (drop 1 letters))
  unfolding first_lexeme
  whole_first = ap first_lexeme parts ∙ ap (λ xs. cond (is_name_start c) (name_at xs) (first_number c (drop 1 letters))) (sym parts)

  pub name_first : is_name_start c ≡ true → name_at letters ≡ first_lexeme letters
  name_first n = sym (whole_first ∙ ap (λ b. cond b (name_at letters) (first_number c (drop 1 letters))) n)

  number_or : is_name_start c ≡ false → first_lexeme letters ≡ cond (is_digit c) (number_at letters) (first_string c (drop 1 letters))
  number_or n = whole_first ∙ ap (λ b. cond b (name_at letters) (first_number c (drop 1 letters))) n ∙ ap (λ xs. cond (is_digit c) (number_at xs) (first_string c (drop 1 letters))) (sym parts)

  pub number_first : is_name_start c ≡ false → is_digit c ≡ true → number_at letters ≡ first_lexeme letters
  number_first n d = sym (number_or n ∙ ap (λ b. cond b (number_at letters) (first_string c (drop 1 letters))) d)

  string_or : is_name_start c ≡ false → is_digit c ≡ false → first_lexeme letters ≡ first_string c (drop 1 letters)
  string_or n d = number_or n ∙ ap (λ b. cond b (number_at letters) (first_string c (drop 1 letters))) d

  pub string_first : is_name_start c ≡ false → is_digit c ≡ false → is_quote c ≡ true → string_at c (drop 1 letters) ≡ first_lexeme letters
  string_first n d q = sym (string_or n d ∙ ap (λ b. cond b (string_at c (drop 1 letters)) (first_mark c (drop 1 letters))) q)

  mark_or : is_name_start c ≡ false → is_digit c ≡ false → is_quote c ≡ false → first_lexeme letters ≡ first_mark c (drop 1 letters)
  mark_or n d q = string_or n d ∙ ap (λ b. cond b (string_at c (drop 1 letters)) (first_mark c (drop 1 letters))) q

  pub slash_first : is_name_start c ≡ false → is_digit c ≡ false → is_quote c ≡ false → is_slash c ≡ true → slash_at (drop 1 letters) ≡ first_lexeme letters
  slash_first n d q s = sym (mark_or n d q ∙ ap (λ b. cond b (slash_at (drop 1 letters)) (mark_at c)) s)

  pub mark_first : is_name_start c ≡ false → is_digit c ≡ false → is_quote c ≡ false → is_slash c ≡ false → mark_at c ≡ first_lexeme letters
  mark_first n d q s = sym (mark_or n d q ∙ ap (λ b. cond b (slash_at (drop 1 letters)) (mark_at c)) s)
