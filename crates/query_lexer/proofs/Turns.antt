-- One step of the reader: over a blank, over a symbol, or to a character that begins none.
use Rattle.std.proofs.Common.{◌≡◌, ℕ, suc, ◌+◌, ◌<◌, List, [], ◌∷◌, ◌++◌, length, get_or, drop, refl, ap, sym, ◌∙◌, true, false, cond, Option, Some, None, append-nil, append_assoc, drop-drop}
use Rattle.std.proofs.lemmas.List.{drop_more}
use Rattle.ft_base.specs.Characters.{is_blank}
use Rattle.query_lexer.specs.declared.lexeme.Lexeme.{Lexeme}
use Rattle.query_lexer.specs.declared.lexeme.Turn.TheVariants.{Passed, Bad}
use Rattle.selection_grammar.specs.declared.symbol.Placed.{Placed}
use Rattle.query_lexer.specs.Symbols.{first_lexeme, nothing_left, before, after_placed, bytes_of_first, with_further, symbols_within, Steps_to}

-- nothing is read without a step
pub no_step : (place : ℕ) (letters : List ℕ) → symbols_within 0 place letters ≡ nothing_left
unfolding symbols_within
no_step place [] = refl
no_step place (c ∷ rest) = refl

pub no_letter : (bound place : ℕ) (letters : List ℕ) → letters ≡ [] → symbols_within bound place letters ≡ nothing_left
unfolding symbols_within
no_letter bound place letters e = ap (symbols_within bound place) e

pub suffix-nothing : (placed : List Placed) → after_placed placed nothing_left ≡ record { placed = placed; bad = None }
suffix-nothing placed = λ i. record { placed = append-nil placed i; bad = None }

blank_or : (bound place c : ℕ) (rest : List ℕ) → symbols_within (suc bound) place (c ∷ rest) ≡ cond (is_blank c) (symbols_within bound (place + 1) rest) (with_further place (c ∷ rest) (symbols_within bound) (first_lexeme (c ∷ rest)))
unfolding symbols_within
blank_or bound place c rest = refl

module _ (letters : List ℕ) (old : List Placed) (next place c : ℕ) (h : next < length letters) (is : c ≡ get_or letters next c) where
  split : drop next letters ≡ c ∷ drop (next + 1) letters
  split = drop_more letters next c h ∙ ap (λ d. d ∷ drop (next + 1) letters) (sym is)

  opened : (bound : ℕ) → symbols_within (suc bound) place (drop next letters) ≡ cond (is_blank c) (symbols_within bound (place + 1) (drop (next + 1) letters)) (with_further place (drop next letters) (symbols_within bound) (first_lexeme (drop next letters)))
  opened bound =
      ap (symbols_within (suc bound) place) split ∙ blank_or bound place c (drop (next + 1) letters)
      ∙ ap (λ xs. cond (is_blank c) (symbols_within bound (place + 1) (drop (next + 1) letters)) (with_further place xs (symbols_within bound) (first_lexeme xs))) (sym split)

  pub blank_turn : is_blank c ≡ true → Steps_to letters old next place old (Passed (next + 1) (place + 1))
  blank_turn b bound =
      ap (after_placed old) (sym (opened bound ∙ ap (λ t. cond t (symbols_within bound (place + 1) (drop (next + 1) letters)) (with_further place (drop next letters) (symbols_within bound) (first_lexeme (drop next letters)))) b))

  not_blank : (found : Option Lexeme) → is_blank c ≡ false → first_lexeme (drop next letters) ≡ found → (bound : ℕ) → symbols_within (suc bound) place (drop next letters) ≡ with_further place (drop next letters) (symbols_within bound) found
  not_blank found b f bound =
      opened bound
      ∙ ap (λ t. cond t (symbols_within bound (place + 1) (drop (next + 1) letters)) (with_further place (drop next letters) (symbols_within bound) (first_lexeme (drop next letters)))) b
      ∙ ap (with_further place (drop next letters) (symbols_within bound)) f

  pub bad_turn : is_blank c ≡ false → first_lexeme (drop next letters) ≡ None → Steps_to letters old next place old Bad
  bad_turn b f bound = sym (ap (after_placed old) (not_blank None b f bound) ∙ (λ i. record { placed = append-nil old i; bad = Some place }))

  pub symbol_turn : (lexeme : Lexeme) (to : ℕ) (new : List Placed) → is_blank c ≡ false → first_lexeme (drop next letters) ≡ Some lexeme → to ≡ place + bytes_of_first lexeme.size (drop next letters)
      → new ≡ old ++ (record { symbol = lexeme.symbol; from = place; to = to }) ∷ [] → Steps_to letters old next place new (Passed (next + lexeme.size) to)
  symbol_turn lexeme to new b f ends added bound =
      let end = place + bytes_of_first lexeme.size (drop next letters) in
      let one : ℕ → Placed = λ n. record { symbol = lexeme.symbol; from = place; to = n } in
      (λ i. after_placed (added i) (symbols_within bound to (drop (next + lexeme.size) letters)))
      ∙ (λ i. record { placed = append_assoc old (one to ∷ []) (symbols_within bound to (drop (next + lexeme.size) letters)).placed i; bad = (symbols_within bound to (drop (next + lexeme.size) letters)).bad })
      ∙ ap (λ xs. after_placed old (before (one to) (symbols_within bound to xs))) (sym (drop-drop lexeme.size next letters))
      ∙ ap (λ n. after_placed old (before (one n) (symbols_within bound n (drop lexeme.size (drop next letters))))) ends
      ∙ ap (after_placed old) (sym (not_blank (Some lexeme) b f bound))
