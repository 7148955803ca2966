-- As many steps as there are characters are enough: each symbol has a character.
use Rattle.std.proofs.Common.{◌≡◌, ℕ, zero, suc, ◌+◌, ◌≤◌, List, [], ◌∷◌, length, drop, refl, ap, arith, Bool, true, cond, Option, Some, None, length-drop}
use Rattle.std.specs.Prelude.{IfSome, option_map}
use Rattle.std.specs.List.{prefix_len}
use Rattle.std.proofs.lemmas.Bool.{cond_both}
use Rattle.ft_base.specs.Characters.{is_name_start, is_name_char, is_blank}
use Rattle.query_lexer.specs.declared.lexeme.Lexeme.{Lexeme}
use Rattle.query_lexer.specs.declared.lexeme.Quoted.{Quoted}
use Rattle.selection_grammar.specs.declared.symbol.Symbol.{Symbol}
use Rattle.selection_grammar.specs.declared.symbol.Symbol.TheVariants.{Text}
use Rattle.selection_grammar.specs.declared.symbol.Symbols.{Symbols}
use Rattle.ft_base.specs.Letters.{is_digit, begins_with}
use Rattle.ft_base.proofs.CharacterLemmas.{start_is_inside}
use Rattle.query_lexer.specs.Symbols.{run_of, is_quote, is_slash, goes_on_as_name, number_at, name_at, quoted_at, string_at, slash_at, mark_of, mark_at, first_mark, first_string, first_number, first_lexeme, before, bytes_of_first, with_further, symbols_within}

abbrev HasLetter : Option Lexeme → Type 0
HasLetter found = IfSome found (λ lexeme. 1 ≤ lexeme.size)

run_from : (test : ℕ → Bool) (c : ℕ) (rest : List ℕ) → test c ≡ true → 1 ≤ run_of test (c ∷ rest)
run_from test c rest h = let step : run_of test (c ∷ rest) ≡ 1 + run_of test rest = ap (λ b. cond b (1 + prefix_len test rest) 0) h in omega arith

name_letter : (c : ℕ) (rest : List ℕ) → is_name_start c ≡ true → HasLetter (name_at (c ∷ rest))
name_letter c rest h = run_from is_name_char c rest (start_is_inside c h)

number_letter : (c : ℕ) (rest : List ℕ) → is_digit c ≡ true → HasLetter (number_at (c ∷ rest))
number_letter c rest h = cond_both (goes_on_as_name (drop (run_of is_digit (c ∷ rest)) (c ∷ rest))) _ _ HasLetter (λ e. tt) (λ e. run_from is_digit c rest h)

string_letter : (c : ℕ) (rest : List ℕ) → HasLetter (string_at c rest)
string_letter c rest = sized (quoted_at c rest)
  where
    sized : (found : Option Quoted) → HasLetter (option_map (λ quoted. record { symbol = Text quoted.text; size = quoted.size + 1 }) found)
    sized None = tt
    sized (Some quoted) = omega arith

slash_letter : (rest : List ℕ) → HasLetter (slash_at rest)
slash_letter rest = cond_both (begins_with 47 rest) _ _ HasLetter (λ e. omega arith) (λ e. omega arith)

mark_letter : (c : ℕ) → HasLetter (mark_at c)
mark_letter c = sized (mark_of c)
  where
    sized : (found : Option Symbol) → HasLetter (option_map (λ symbol. record { symbol = symbol; size = 1 }) found)
    sized None = tt
    sized (Some symbol) = omega arith

first_letter : (c : ℕ) (rest : List ℕ) → HasLetter (first_lexeme (c ∷ rest))
unfolding first_lexeme
first_letter c rest =
    cond_both (is_name_start c) (name_at (c ∷ rest)) (first_number c rest) HasLetter (name_letter c rest) (λ _.
    cond_both (is_digit c) (number_at (c ∷ rest)) (first_string c rest) HasLetter (number_letter c rest) (λ _.
    cond_both (is_quote c) (string_at c rest) (first_mark c rest) HasLetter (λ _. string_letter c rest) (λ _.
    cond_both (is_slash c) (slash_at rest) (mark_at c) HasLetter (λ _. slash_letter rest) (λ _. mark_letter c))))

same_further : (place : ℕ) (letters : List ℕ) (one two : ℕ → List ℕ → Symbols) (found : Option Lexeme) → HasLetter found → ((to : ℕ) (left : List ℕ) → suc (length left) ≤ length letters → one to left ≡ two to left) → 1 ≤ length letters
    → with_further place letters one found ≡ with_further place letters two found
same_further place letters one two None h same some = refl
same_further place letters one two (Some lexeme) h same some =
    let shorter : suc (length (drop lexeme.size letters)) ≤ length letters = let d = length-drop lexeme.size letters in omega arith in
    ap (before (record { symbol = lexeme.symbol; from = place; to = place + bytes_of_first lexeme.size letters })) (same (place + bytes_of_first lexeme.size letters) (drop lexeme.size letters) shorter)

pub enough_steps : (n m place : ℕ) (letters : List ℕ) → length letters ≤ n → length letters ≤ m → symbols_within n place letters ≡ symbols_within m place letters
unfolding symbols_within
enough_steps n m place [] h k = refl
enough_steps zero m place (c ∷ rest) h k = absurd (omega arith)
enough_steps (suc n) zero place (c ∷ rest) h k = absurd (omega arith)
enough_steps (suc n) (suc m) place (c ∷ rest) h k =
    let blank : symbols_within n (place + 1) rest ≡ symbols_within m (place + 1) rest = enough_steps n m (place + 1) rest (omega arith) (omega arith) in
    let other : with_further place (c ∷ rest) (symbols_within n) (first_lexeme (c ∷ rest)) ≡ with_further place (c ∷ rest) (symbols_within m) (first_lexeme (c ∷ rest)) =
    same_further place (c ∷ rest) (symbols_within n) (symbols_within m) (first_lexeme (c ∷ rest)) (first_letter c rest) (λ to left short. enough_steps n m to left (omega arith) (omega arith)) (omega arith) in
    λ i. cond (is_blank c) (blank i) (other i)
