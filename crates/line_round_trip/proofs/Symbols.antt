-- The symbols of a line, one after the other.
use Rattle.std.proofs.Common.{◌≡◌, ◌∙◌, sym, ap, refl, ℕ, suc, zero, ◌+◌, ◌≤◌, Bool, true, false, cond, ◌==◌, List, [], ◌∷◌, ◌++◌, length, flat_map, Some, None, arith}
use Rattle.std.specs.Prelude.{chars, codes, encode_utf8_all}
use Rattle.std.specs.Fmt.{decimal}
use Rattle.std.specs.List.{list_all}
use Rattle.std.proofs.lemmas.Bool.{eqb-true}
use Rattle.ft_base.specs.Characters.{is_name_char, is_name_start}
use Rattle.ft_base.specs.Letters.{begins_with}
use Rattle.ft_base.specs.Limits.{max_number}
use Rattle.ft_syntax.specs.OptionSymbols.{in_quotes, string_symbol}
use Rattle.selection_grammar.specs.Grammar.{at, name, string}
use Rattle.selection_grammar.specs.declared.symbol.Placed.{Placed}
use Rattle.selection_grammar.specs.declared.symbol.Symbol.TheVariants as S
use Rattle.selection_grammar.specs.declared.symbol.Symbols.{Symbols}
use Rattle.query_lexer.specs.Symbols.{before, first_lexeme, goes_on_as_name, symbols_of, symbols_within, with_further}
use Rattle.selection_round_trip.specs.Strings.{with_string, with_symbol}
use Rattle.element_lines.specs.LocationSteps.{Step}
use Rattle.line_round_trip.proofs.Letters.{AreReadable, IsReadable, line_letters, step_letters, steps_letters}

-- where the symbols of a step begin: the name, the opening bracket, the number, the closing one; and where what is after the step does
abbrev pub name_place : ℕ → Step → ℕ
name_place place s = place + 1

abbrev pub open_place : ℕ → Step → ℕ
open_place place s = name_place place s + length s.name

abbrev pub number_place : ℕ → Step → ℕ
number_place place s = open_place place s + 1

abbrev pub close_place : ℕ → Step → ℕ
close_place place s = number_place place s + length (decimal s.number)

abbrev pub after_step : ℕ → Step → ℕ
after_step place s = close_place place s + 1

abbrev pub step_placed : ℕ → Step → List Placed
step_placed place s =
    at (place, place + 1) S.Slash
    ∷ name (name_place place s, name_place place s + length s.name) s.name
    ∷ at (open_place place s, open_place place s + 1) S.OpenBracket
    ∷ at (number_place place s, number_place place s + length (decimal s.number)) (S.Number s.number)
    ∷ at (close_place place s, close_place place s + 1) S.CloseBracket
    ∷ []

abbrev pub steps_placed : ℕ → List Step → List Placed
steps_placed place [] = []
steps_placed place (s ∷ steps) = step_placed place s ++ steps_placed (after_step place s) steps

abbrev pub root_placed : List ℕ → List Placed
root_placed document =
    name (0, 3) (codes "doc")
    ∷ at (3, 4) S.OpenParenthesis
    ∷ string (4, 4 + length (string_symbol document)) document
    ∷ at (4 + length (string_symbol document), 4 + length (string_symbol document) + 1) S.CloseParenthesis
    ∷ []

abbrev pub after_root : List ℕ → ℕ
after_root document = 4 + length (string_symbol document) + 1

abbrev pub line_placed : List ℕ → List Step → List Placed
line_placed document steps = root_placed document ++ steps_placed (after_root document) steps

-- as many further steps as symbols are read
abbrev room : List Step → ℕ → ℕ
room [] more = more
room (s ∷ steps) more = suc (suc (suc (suc (suc (room steps more)))))

more-room : (steps : List Step) (more : ℕ) → more ≤ room steps more
more-room [] more = omega arith
more-room (s ∷ steps) more = omega (arith, more-room steps more)

-- ---- marks

not-slash : (c : ℕ) → is_name_start c ≡ true → (c == 47) ≡ false
unfolding is_name_start
not-slash c h = by (c == 47) refl
  where
    by : (b : Bool) → (c == 47) ≡ b → (c == 47) ≡ false
    by true is = let two : is_name_start 47 ≡ true = ap is_name_start (sym (eqb-true c 47 is)) ∙ h in cc
    by false is = is

slash-read : (bound place c : ℕ) (rest : List ℕ) → (c == 47) ≡ false
    → symbols_within (suc bound) place (47 ∷ c ∷ rest) ≡ before (at (place, place + 1) S.Slash) (symbols_within bound (place + 1) (c ∷ rest))
unfolding symbols_within first_lexeme is_name_start lib.Utf8.encode
slash-read bound place c rest other =
    ap (λ b. with_further place (47 ∷ c ∷ rest) (symbols_within bound) (cond b (Some record { symbol = S.DoubleSlash; size = 2 }) (Some record { symbol = S.Slash; size = 1 }))) other

open-read : (bound place : ℕ) (rest : List ℕ)
    → symbols_within (suc bound) place (91 ∷ rest) ≡ before (at (place, place + 1) S.OpenBracket) (symbols_within bound (place + 1) rest)
unfolding symbols_within first_lexeme is_name_start lib.Utf8.encode
open-read bound place rest = refl

close-read : (bound place : ℕ) (rest : List ℕ)
    → symbols_within (suc bound) place (93 ∷ rest) ≡ before (at (place, place + 1) S.CloseBracket) (symbols_within bound (place + 1) rest)
unfolding symbols_within first_lexeme is_name_start lib.Utf8.encode
close-read bound place rest = refl

parenthesis-read : (bound place : ℕ) (rest : List ℕ)
    → symbols_within (suc bound) place (40 ∷ rest) ≡ before (at (place, place + 1) S.OpenParenthesis) (symbols_within bound (place + 1) rest)
unfolding symbols_within first_lexeme is_name_start lib.Utf8.encode
parenthesis-read bound place rest = refl

closed-read : (bound place : ℕ) (rest : List ℕ)
    → symbols_within (suc bound) place (41 ∷ rest) ≡ before (at (place, place + 1) S.CloseParenthesis) (symbols_within bound (place + 1) rest)
unfolding symbols_within first_lexeme is_name_start lib.Utf8.encode
closed-read bound place rest = refl

bracket-apart : (rest : List ℕ) → goes_on_as_name (91 ∷ rest) ≡ false
unfolding is_name_char is_name_start
bracket-apart rest = refl

closing-apart : (rest : List ℕ) → goes_on_as_name (93 ∷ rest) ≡ false
unfolding is_name_char is_name_start
closing-apart rest = refl

parenthesis-apart : (rest : List ℕ) → goes_on_as_name (40 ∷ rest) ≡ false
unfolding is_name_char is_name_start
parenthesis-apart rest = refl

none-left : (bound place : ℕ) → symbols_within bound place [] ≡ record { placed = []; bad = None }
unfolding symbols_within
none-left zero place = refl
none-left (suc bound) place = refl

-- ---- all of them, where strings, names and numbers are read as they are printed

abbrev pub StringsRead : Type 0
StringsRead = (bound place : ℕ) (letters rest : List ℕ) → begins_with 34 rest ≡ false
    → symbols_within (suc bound) place (34 ∷ flat_map in_quotes letters ++ 34 ∷ rest) ≡ with_string bound place (encode_utf8_all letters) rest

abbrev pub NamesRead : Type 0
NamesRead = (bound place first : ℕ) (letters rest : List ℕ) → is_name_start first ≡ true → list_all is_name_char letters ≡ true → goes_on_as_name rest ≡ false
    → symbols_within (suc bound) place (first ∷ letters ++ rest)
    ≡ with_symbol bound place (S.Name (encode_utf8_all (first ∷ letters))) (encode_utf8_all (first ∷ letters)) rest

abbrev pub NumbersRead : Type 0
NumbersRead = (bound place number : ℕ) (rest : List ℕ) → number ≤ max_number → goes_on_as_name rest ≡ false
    → symbols_within (suc bound) place (decimal number ++ rest) ≡ with_symbol bound place (S.Number number) (decimal number) rest

module _ (strings : StringsRead) (names : NamesRead) (numbers : NumbersRead) where
  step-read : (s : Step) (h : IsReadable s) (bound place : ℕ) (rest : List ℕ)
      → symbols_within (suc (suc (suc (suc (suc bound))))) place (step_letters s h rest)
      ≡ record {
        placed = step_placed place s ++ (symbols_within bound (after_step place s) rest).placed;
        bad = (symbols_within bound (after_step place s) rest).bad;
      }
  step-read s h bound place rest =
      let slash = at (place, place + 1) S.Slash in
      let tag = name (name_place place s, name_place place s + length s.name) s.name in
      let open' = at (open_place place s, open_place place s + 1) S.OpenBracket in
      let number = at (number_place place s, number_place place s + length (decimal s.number)) (S.Number s.number) in
      let back = 91 ∷ decimal s.number ++ (93 ∷ rest) in
      slash-read (suc (suc (suc (suc bound)))) place h.0.start (h.0.rest ++ back) (not-slash h.0.start h.0.starts)
      ∙ ap (before slash) (
      names (suc (suc (suc bound))) (name_place place s) h.0.start h.0.rest back h.0.starts h.0.inside (bracket-apart (decimal s.number ++ (93 ∷ rest)))
      ∙ ap (λ w. with_symbol (suc (suc (suc bound))) (name_place place s) (S.Name w) w back) h.0.are
      ∙ ap (before tag) (
      open-read (suc (suc bound)) (open_place place s) (decimal s.number ++ (93 ∷ rest))
      ∙ ap (before open') (
      numbers (suc bound) (number_place place s) s.number (93 ∷ rest) h.1 (closing-apart rest)
      ∙ ap (before number) (close-read bound (close_place place s) rest)
      )
      )
      )

  steps-read : (steps : List Step) (h : AreReadable steps) (more place : ℕ)
      → symbols_within (room steps more) place (steps_letters steps h) ≡ record { placed = steps_placed place steps; bad = None }
  steps-read [] h more place = none-left more place
  steps-read (s ∷ steps) h more place =
      step-read s h.0 (room steps more) place (steps_letters steps h.1)
      ∙ ap (λ (others : Symbols). record { placed = step_placed place s ++ others.placed; bad = others.bad }) (steps-read steps h.1 more (after_step place s))

  root-read : (letters document : List ℕ) → encode_utf8_all letters ≡ document → (bound : ℕ) (rest : List ℕ)
      → symbols_within (suc (suc (suc (suc bound)))) 0 (100 ∷ 111 ∷ 99 ∷ 40 ∷ 34 ∷ flat_map in_quotes letters ++ (34 ∷ 41 ∷ rest))
      ≡ record {
        placed = root_placed document ++ (symbols_within bound (after_root document) rest).placed;
        bad = (symbols_within bound (after_root document) rest).bad;
      }
  unfolding is_name_char is_name_start lib.Utf8.encode
  root-read letters document is bound rest =
      let quoted = 34 ∷ flat_map in_quotes letters ++ (34 ∷ 41 ∷ rest) in
      let word = string (4, 4 + length (string_symbol document)) document in
      names (suc (suc (suc bound))) 0 100 (111 ∷ 99 ∷ []) (40 ∷ quoted) refl refl (parenthesis-apart quoted)
      ∙ ap (before (name (0, 3) (codes "doc"))) (
      parenthesis-read (suc (suc bound)) 3 quoted
      ∙ ap (before (at (3, 4) S.OpenParenthesis)) (
      strings (suc bound) 4 letters (41 ∷ rest) refl
      ∙ ap (λ w. with_string (suc bound) 4 w (41 ∷ rest)) is
      ∙ ap (before word) (closed-read bound (4 + length (string_symbol document)) rest)
      )
      )

  pub line-read : ((steps place : ℕ) (letters : List ℕ) → length letters ≤ steps → symbols_within steps place letters ≡ symbols_within (length letters) place letters)
      → (letters document text : List ℕ) → encode_utf8_all letters ≡ document → (steps : List Step) (h : AreReadable steps)
      → chars text ≡ line_letters letters steps h
      → symbols_of text ≡ record { placed = line_placed document steps; bad = None }
  unfolding symbols_of
  line-read enough letters document text is steps h are =
      let all = line_letters letters steps h in
      let more = length all in
      let after = steps_letters steps h in
      ap (λ w. symbols_within (length w) 0 w) are
      ∙ sym (enough (suc (suc (suc (suc (room steps more))))) 0 all (omega (arith, more-room steps more)))
      ∙ root-read letters document is (room steps more) after
      ∙ ap (λ (others : Symbols). record { placed = root_placed document ++ others.placed; bad = others.bad }) (steps-read steps h more (after_root document))
