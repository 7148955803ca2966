-- The symbols of a query: names, numbers, strings and marks, with spaces and tabs between.
use Rattle.std.specs.Prelude.{◌≡◌, ◌≤◌, ℕ, zero, suc, ◌+◌, Bool, false, ◌||◌, ◌==◌, if◌then◌else◌, List, [], ◌∷◌, ◌++◌}
use Rattle.std.specs.Prelude.{length, take, drop, Option, Some, None, option_map, encode_utf8, encode_utf8_all, chars}
use Rattle.std.specs.List.{prefix_len}
use Rattle.ft_base.specs.Characters.{is_name_start, is_name_char, is_blank}
use Rattle.ft_base.specs.Letters.{is_digit, number_of, begins_with}
use Rattle.query_lexer.specs.declared.lexeme.Turn.{Turn}
use Rattle.query_lexer.specs.declared.lexeme.Turn.TheVariants.{Passed, Bad}
use Rattle.query_lexer.specs.declared.lexeme.Lexeme.{Lexeme}
use Rattle.query_lexer.specs.declared.lexeme.Quoted.{Quoted}
use Rattle.selection_grammar.specs.declared.symbol.Symbol.{Symbol}
use Rattle.selection_grammar.specs.declared.symbol.Symbol.TheVariants.{Name, Number, Text, Slash, DoubleSlash, OpenBracket, CloseBracket, OpenParenthesis}
use Rattle.selection_grammar.specs.declared.symbol.Symbol.TheVariants.{CloseParenthesis, OpenBrace, CloseBrace, Comma, At, Equals, Period, Star, VerticalBar}
use Rattle.selection_grammar.specs.declared.symbol.Placed.{Placed}
use Rattle.selection_grammar.specs.declared.symbol.Symbols.{Symbols}

-- how many characters at the front pass a test
abbrev pub run_of : (ℕ → Bool) → List ℕ → ℕ
run_of test letters = prefix_len test letters

abbrev pub goes_on_as_name : List ℕ → Bool
goes_on_as_name [] = false
goes_on_as_name (c ∷ rest) = is_name_char c

-- a number, unless a name character stands directly after it
abbrev pub number_at : List ℕ → Option Lexeme
number_at letters = if goes_on_as_name (drop (run_of is_digit letters) letters) then None
    else Some record { symbol = Number (number_of (take (run_of is_digit letters) letters)); size = run_of is_digit letters }

abbrev pub name_at : List ℕ → Option Lexeme
name_at letters = Some record { symbol = Name (encode_utf8_all (take (run_of is_name_char letters) letters)); size = run_of is_name_char letters }

abbrev pub with_letter : ℕ → ℕ → Option Quoted → Option Quoted
with_letter c size rest = option_map (λ quoted. record { text = encode_utf8 c ++ quoted.text; size = size + quoted.size }) rest

-- a string after its opening quote: a doubled quote stands for one, and a single one closes it
abbrev pub quoted_at : ℕ → List ℕ → Option Quoted
quoted_at quote [] = None
quoted_at quote (c ∷ []) = if c == quote then Some record { text = []; size = 1 } else None
quoted_at quote (c ∷ d ∷ rest) =
    if c == quote
    then (if d == quote then with_letter c 2 (quoted_at quote rest) else Some record { text = []; size = 1 })
    else with_letter c 1 (quoted_at quote (d ∷ rest))

abbrev pub string_at : ℕ → List ℕ → Option Lexeme
string_at quote rest = option_map (λ quoted. record { symbol = Text quoted.text; size = quoted.size + 1 }) (quoted_at quote rest)

-- the marks of one character
abbrev pub mark_of : ℕ → Option Symbol
mark_of c =
    if c == 91 then Some OpenBracket else if c == 93 then Some CloseBracket
    else if c == 40 then Some OpenParenthesis else if c == 41 then Some CloseParenthesis
    else if c == 123 then Some OpenBrace else if c == 125 then Some CloseBrace
    else if c == 44 then Some Comma else if c == 64 then Some At
    else if c == 61 then Some Equals else if c == 46 then Some Period
    else if c == 42 then Some Star else if c == 124 then Some VerticalBar
    else None

abbrev pub mark_at : ℕ → Option Lexeme
mark_at c = option_map (λ symbol. record { symbol = symbol; size = 1 }) (mark_of c)

abbrev pub slash_at : List ℕ → Option Lexeme
slash_at rest = if begins_with 47 rest then Some record { symbol = DoubleSlash; size = 2 } else Some record { symbol = Slash; size = 1 }

abbrev pub is_quote : ℕ → Bool
is_quote c = (c == 34) || (c == 39)

abbrev pub is_slash : ℕ → Bool
is_slash c = c == 47

-- the symbol that begins with the first character, the longest one: a name, else a number, else a string, else a mark
abbrev pub first_mark : ℕ → List ℕ → Option Lexeme
first_mark c rest = if is_slash c then slash_at rest else mark_at c

abbrev pub first_string : ℕ → List ℕ → Option Lexeme
first_string c rest = if is_quote c then string_at c rest else first_mark c rest

abbrev pub first_number : ℕ → List ℕ → Option Lexeme
first_number c rest = if is_digit c then number_at (c ∷ rest) else first_string c rest

unfoldable pub first_lexeme : List ℕ → Option Lexeme
first_lexeme [] = None
first_lexeme (c ∷ rest) = if is_name_start c then name_at (c ∷ rest) else first_number c rest

abbrev pub nothing_left : Symbols
nothing_left = record { placed = []; bad = None }

abbrev pub stopped_at : ℕ → Symbols
stopped_at place = record { placed = []; bad = Some place }

-- a symbol before others
abbrev pub before : Placed → Symbols → Symbols
before placed others = record { placed = placed ∷ others.placed; bad = others.bad }

-- the bytes of the first characters
abbrev pub bytes_of_first : ℕ → List ℕ → ℕ
bytes_of_first size letters = length (encode_utf8_all (take size letters))

-- the symbols from a place on, where the first one is known and `further` gives those after it
abbrev pub with_further : ℕ → List ℕ → (ℕ → List ℕ → Symbols) → Option Lexeme → Symbols
with_further place letters further None = stopped_at place
with_further place letters further (Some lexeme) =
    before (record { symbol = lexeme.symbol; from = place; to = place + bytes_of_first lexeme.size letters })
    (further (place + bytes_of_first lexeme.size letters) (drop lexeme.size letters))

-- The symbols of characters that begin at a place: blanks are passed over, a symbol stands before the symbols after it, and
-- a character that begins no symbol ends them. The first argument bounds the number of steps
unfoldable pub symbols_within : ℕ → ℕ → List ℕ → Symbols
symbols_within bound place [] = nothing_left
symbols_within zero place (c ∷ rest) = nothing_left
symbols_within (suc bound) place (c ∷ rest) =
    if is_blank c then symbols_within bound (place + 1) rest else with_further place (c ∷ rest) (symbols_within bound) (first_lexeme (c ∷ rest))

-- the symbols of a text
unfoldable pub symbols_of : List ℕ → Symbols
symbols_of text = symbols_within (length (chars text)) 0 (chars text)

-- symbols that were read, before those that are left
abbrev pub after_placed : List Placed → Symbols → Symbols
after_placed placed others = record { placed = placed ++ others.placed; bad = others.bad }

-- what one step leaves of the text from the character `next` on, which begins at a place
abbrev pub Steps_to : List ℕ → List Placed → ℕ → ℕ → List Placed → Turn → Type 0
Steps_to letters old next place new (Passed next' place') =
    (bound : ℕ)
    → after_placed new (symbols_within bound place' (drop next' letters)) ≡ after_placed old (symbols_within (suc bound) place (drop next letters))
Steps_to letters old next place new Bad =
    (bound : ℕ) → record { placed = new; bad = Some place } ≡ after_placed old (symbols_within (suc bound) place (drop next letters))

-- where a step leads lies in a text of so many bytes, with all characters after it
abbrev pub Stays_within : List ℕ → ℕ → Turn → Type 0
Stays_within letters bytes (Passed next place) = (next ≤ length letters) × (place + length (encode_utf8_all (drop next letters)) ≤ bytes)
Stays_within letters bytes Bad = Unit {0}

-- the symbols of a text from a place on, at which a character begins
unfoldable pub symbols_from : ℕ → List ℕ → Symbols
symbols_from from text = symbols_within (length (chars (drop from text))) from (chars (drop from text))
