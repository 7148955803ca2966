-- The strings of a text are texts themselves.
use Rattle.std.proofs.Common.{◌+◌, ℕ, zero, suc, Bool, true, false, cond, eqb, List, [], ◌∷◌, ◌++◌, take, drop, Option, Some, None, refl, ap}
use Rattle.std.specs.Prelude.{option_map, encode_utf8}
use Rattle.ft_base.specs.Characters.{is_name_start, is_blank}
use Rattle.ft_base.specs.Letters.{is_digit, number_of, begins_with}
use Rattle.query_lexer.specs.Symbols.{first_lexeme, first_number, first_string, first_mark, name_at, number_at, string_at, slash_at, mark_at, mark_of, quoted_at, with_letter, is_quote, is_slash, goes_on_as_name, run_of, bytes_of_first, with_further, symbols_within}
use Rattle.selection_grammar.specs.declared.symbol.Placed.{Placed}
use Rattle.selection_grammar.specs.declared.symbol.Symbol.{Symbol}
use Rattle.selection_grammar.specs.declared.symbol.Symbol.TheVariants as S
use Rattle.selection_grammar.specs.declared.symbol.Symbols.{Symbols}
use Rattle.selection_round_trip.specs.Printable.{IsEncoded}
use Rattle.selection_round_trip.proofs.Known.{Content}

abbrev pub AllContent : List Placed → Type 0
AllContent [] = Unit {0}
AllContent (p ∷ rest) = Content p.symbol × AllContent rest

-- what is read of a string, and of a symbol
abbrev Held : {A : Type 0} → Option A → Type 0
Held {A} o = A

abbrev Quoted : Type 0
Quoted = Held (quoted_at 34 [])

abbrev Lexeme : Type 0
Lexeme = Held (first_lexeme [])

-- a string
abbrev QuotedText : Option Quoted → Type 0
QuotedText None = Unit {0}
QuotedText (Some quoted) = IsEncoded quoted.text

by_quoted : (b : Bool) (x y : Option Quoted) → QuotedText x → QuotedText y → QuotedText (cond b x y)
by_quoted true x y h k = h
by_quoted false x y h k = k

letter_text : (c size : ℕ) (q : Option Quoted) → QuotedText q → QuotedText (with_letter c size q)
letter_text c size None h = tt
letter_text c size (Some quoted) h = (c ∷ h.0, ap (λ w. encode_utf8 c ++ w) h.1)

no_text : IsEncoded []
no_text = ([], refl)

quoted_text : (quote : ℕ) (letters : List ℕ) → QuotedText (quoted_at quote letters)
quoted_text quote [] = tt
quoted_text quote (c ∷ []) = by_quoted (eqb c quote) (Some record { text = []; size = 1 }) None no_text tt
quoted_text quote (c ∷ d ∷ rest) =
    by_quoted (eqb c quote) (cond (eqb d quote) (with_letter c 2 (quoted_at quote rest)) (Some record { text = []; size = 1 })) (with_letter c 1 (quoted_at quote (d ∷ rest)))
    (by_quoted (eqb d quote) (with_letter c 2 (quoted_at quote rest)) (Some record { text = []; size = 1 }) (letter_text c 2 (quoted_at quote rest) (quoted_text quote rest)) no_text)
    (letter_text c 1 (quoted_at quote (d ∷ rest)) (quoted_text quote (d ∷ rest)))

-- the first symbol
abbrev FirstContent : Option Lexeme → Type 0
FirstContent None = Unit {0}
FirstContent (Some lexeme) = Content lexeme.symbol

by_first : (b : Bool) (x y : Option Lexeme) → FirstContent x → FirstContent y → FirstContent (cond b x y)
by_first true x y h k = h
by_first false x y h k = k

string_content : (quote : ℕ) (rest : List ℕ) → FirstContent (string_at quote rest)
string_content quote rest = go (quoted_at quote rest) (quoted_text quote rest)
  where
    go : (q : Option Quoted) → QuotedText q → FirstContent (option_map (λ (quoted : Quoted). record { symbol = S.Text quoted.text; size = quoted.size + 1 }) q)
    go None k = tt
    go (Some quoted) k = k

number_content : (letters : List ℕ) → FirstContent (number_at letters)
number_content letters = by_first (goes_on_as_name (drop (run_of is_digit letters) letters)) None (Some record { symbol = S.Number (number_of (take (run_of is_digit letters) letters)); size = run_of is_digit letters }) tt tt

slash_content : (rest : List ℕ) → FirstContent (slash_at rest)
slash_content rest = by_first (begins_with 47 rest) (Some record { symbol = S.DoubleSlash; size = 2 }) (Some record { symbol = S.Slash; size = 1 }) tt tt

-- marks hold no text
abbrev MarkContent : Option Symbol → Type 0
MarkContent None = Unit {0}
MarkContent (Some symbol) = Content symbol

either_mark : (c m : ℕ) (s : Symbol) (other : Option Symbol) → Content s → MarkContent other → MarkContent (cond (eqb c m) (Some s) other)
either_mark c m s other h k = go (eqb c m)
  where
    go : (b : Bool) → MarkContent (cond b (Some s) other)
    go true = h
    go false = k

mark_symbol : (c : ℕ) → MarkContent (mark_of c)
mark_symbol c =
    either_mark c 91 S.OpenBracket _ tt (either_mark c 93 S.CloseBracket _ tt (either_mark c 40 S.OpenParenthesis _ tt (either_mark c 41 S.CloseParenthesis _ tt
    (either_mark c 123 S.OpenBrace _ tt (either_mark c 125 S.CloseBrace _ tt (either_mark c 44 S.Comma _ tt (either_mark c 64 S.At _ tt
    (either_mark c 61 S.Equals _ tt (either_mark c 46 S.Period _ tt (either_mark c 42 S.Star _ tt (either_mark c 124 S.VerticalBar None tt tt)))))))))))

mark_content : (c : ℕ) → FirstContent (mark_at c)
mark_content c = go (mark_of c) (mark_symbol c)
  where
    go : (o : Option Symbol) → MarkContent o → FirstContent (option_map (λ (symbol : Symbol). record { symbol = symbol; size = 1 }) o)
    go None k = tt
    go (Some s) k = k

first_content : (letters : List ℕ) → FirstContent (first_lexeme letters)
unfolding first_lexeme
first_content [] = tt
first_content (c ∷ rest) =
    by_first (is_name_start c) (name_at (c ∷ rest)) (first_number c rest) tt
    (by_first (is_digit c) (number_at (c ∷ rest)) (first_string c rest) (number_content (c ∷ rest))
    (by_first (is_quote c) (string_at c rest) (first_mark c rest) (string_content c rest)
    (by_first (is_slash c) (slash_at rest) (mark_at c) (slash_content rest) (mark_content c))))

-- all symbols
pub all_contents : (bound place : ℕ) (letters : List ℕ) → AllContent (symbols_within bound place letters).placed
unfolding symbols_within
all_contents bound place [] = tt
all_contents zero place (c ∷ rest) = tt
all_contents (suc bound) place (c ∷ rest) =
    by_blank (is_blank c) (symbols_within bound (place + 1) rest) (with_further place (c ∷ rest) (symbols_within bound) (first_lexeme (c ∷ rest)))
    (all_contents bound (place + 1) rest)
    (by_symbol (first_lexeme (c ∷ rest)) (first_content (c ∷ rest)) (λ n. all_contents bound (place + bytes_of_first n (c ∷ rest)) (drop n (c ∷ rest))))
  where
    by_blank : (b : Bool) (x y : Symbols) → AllContent x.placed → AllContent y.placed → AllContent (cond b x y).placed
    by_blank true x y k l = k
    by_blank false x y k l = l

    by_symbol : (o : Option Lexeme) → FirstContent o → ((n : ℕ) → AllContent (symbols_within bound (place + bytes_of_first n (c ∷ rest)) (drop n (c ∷ rest))).placed) → AllContent (with_further place (c ∷ rest) (symbols_within bound) o).placed
    by_symbol None k l = tt
    by_symbol (Some lexeme) k l = (k, l lexeme.size)
