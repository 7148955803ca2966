-- The symbols that printed forms have, and what their text is read as.
use Rattle.std.specs.Prelude.{◌≡◌, ◌≤◌, ℕ, Bool, true, false, nat_le, ◌&&◌, List, [], ◌∷◌, None, encode_utf8_all}
use Rattle.std.specs.List.{list_all}
use Rattle.ft_base.specs.Limits.{max_number}
use Rattle.query_lexer.specs.Symbols.{symbols_of}
use Rattle.selection_grammar.specs.declared.symbol.Placed.{Placed}
use Rattle.selection_grammar.specs.declared.symbol.Symbol.{Symbol}
use Rattle.selection_grammar.specs.declared.symbol.Symbol.TheVariants as S
use Rattle.selection_round_trip.specs.Places.{symbols_in}

abbrev pub is_small_letter : ℕ → Bool
is_small_letter c = nat_le 97 c && nat_le c 122

-- keywords are written in small letters
abbrev pub is_keyword : List ℕ → Bool
is_keyword [] = false
is_keyword (c ∷ rest) = list_all is_small_letter (c ∷ rest)

-- bytes that encode some characters, as those of every text do
abbrev pub IsEncoded : List ℕ → Type 0
IsEncoded bytes = (letters : List ℕ) × (encode_utf8_all letters ≡ bytes)

-- keywords, numbers within the limit, texts, and the marks that selections have
abbrev pub Printable : Symbol → Type 0
Printable (S.Name name) = is_keyword name ≡ true
Printable (S.Number n) = n ≤ max_number
Printable (S.Text text) = IsEncoded text
Printable S.OpenParenthesis = Unit {0}
Printable S.CloseParenthesis = Unit {0}
Printable S.OpenBrace = Unit {0}
Printable S.CloseBrace = Unit {0}
Printable S.Comma = Unit {0}
Printable other = ⊥

abbrev pub AllPrintable : List Placed → Type 0
AllPrintable [] = Unit {0}
AllPrintable (p ∷ rest) = Printable p.symbol × AllPrintable rest

-- The symbols of a text are these, each at its place there, and nothing else stands in the text.
pub record HasSymbols (text : List ℕ) (symbols : List Symbol) : Type 0 where
  pub placed : List Placed
  pub all : symbols_of text ≡ record { placed = placed; bad = None }
  pub are : symbols_in placed ≡ symbols
