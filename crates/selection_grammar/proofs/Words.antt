-- What the tests of symbols tell.
use Rattle.std.proofs.Common.{◌≡◌, ℕ, Bool, true, false, cond, List, Option, Some, None, refl, sym, ap, subst}
use Rattle.std.specs.Cmp.Lexicographic.{same_text}
use Rattle.selection_grammar.specs.declared.symbol.Symbol.{Symbol}
use Rattle.selection_grammar.specs.declared.symbol.Symbol.TheVariants as S
use Rattle.selection_grammar.specs.declared.symbol.Placed.{Placed}
use Rattle.selection_grammar.specs.Shapes.{Mark, open_parenthesis, close_parenthesis, open_brace, close_brace, comma, is_word, number_of, text_of, is_mark}

pub word_is : (key : List ℕ) (symbol : Symbol) → is_word key symbol ≡ true → symbol ≡ S.Name key
word_is key (S.Name name) h = ap S.Name (same_text name key (sym h))
word_is key (S.Number n) h = cc
word_is key (S.Text t) h = cc
word_is key S.Slash h = cc
word_is key S.DoubleSlash h = cc
word_is key S.OpenBracket h = cc
word_is key S.CloseBracket h = cc
word_is key S.OpenParenthesis h = cc
word_is key S.CloseParenthesis h = cc
word_is key S.OpenBrace h = cc
word_is key S.CloseBrace h = cc
word_is key S.Comma h = cc
word_is key S.At h = cc
word_is key S.Equals h = cc
word_is key S.Period h = cc
word_is key S.Star h = cc
word_is key S.VerticalBar h = cc

pub number_is : (symbol : Symbol) (n : ℕ) → number_of symbol ≡ Some n → symbol ≡ S.Number n
number_is (S.Number m) n h = let e : m ≡ n = cc in ap S.Number e
number_is other n h = cc

pub text_is : (symbol : Symbol) (s : List ℕ) → text_of symbol ≡ Some s → symbol ≡ S.Text s
text_is (S.Text t) s h = let e : t ≡ s = cc in ap S.Text e
text_is other s h = cc

-- the symbol of a mark
abbrev pub symbol_of : Mark → Symbol
symbol_of open_parenthesis = S.OpenParenthesis
symbol_of close_parenthesis = S.CloseParenthesis
symbol_of open_brace = S.OpenBrace
symbol_of close_brace = S.CloseBrace
symbol_of comma = S.Comma

pub mark_is : (m : Mark) (symbol : Symbol) → is_mark m symbol ≡ true → symbol ≡ symbol_of m
mark_is open_parenthesis S.OpenParenthesis h = refl
mark_is close_parenthesis S.CloseParenthesis h = refl
mark_is open_brace S.OpenBrace h = refl
mark_is close_brace S.CloseBrace h = refl
mark_is comma S.Comma h = refl
mark_is m symbol h = cc

pub is_mark_self : (m : Mark) → is_mark m (symbol_of m) ≡ true
is_mark_self open_parenthesis = refl
is_mark_self close_parenthesis = refl
is_mark_self open_brace = refl
is_mark_self close_brace = refl
is_mark_self comma = refl
