-- The grammar of selections over symbols with their places: which symbols spell which selection
-- (XQuery and XPath Full Text 3.0, section 3; the part of its grammar that is read here).
use Rattle.std.specs.Prelude.{ℕ, Bool, true, false, if◌then◌else◌, List, [], ◌∷◌, ◌++◌, Option, Some, None, codes}
use Rattle.ft_base.specs.declared.range.Range.{Range}
use Rattle.ft_base.specs.declared.filter.Filter.{Filter}
use Rattle.ft_base.specs.declared.words.Mode.{Mode}
use Rattle.ft_base.specs.declared.words.Mode.TheVariants as M
use Rattle.ft_base.specs.declared.options.StopChoice.TheVariants.{Sets}
use Rattle.ft_base.specs.declared.options.StopTerm.{StopTerm}
use Rattle.ft_base.specs.declared.options.StopSource.{StopSource}
use Rattle.ft_base.specs.declared.options.StopSource.TheVariants.{At, Written}
use Rattle.ft_base.specs.declared.options.ThesaurusChoice.TheVariants.{Uses}
use Rattle.ft_base.specs.declared.options.ThesaurusUse.{ThesaurusUse}
use Rattle.selection_grammar.specs.declared.symbol.Symbol.{Symbol}
use Rattle.selection_grammar.specs.declared.symbol.Symbol.TheVariants as S
use Rattle.selection_grammar.specs.declared.symbol.Placed.{Placed}
use Rattle.selection_grammar.specs.declared.parsed.MatchOption.TheVariants as O
use Rattle.selection_grammar.specs.declared.parsed.PlacedString.{PlacedString}
use Rattle.selection_grammar.specs.declared.parsed.PlacedOption.{PlacedOption}
use Rattle.selection_grammar.specs.declared.parsed.PlacedTimes.{PlacedTimes}
use Rattle.selection_grammar.specs.Shapes.{Spelled}
use Rattle.selection_grammar.specs.Keywords.{filters, times, levels, plain_option, given}
use Rattle.selection_grammar.specs.Tree as tree
use Rattle.selection_grammar.specs.Tree.{Tree, or_of, and_of, mild_not, joined, Primary, phrases, inner, optioned, negated}

-- where a symbol stands: its place, and the place after it
abbrev pub Spot : Type 0
Spot = ℕ × ℕ

abbrev pub at : Spot → Symbol → Placed
at p symbol = record { symbol = symbol; from = p.0; to = p.1 }

abbrev pub name : Spot → List ℕ → Placed
name p text = at p (S.Name text)

abbrev pub string : Spot → List ℕ → Placed
string p text = at p (S.Text text)

abbrev pub placed : Spot → List ℕ → PlacedString
placed p text = record { at = p.0; text = text }

abbrev pub text_of : PlacedString → List ℕ
text_of s = s.text

abbrev pub texts_of : List PlacedString → List (List ℕ)
texts_of [] = []
texts_of (s ∷ rest) = s.text ∷ texts_of rest

-- String ("," String)*
pub data Strings : List Placed → List PlacedString → Type 0 where
  first : (p : Spot) (s : List ℕ) → Strings (string p s ∷ []) (placed p s ∷ [])
  further : {u : List Placed} {xs : List PlacedString} → Strings u xs → (p q : Spot) (s : List ℕ)
      → Strings (u ++ at p S.Comma ∷ string q s ∷ []) (xs ++ placed q s ∷ [])

-- Value ::= String | "{" String ("," String)* "}"
pub data Value : List Placed → List PlacedString → Type 0 where
  one : (p : Spot) (s : List ℕ) → Value (string p s ∷ []) (placed p s ∷ [])
  several : {u : List Placed} {xs : List PlacedString} (p : Spot) → Strings u xs → (q : Spot) → Value (at p S.OpenBrace ∷ u ++ at q S.CloseBrace ∷ []) xs

-- ("any" "word"? | "all" "words"? | "phrase")?
pub data Moded : List Placed → Mode → Type 0 where
  unwritten : Moded [] M.Any
  any : (p : Spot) → Moded (name p (codes "any") ∷ []) M.Any
  any_word : (p q : Spot) → Moded (name p (codes "any") ∷ name q (codes "word") ∷ []) M.AnyWord
  all : (p : Spot) → Moded (name p (codes "all") ∷ []) M.All
  all_words : (p q : Spot) → Moded (name p (codes "all") ∷ name q (codes "words") ∷ []) M.AllWords
  phrase : (p : Spot) → Moded (name p (codes "phrase") ∷ []) M.Phrase

-- ("occurs" Range "times")?
pub data Timed : List Placed → Option PlacedTimes → Type 0 where
  always : Timed [] None
  some : {u : List Placed} {t : PlacedTimes} → Spelled times u t → Timed u (Some t)

-- "at" String ("relationship" String)?
pub data Named : List Placed → List ℕ → Option (List ℕ) → Type 0 where
  plain : (p q : Spot) (s : List ℕ) → Named (name p (codes "at") ∷ string q s ∷ []) s None
  related : (p q r t : Spot) (s relationship : List ℕ)
      → Named (name p (codes "at") ∷ string q s ∷ name r (codes "relationship") ∷ string t relationship ∷ []) s (Some relationship)

-- Thes ::= "at" String ("relationship" String)? (Range "levels")?
pub data Thesaurus : List Placed → ThesaurusUse → Type 0 where
  all_levels : {u : List Placed} {s : List ℕ} {r : Option (List ℕ)} → Named u s r → Thesaurus u (record { name = s; relationship = r; levels = None })
  some_levels : {u v : List Placed} {s : List ℕ} {r : Option (List ℕ)} {range : Range} → Named u s r → Spelled levels v range
      → Thesaurus (u ++ v) (record { name = s; relationship = r; levels = Some range })

-- Thes ("," Thes)*
pub data Thesauri : List Placed → List ThesaurusUse → Type 0 where
  first : {u : List Placed} {x : ThesaurusUse} → Thesaurus u x → Thesauri u (x ∷ [])
  further : {u v : List Placed} {xs : List ThesaurusUse} {x : ThesaurusUse} → Thesauri u xs → (p : Spot) → Thesaurus v x
      → Thesauri (u ++ at p S.Comma ∷ v) (xs ++ x ∷ [])

-- Stop ::= "at" String | "(" String ("," String)* ")"
pub data Source : List Placed → StopSource → Type 0 where
  list : (p q : Spot) (s : List ℕ) → Source (name p (codes "at") ∷ string q s ∷ []) (At s)
  written : {u : List Placed} {xs : List PlacedString} (p : Spot) → Strings u xs → (q : Spot)
      → Source (at p S.OpenParenthesis ∷ u ++ at q S.CloseParenthesis ∷ []) (Written (texts_of xs))

-- whether words are added to the stop words, or taken away
abbrev pub joint : Bool → List ℕ
joint except = if except then codes "except" else codes "union"

-- Stop (("union" | "except") Stop)*
pub data Terms : List Placed → List StopTerm → Type 0 where
  first : {u : List Placed} {x : StopSource} → Source u x → Terms u (record { except = false; source = x } ∷ [])
  further : {u v : List Placed} {xs : List StopTerm} {x : StopSource} → Terms u xs → (p : Spot) (except : Bool) → Source v x
      → Terms (u ++ name p (joint except) ∷ v) (xs ++ record { except = except; source = x } ∷ [])

-- Option ::= "using" (.. | "thesaurus" (Thes | "(" Thes ("," Thes)* ")") | "stop" "words" Stop (("union" | "except") Stop)*)
pub data Given : List Placed → PlacedOption → Type 0 where
  plain : {u : List Placed} {o : PlacedOption} (p : Spot) → Spelled (plain_option p.0) u o → Given (name p (codes "using") ∷ u) o
  thesaurus : {u : List Placed} {x : ThesaurusUse} (p q : Spot) → Thesaurus u x
      → Given (name p (codes "using") ∷ name q (codes "thesaurus") ∷ u) (given p.0 (O.Thesaurus (Uses (x ∷ []))))
  thesauri : {u : List Placed} {xs : List ThesaurusUse} (p q r : Spot) → Thesauri u xs → (t : Spot)
      → Given (name p (codes "using") ∷ name q (codes "thesaurus") ∷ at r S.OpenParenthesis ∷ u ++ at t S.CloseParenthesis ∷ [])
      (given p.0 (O.Thesaurus (Uses xs)))
  stop_words : {u : List Placed} {xs : List StopTerm} (p q r : Spot) → Terms u xs
      → Given (name p (codes "using") ∷ name q (codes "stop") ∷ name r (codes "words") ∷ u) (given p.0 (O.StopWords (Sets xs)))

-- Option*
pub data Options : List Placed → List PlacedOption → Type 0 where
  none : Options [] []
  further : {u v : List Placed} {os : List PlacedOption} {o : PlacedOption} → Options u os → Given v o → Options (u ++ v) (os ++ o ∷ [])

-- "ftnot"?
pub data Negation : List Placed → Option ℕ → Type 0 where
  none : Negation [] None
  some : (p : Spot) → Negation (name p (codes "ftnot") ∷ []) (Some p.0)

mutual
  -- Primary ::= Value .. ("occurs" Range "times")? | "(" Selection ")"
  pub data Operand : List Placed → Primary → Type 0 where
    words : {u v w : List Placed} {xs : List PlacedString} {mode : Mode} {t : Option PlacedTimes} → Value u xs → Moded v mode → Timed w t
        → Operand (u ++ v ++ w) (phrases xs mode t)
    parentheses : {u : List Placed} {x : Tree} (p : Spot) → Selection u x → (q : Spot)
        → Operand (at p S.OpenParenthesis ∷ u ++ at q S.CloseParenthesis ∷ []) (inner x)

  -- Unary ::= "ftnot"? Primary Option*
  pub data Unary : List Placed → Tree → Type 0 where
    unary : {u v w : List Placed} {n : Option ℕ} {x : Primary} {os : List PlacedOption} → Negation u n → Operand v x → Options w os
        → Unary (u ++ v ++ w) (negated n (optioned x os))

  -- Mild ::= Unary ("not" "in" Unary)*, grouped to the left
  pub data Mild : List Placed → Tree → Type 0 where
    first_mild : {u : List Placed} {x : Tree} → Unary u x → Mild u x
    further_mild : {u v : List Placed} {x y : Tree} → Mild u x → (p q : Spot) → Unary v y
        → Mild (u ++ name p (codes "not") ∷ name q (codes "in") ∷ v) (mild_not x y)

  -- And ::= Mild ("ftand" Mild)*
  pub data Ands : List Placed → List Tree → Type 0 where
    first_and : {u : List Placed} {x : Tree} → Mild u x → Ands u (x ∷ [])
    further_and : {u v : List Placed} {xs : List Tree} {x : Tree} → Ands u xs → (p : Spot) → Mild v x → Ands (u ++ name p (codes "ftand") ∷ v) (xs ++ x ∷ [])

  -- Or ::= And ("ftor" And)*
  pub data Ors : List Placed → List Tree → Type 0 where
    first_or : {u : List Placed} {xs : List Tree} → Ands u xs → Ors u (joined and_of xs ∷ [])
    further_or : {u v : List Placed} {xs ys : List Tree} → Ors u xs → (p : Spot) → Ands v ys
        → Ors (u ++ name p (codes "ftor") ∷ v) (xs ++ joined and_of ys ∷ [])

  -- Selection ::= Or Filter*, applied from left to right
  pub data Selection : List Placed → Tree → Type 0 where
    plain : {u : List Placed} {xs : List Tree} → Ors u xs → Selection u (joined or_of xs)
    filtered : {u v : List Placed} {x : Tree} {f : Filter} → Selection u x → Spelled filters v f → Selection (u ++ v) (tree.filtered x f)
