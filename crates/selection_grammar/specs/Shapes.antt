-- Shapes: which symbols may stand next, and where each of them leads. A shape with an end in every branch is a grammar without recursion,
-- written as it is read from left to right.
use Rattle.std.specs.Prelude.{◌≡◌, ℕ, suc, Bool, true, false, nat_eq, if◌then◌else◌, List, [], ◌∷◌, ◌++◌, drop, Option, Some, None}
use Rattle.std.specs.Cmp.Lexicographic.{pointwise}
use Rattle.selection_grammar.specs.declared.symbol.Symbol.{Symbol}
use Rattle.selection_grammar.specs.declared.symbol.Symbol.TheVariants as S
use Rattle.selection_grammar.specs.declared.symbol.Placed.{Placed}

-- the marks that selections have
pub data Mark : Type 0 where
  open_parenthesis : Mark
  close_parenthesis : Mark
  open_brace : Mark
  close_brace : Mark
  comma : Mark

-- Where a choice has several branches, the first one that takes the symbol counts.
pub data Shape (A : Type 0) : Type 0 where
  -- the end, and what was spelled
  whole : A → Shape A
  -- no further branch
  nothing : Shape A
  -- a keyword, at a place
  word : List ℕ → (ℕ → Shape A) → Shape A → Shape A
  -- a number
  number : (ℕ → Shape A) → Shape A → Shape A
  -- a string, at the place of its quote
  text : (ℕ → List ℕ → Shape A) → Shape A → Shape A
  mark : Mark → Shape A → Shape A → Shape A

abbrev pub is_word : List ℕ → Symbol → Bool
is_word key (S.Name name) = pointwise nat_eq name key
is_word key other = false

abbrev pub number_of : Symbol → Option ℕ
number_of (S.Number n) = Some n
number_of other = None

abbrev pub text_of : Symbol → Option (List ℕ)
text_of (S.Text string) = Some string
text_of other = None

abbrev pub is_mark : Mark → Symbol → Bool
is_mark open_parenthesis S.OpenParenthesis = true
is_mark close_parenthesis S.CloseParenthesis = true
is_mark open_brace S.OpenBrace = true
is_mark close_brace S.CloseBrace = true
is_mark comma S.Comma = true
is_mark other symbol = false

abbrev pub number_leads : {A : Type 0} → (ℕ → Shape A) → Option (Shape A) → Option ℕ → Option (Shape A)
number_leads to otherwise None = otherwise
number_leads to otherwise (Some n) = Some (to n)

abbrev pub text_leads : {A : Type 0} → (List ℕ → Shape A) → Option (Shape A) → Option (List ℕ) → Option (Shape A)
text_leads to otherwise None = otherwise
text_leads to otherwise (Some string) = Some (to string)

-- where a symbol leads
abbrev pub step : {A : Type 0} → Shape A → Placed → Option (Shape A)
step (whole a) p = None
step nothing p = None
step (word key to rest) p = if is_word key p.symbol then Some (to p.from) else step rest p
step (number to rest) p = number_leads to (step rest p) (number_of p.symbol)
step (text to rest) p = text_leads (to p.from) (step rest p) (text_of p.symbol)
step (mark m to rest) p = if is_mark m p.symbol then Some to else step rest p

-- where symbols lead
abbrev pub run : {A : Type 0} → Option (Shape A) → List Placed → Option (Shape A)
run None u = None
run (Some shape) [] = Some shape
run (Some shape) (p ∷ u) = run (step shape p) u

-- the symbols are a whole of the shape, and spell this
pub record Spelled {A : Type 0} (shape : Shape A) (u : List Placed) (a : A) : Type 0 where
  pub runs : run (Some shape) u ≡ Some (whole a)

-- the branches of one shape, and_then those of another
abbrev pub or_else : {A : Type 0} → Shape A → Shape A → Shape A
or_else (whole a) other = whole a
or_else nothing other = other
or_else (word key to rest) other = word key to (or_else rest other)
or_else (number to rest) other = number to (or_else rest other)
or_else (text to rest) other = text to (or_else rest other)
or_else (mark m to rest) other = mark m to (or_else rest other)

-- one shape, and after it another, which what was spelled decides
abbrev pub and_then : {A B : Type 0} → Shape A → (A → Shape B) → Shape B
and_then (whole a) further = further a
and_then nothing further = nothing
and_then (word key to rest) further = word key (λ at. and_then (to at) further) (and_then rest further)
and_then (number to rest) further = number (λ n. and_then (to n) further) (and_then rest further)
and_then (text to rest) further = text (λ at s. and_then (to at s) further) (and_then rest further)
and_then (mark m to rest) further = mark m (and_then to further) (and_then rest further)
