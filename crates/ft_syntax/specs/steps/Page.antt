-- A text to which symbols are added.
use Rattle.std.specs.Prelude.{ℕ, Bool, true, ◌||◌, if◌then◌else◌, List, [], ◌∷◌, ◌++◌}
use Rattle.ft_syntax.specs.Spacing.{Symbol, opens, closes}

-- a text, and whether the next symbol stands close to it: at the start, and after an opening bracket
pub record Page : Type 0 where
  pub text : List ℕ
  pub is_open : Bool

abbrev pub empty_page : Page
empty_page = record { text = []; is_open = true }

unfoldable pub put : Page → Symbol → Page
put page symbol = record { text = page.text ++ (if page.is_open || closes symbol then [] else 32 ∷ []) ++ symbol; is_open = opens symbol }

abbrev pub put_all : Page → List Symbol → Page
put_all page [] = page
put_all page (symbol ∷ rest) = put_all (put page symbol) rest
