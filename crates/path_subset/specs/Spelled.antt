-- Which path a text spells, with its selections.
use Rattle.std.specs.Prelude.{◌≡◌, ℕ, List, [], ◌∷◌, ◌++◌, None}
use Rattle.ft_base.specs.Selection.{Form}
use Rattle.ft_parser.specs.Selected.{Selects}
use Rattle.query_lexer.specs.Symbols.{symbols_of}
use Rattle.path_grammar.specs.Grammar.{Inside, Path}
use Rattle.path_subset.specs.Limits.{Within}
use Rattle.path_subset.specs.Paths.{PlacedForm, placed_form, PathForm}

-- Each selection inside a path is within the limits and without a fault, and has this form and this place in the text.
pub data Each : List Inside → List PlacedForm → Type 0 where
  none : Each [] []
  further : {insides : List Inside} {found : List PlacedForm} → Each insides found → (i : Inside) (x : Form) → Selects i.symbols None x
      → Each (insides ++ i ∷ []) (found ++ placed_form x i.symbols ∷ [])

-- The symbols make up the whole text and spell the path, by the grammar and within the limits.
pub record SpellsPath (text : List ℕ) (value : PathForm) : Type 0 where
  pub insides : List Inside
  pub all : (symbols_of text).bad ≡ None
  pub spells : Path (symbols_of text).placed value.path insides
  pub selections : Each insides value.selections
  pub limits : Within (symbols_of text).placed
