-- What is read of a path, as plain data.
use Rattle.std.specs.Prelude.{List, map}
use Rattle.ft_base.specs.Selection.{Form}
use Rattle.ft_syntax.specs.View.{form}
use Rattle.selection_grammar.specs.declared.symbol.Placed.{Placed}
use Rattle.path_grammar.specs.Form as path
use Rattle.path_grammar.specs.Grammar.{begins_at, ends_at}
use Rattle.path_grammar.specs.View as view
use Rattle.path_subset.specs.declared.path.Extent.{Extent}
use Rattle.path_subset.specs.declared.path.Found.{Found}
use Rattle.path_subset.specs.declared.path.ReadPath.{ReadPath}

-- a selection of a path, and where it stands in the path's text
pub record PlacedForm : Type 0 where
  pub form : Form
  pub extent : Extent

-- from the first of some symbols to the end of the last
abbrev pub extent_of : List Placed → Extent
extent_of symbols = record { from = begins_at symbols; to = ends_at symbols }

abbrev pub placed_form : Form → List Placed → PlacedForm
placed_form x symbols = record { form = x; extent = extent_of symbols }

-- a path, and its selections in the order of its text
pub record PathForm : Type 0 where
  pub path : path.Path
  pub selections : List PlacedForm

abbrev pub path_form : path.Path → List PlacedForm → PathForm
path_form path selections = record { path = path; selections = selections }

abbrev pub found_form : Found → PlacedForm
found_form found = record { form = form found.selection; extent = found.extent }

abbrev pub read_form : ReadPath → PathForm
read_form read = path_form (view.path read.path) (map found_form read.selections)
