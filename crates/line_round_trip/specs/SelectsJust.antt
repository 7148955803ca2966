-- A text that, asked as a path, selects one element of a document.
use Rattle.std.specs.Prelude.{◌≡◌, List, [], ◌∷◌, ℕ, Ok}
use Rattle.plain_tree.specs.Document.{Node}
use Rattle.path_grammar.specs.declared.path.PathRoot.TheVariants as R
use Rattle.path_meaning.specs.Elements.{Element}
use Rattle.path_meaning.specs.Meaning.{selected}
use Rattle.path_subset.specs.Answer.{path_read}
use Rattle.path_subset.specs.Paths.{PathForm}

-- The text is read as a path from the document of that name, without selections, and its steps select that element and no other.
pub record SelectsJust (text document : List ℕ) (root : Node) (e : Element) : Type 0 where
  pub value : PathForm
  pub read : path_read text ≡ Ok value
  pub from : value.path.root ≡ R.Doc document
  pub plain : value.selections ≡ []
  pub alone : (satisfies : _) → selected satisfies value.path.steps root ≡ e ∷ []
