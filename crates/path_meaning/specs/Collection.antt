-- Which elements of a collection a path selects.
use Rattle.std.specs.Prelude.{ℕ, Bool, List, map, filter, flat_map, bytes_eq}
use Rattle.plain_tree.specs.Document.{Node}
use Rattle.path_grammar.specs.declared.path.PathRoot.{PathRoot}
use Rattle.path_grammar.specs.declared.path.PathRoot.TheVariants.{Collection, Doc}
use Rattle.path_meaning.specs.Elements.{Element}
use Rattle.path_grammar.specs.Form.{Path}
use Rattle.path_meaning.specs.Meaning.{selected}

-- a document of a collection, by its name
pub record Named : Type 0 where
  pub name : List ℕ
  pub root : Node

-- an element, and the name of its document
pub record Found : Type 0 where
  pub document : List ℕ
  pub element : Element

abbrev pub found_in : List ℕ → Element → Found
found_in document e = record { document = document; element = e }

-- the documents of a root, in the order of loading
abbrev pub documents : PathRoot → List Named → List Named
documents Collection collection = collection
documents (Doc name) collection = filter (λ d. bytes_eq name d.name) collection

-- the elements that a path selects, document by document
abbrev pub nodes : (ℕ → List Element → Element → Bool) → Path → List Named → List Found
nodes satisfies path collection = flat_map (λ d. map (found_in d.name) (selected satisfies path.steps d.root)) (documents path.root collection)
