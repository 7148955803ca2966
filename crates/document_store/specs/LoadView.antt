-- What was read of a block, as the document that it means, or why it can't be loaded.
use Rattle.std.specs.Prelude.{ℕ, List, Result, Ok, Err, ⊤}
use Rattle.index_updates.specs.Follows.{AreOf}
use Rattle.ordered_tree.specs.Numbered.{plain}
use Rattle.plain_tree.specs.Document.{Node}
use Rattle.document_store.specs.declared.fault.NotLoaded.{NotLoaded}
use Rattle.document_store.specs.declared.loading.Outcome.{Outcome}
use Rattle.document_store.specs.declared.loading.Outcome.TheVariants as outcomes

abbrev pub outcome : Outcome → Result Node NotLoaded
outcome (outcomes.Document document) = Ok (plain document.read.tree.root)
outcome (outcomes.NotLoaded why) = Err why

-- What was found of a document on the way is what its tree has under the abbreviations.
abbrev pub IsFoundUnder : List (List ℕ) → Outcome → Type 0
IsFoundUnder abbreviations (outcomes.Document document) = AreOf abbreviations document.read.tree.root document.read.leaves document.read.breaks
IsFoundUnder abbreviations (outcomes.NotLoaded why) = ⊤
