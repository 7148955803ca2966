-- What a part of a document brings to what was read of the texts before it.
use Rattle.std.specs.Prelude.{◌≡◌, ℕ, List, ◌++◌, flat_map}
use Rattle.ft_base.specs.declared.ids.NodeRef.{NodeRef}
use Rattle.plain_tree.specs.Document.{Nodes}
use Rattle.tokenizer.specs.Parts.{Part, events_of, parts_of_event}
use Rattle.tokenizer.specs.steps.StartsLeft.{sentences_in, paragraphs_in}
use Rattle.ordered_tree.specs.Leaves.{leaves_after, last_leaf}
use Rattle.ordered_tree.specs.declared.texts_read.TextsRead.{TextsRead}

-- the parts of children under a set of abbreviations
abbrev pub parts_of : List (List ℕ) → Nodes → List Part
parts_of abbreviations ns = flat_map (parts_of_event abbreviations) (events_of ns)

-- these texts with their references, and these parts of the document, lead from `old` to `new`
pub record Gathers (old : TextsRead) (texts : List (NodeRef × List ℕ)) (parts : List Part) (new : TextsRead) : Type 0 where
  pub leaves : new.leaves ≡ old.leaves ++ leaves_after old.last texts
  pub last : new.last ≡ last_leaf old.last texts
  pub sentences : (rest : List Part) → sentences_in old.starts (parts ++ rest) ≡ sentences_in new.starts rest
  pub paragraphs : (rest : List Part) → paragraphs_in old.starts (parts ++ rest) ≡ paragraphs_in new.starts rest
  pub abbreviations : new.abbreviations.now ≡ old.abbreviations.now
  pub most : new.most ≡ old.most
