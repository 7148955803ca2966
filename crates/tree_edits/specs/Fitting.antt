-- When a document with references can be put into slots.
use Rattle.std.specs.Prelude.{◌≡◌, ◌≢◌, ℕ, ◌<◌, ◌^◌, All, AllPairs, IsTrue}
use Rattle.ordered_tree.specs.Numbered.{Numbered, plain, reference}
use Rattle.ordered_tree.specs.Slots.{root_ref}
use Rattle.ordered_tree.specs.Stands.{references}
use Rattle.plain_tree.specs.Document.{is_document}

-- each node has a reference of its own, below the number of slots, and the root the first
pub record FitsSlots (root : Numbered) (slots : ℕ) : Type 0 where
  pub rooted : reference root ≡ root_ref
  pub document : IsTrue (is_document (plain root))
  pub apart : AllPairs (λ a b. a ≢ b) (references root)
  pub below : All (λ r. r.0 < slots) (references root)
  pub few_slots : slots < 2 ^ 31
