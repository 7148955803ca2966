-- What an edit changed: the texts that went and those that came, as leaves, and how many words these have.
use Rattle.std.specs.Prelude.{◌≡◌, ◌≢◌, ℕ, ◌+◌, ◌==◌, Bool, ◌&&◌, not, if◌then◌else◌, List, [], ◌∷◌, length, map, filter, bytes_eq}
use Rattle.std.specs.Prelude.{Option, Some, None, AllPairs}
use Rattle.std.specs.List.{list_any, sum_by}
use Rattle.ft_base.specs.declared.ids.LeafId.{LeafId}
use Rattle.ft_base.specs.declared.ids.NodeRef.{NodeRef}
use Rattle.index_meaning.specs.Documents as index
use Rattle.ordered_tree.specs.Leaves.{leaf_of, texts}
use Rattle.ordered_tree.specs.Numbered.{Numbered}
use Rattle.ordered_tree.specs.Stands.{references}
use Rattle.ordered_tree.specs.declared.leaf.LeafWords.{LeafWords}
use Rattle.text_words.specs.Words.{words}
use Rattle.tree_edits.specs.Edits.{is_among, is_same}
use Rattle.tree_edits.specs.declared.change.Change.{Change}

-- a text with its reference
abbrev pub Text : Type 0
Text = NodeRef × List ℕ

abbrev pub is_text : Text → Text → Bool
is_text t u = is_same t.0 u.0 && bytes_eq t.1 u.1

-- A text stays where others have it, with its reference and its bytes: one that was joined with another doesn't.
abbrev pub stays : List Text → Text → Bool
stays others t = list_any (is_text t) others

-- the texts that others don't have
abbrev pub without : List Text → List Text → List Text
without others ts = filter (λ t. not (stays others t)) ts

-- the leaves of the texts that went, in document order
abbrev pub taken : Numbered → Numbered → List LeafId
taken old new = map (λ t. leaf_of t.0) (without (texts new) (texts old))

-- the leaves of those among texts that don't pass the test, each directly after the leaf of the text before it
abbrev pub put_by : (Text → Bool) → Option LeafId → List Text → List LeafWords
put_by test last [] = []
put_by test last (t ∷ rest) =
    if test t then put_by test (Some (leaf_of t.0)) rest
    else record { leaf = leaf_of t.0; after = last; words = words t.1 } ∷ put_by test (Some (leaf_of t.0)) rest

-- the leaves of those that others don't have
abbrev pub put_after : List Text → Option LeafId → List Text → List LeafWords
put_after others = put_by (stays others)

-- the leaves of the texts that came, in document order
abbrev pub put : Numbered → Numbered → List LeafWords
put old new = put_after (texts old) None (texts new)

-- ---- a document that became another one

abbrev pub text_references : Numbered → List NodeRef
text_references root = map (λ t. t.0) (texts root)

-- The texts that are in both stand in one order, by their references, of which no document has one twice.
pub record KeepsOrder (old new : Numbered) : Type 0 where
  pub apart_before : AllPairs (λ a b. a ≢ b) (references old)
  pub apart : AllPairs (λ a b. a ≢ b) (references new)
  pub order : filter (is_among (text_references old)) (text_references new) ≡ filter (is_among (text_references new)) (text_references old)

-- The change is what was taken and put as one document became the other.
pub record Made (old : Numbered) (change : Change) (new : Numbered) : Type 0 where
  pub keeps_order : KeepsOrder old new
  pub went : change.taken ≡ taken old new
  pub came : change.put ≡ put old new

-- ---- the leaves of an index, with a change

abbrev pub text_leaf : Text → index.Leaf
text_leaf t = index.leaf_of t.0.0 (words t.1)

abbrev pub index_leaf : LeafWords → index.Leaf
index_leaf l = index.leaf_of l.leaf.0 l.words

abbrev pub text_leaves : Numbered → List index.Leaf
text_leaves root = map text_leaf (texts root)

abbrev pub is_one_of : List LeafId → index.Leaf → Bool
is_one_of ids leaf = list_any (λ id. id.0 == leaf.id) ids

-- the leaves without those of these numbers
abbrev pub take_all : List LeafId → List index.Leaf → List index.Leaf
take_all ids leaves = filter (λ leaf. not (is_one_of ids leaf)) leaves

-- the leaves with more, one after the other, each directly after the leaf that it names or before
abbrev pub put_all : List LeafWords → List index.Leaf → List index.Leaf
put_all [] leaves = leaves
put_all (l ∷ ls) leaves = put_all ls (index.leaves_with l.after (index_leaf l) leaves)

-- ---- words

abbrev pub word_total : List index.Leaf → ℕ
word_total leaves = sum_by (λ leaf. length leaf.words) leaves

-- how many words the texts have that don't stay: those that went and those that came
abbrev pub touched : Numbered → Numbered → ℕ
touched old new = word_total (map text_leaf (without (texts new) (texts old))) + word_total (map text_leaf (without (texts old) (texts new)))
