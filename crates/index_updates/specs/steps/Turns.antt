-- Leaves that are taken out of a document, and such as are put into it, one after the other.
use Rattle.std.specs.Prelude.{◌≡◌, ⊤, ℕ, ◌+◌, true, false, List, [], ◌∷◌, length, IfSome}
use Rattle.ft_base.specs.declared.ids.LeafId.{LeafId}
use Rattle.index_meaning.specs.Documents.{Document, Numbered, document_at, has_leaf, leaf_words, numbered, with_document, with_leaf, without_leaf}
use Rattle.ordered_tree.specs.declared.leaf.LeafWords.{LeafWords}
use Rattle.tree_edits.specs.Changed.{index_leaf}

-- each leaf is there in its turn
abbrev pub AreThere : List LeafId → Document → Type 0
AreThere [] document = ⊤
AreThere (id ∷ ids) document = (has_leaf id.0 document ≡ true) × AreThere ids (without_leaf id.0 document)

-- each leaf isn't there in its turn, and the one that it follows is
abbrev pub AreNew : List LeafWords → Document → Type 0
AreNew [] document = ⊤
AreNew (l ∷ ls) document =
    (has_leaf l.leaf.0 document ≡ false) × IfSome l.after (λ other. has_leaf other.0 document ≡ true) × AreNew ls (with_leaf l.after (index_leaf l) document)

-- the document without these leaves, and with these
abbrev pub without_all : List LeafId → Document → Document
without_all [] document = document
without_all (id ∷ ids) document = without_all ids (without_leaf id.0 document)

abbrev pub with_all : List LeafWords → Document → Document
with_all [] document = document
with_all (l ∷ ls) document = with_all ls (with_leaf l.after (index_leaf l) document)

-- how many words they have, those that are there and those that are put
abbrev pub words_taken : List LeafId → Document → ℕ
words_taken [] document = 0
words_taken (id ∷ ids) document = length (leaf_words id.0 document.leaves) + words_taken ids (without_leaf id.0 document)

abbrev pub words_put : List LeafWords → ℕ
words_put [] = 0
words_put (l ∷ ls) = length l.words + words_put ls

-- The version has this document under that number, and whatever comes there makes of it what it makes of the version before.
pub record Turned (before : List Numbered) (doc : ℕ) (document : Document) (version : List Numbered) : Type 0 where
  pub there : document_at doc version ≡ document
  pub others : (d : Document) → with_document (numbered doc d) version ≡ with_document (numbered doc d) before
