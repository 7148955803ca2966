-- What a version has under a number, once a leaf of the document there was taken or put.
use Rattle.std.proofs.Common.{◌≡◌, ◌∙◌, sym, ap, subst, refl, ℕ, ◌+◌, ◌<◌, ◌==◌, true, false, nat_lt, List, [], ◌∷◌, length, drop, arith, inl, inr}
use Rattle.std.specs.Prelude.{slice_index_or}
use Rattle.std.proofs.lemmas.Bool.{cases_Bool, eq-eqb, le-ltb}
use Rattle.std.proofs.lemmas.List.{drop_more}
use Rattle.ft_base.specs.declared.ids.LeafId.{LeafId}
use Rattle.index_meaning.specs.Documents.{Document, Numbered, document_at, leaf_words, numbered, with_document, with_leaf, without_leaf}
use Rattle.ordered_tree.specs.declared.leaf.LeafWords.{LeafWords}
use Rattle.tree_edits.specs.Changed.{index_leaf}
use Rattle.index_updates.specs.steps.Turns.{AreNew, AreThere, with_all, without_all, words_put, words_taken}
use Rattle.index_updates.proofs.VersionLemmas.{at-with}

abbrev pub leaf_at : List LeafId → ℕ → LeafId
leaf_at xs i = slice_index_or xs i (record { 0 = 0 })

module _ (doc : ℕ) where
  -- ---- a document that comes under that number goes in the place of the one that is there

  comes_before : (d : Document) (x : Numbered) (rest : List Numbered) → nat_lt doc x.id ≡ true → with_document (numbered doc d) (x ∷ rest) ≡ numbered doc d ∷ x ∷ rest
  comes_before d x rest less = rw less refl

  in_place : (d : Document) (x : Numbered) (rest : List Numbered) → nat_lt doc x.id ≡ false → (doc == x.id) ≡ true → with_document (numbered doc d) (x ∷ rest) ≡ numbered doc d ∷ rest
  in_place d x rest more same = rw (more, same) refl

  later : (d : Document) (x : Numbered) (rest : List Numbered) → nat_lt doc x.id ≡ false → (doc == x.id) ≡ false → with_document (numbered doc d) (x ∷ rest) ≡ x ∷ with_document (numbered doc d) rest
  later d x rest more differ = rw (more, differ) refl

  instead : (d e : Document) (rest : List Numbered) → with_document (numbered doc d) (numbered doc e ∷ rest) ≡ numbered doc d ∷ rest
  instead d e rest = in_place d (numbered doc e) rest (le-ltb doc doc (omega arith)) (eq-eqb doc doc refl)

  pub with-twice : (d e : Document) (ds : List Numbered) → with_document (numbered doc d) (with_document (numbered doc e) ds) ≡ with_document (numbered doc d) ds
  with-twice d e [] = instead d e []
  with-twice d e (x ∷ rest) = elim (cases_Bool (nat_lt doc x.id)) [
    | inl less ↦ ap (with_document (numbered doc d)) (comes_before e x rest less) ∙ instead d e (x ∷ rest) ∙ sym (comes_before d x rest less)
    | inr more ↦ elim (cases_Bool (doc == x.id)) [
      | inl same ↦ ap (with_document (numbered doc d)) (in_place e x rest more same) ∙ instead d e rest ∙ sym (in_place d x rest more same)
      | inr differ ↦
          ap (with_document (numbered doc d)) (later e x rest more differ)
          ∙ later d x (with_document (numbered doc e) rest) more differ
          ∙ ap (λ ds. x ∷ ds) (with-twice d e rest)
          ∙ sym (later d x rest more differ)
    ]
  ]

  -- ---- the version after a turn

  module _ (before now next : List Numbered) (d : Document) (is : next ≡ with_document (numbered doc d) now) where
    pub turned-there : document_at doc next ≡ d
    turned-there = ap (document_at doc) is ∙ at-with doc d now

    pub turned-others : ((e : Document) → with_document (numbered doc e) now ≡ with_document (numbered doc e) before)
        → (e : Document) → with_document (numbered doc e) next ≡ with_document (numbered doc e) before
    turned-others others e = ap (with_document (numbered doc e)) is ∙ with-twice e d now ∙ others e

  -- ---- a leaf that is taken

  module _ (now next : List Numbered) (xs : List LeafId) (i : ℕ) (h : i < length xs)
      (is : next ≡ with_document (numbered doc (without_leaf (leaf_at xs i).0 (document_at doc now))) now) where
    left_ids : drop i xs ≡ leaf_at xs i ∷ drop (i + 1) xs
    left_ids = drop_more xs i (record { 0 = 0 }) h

    there : document_at doc next ≡ without_leaf (leaf_at xs i).0 (document_at doc now)
    there = turned-there now now next (without_leaf (leaf_at xs i).0 (document_at doc now)) is

    pub taken-there : AreThere (drop i xs) (document_at doc now) → AreThere (drop (i + 1) xs) (document_at doc next)
    taken-there all = subst (AreThere (drop (i + 1) xs)) (sym there) ((subst (λ ids. AreThere ids (document_at doc now)) left_ids all).1)

    pub taken-left : without_all (drop (i + 1) xs) (document_at doc next) ≡ without_all (drop i xs) (document_at doc now)
    taken-left = ap (without_all (drop (i + 1) xs)) there ∙ sym (ap (λ ids. without_all ids (document_at doc now)) left_ids)

    pub taken-words : words_taken (drop i xs) (document_at doc now) ≡ length (leaf_words (leaf_at xs i).0 (document_at doc now).leaves) + words_taken (drop (i + 1) xs) (document_at doc next)
    taken-words =
        ap (λ ids. words_taken ids (document_at doc now)) left_ids
        ∙ ap (λ e. length (leaf_words (leaf_at xs i).0 (document_at doc now).leaves) + words_taken (drop (i + 1) xs) e) (sym there)

  -- ---- a leaf that is put

  module _ (now next : List Numbered) (xs : List LeafWords) (i : ℕ) (x : LeafWords) (h : i < length xs) (here : x ≡ slice_index_or xs i x)
      (is : next ≡ with_document (numbered doc (with_leaf x.after (index_leaf x) (document_at doc now))) now) where
    left_leaves : drop i xs ≡ x ∷ drop (i + 1) xs
    left_leaves = drop_more xs i x h ∙ ap (λ y. y ∷ drop (i + 1) xs) (sym here)

    put_there : document_at doc next ≡ with_leaf x.after (index_leaf x) (document_at doc now)
    put_there = turned-there now now next (with_leaf x.after (index_leaf x) (document_at doc now)) is

    pub put-new : AreNew (drop i xs) (document_at doc now) → AreNew (drop (i + 1) xs) (document_at doc next)
    put-new all = subst (AreNew (drop (i + 1) xs)) (sym put_there) ((subst (λ ls. AreNew ls (document_at doc now)) left_leaves all).2)

    pub put-left : with_all (drop (i + 1) xs) (document_at doc next) ≡ with_all (drop i xs) (document_at doc now)
    put-left = ap (with_all (drop (i + 1) xs)) put_there ∙ sym (ap (λ ls. with_all ls (document_at doc now)) left_leaves)

    pub put-words : words_put (drop i xs) ≡ length x.words + words_put (drop (i + 1) xs)
    put-words = ap words_put left_leaves
