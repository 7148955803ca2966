-- What a version has under a number, once a document came or went.
use Rattle.std.proofs.Common.{◌≡◌, ◌≢◌, ◌∙◌, sym, ap, ap₂, refl, ℕ, true, false, cond, ◌||◌, ◌==◌, nat_lt, List, [], ◌∷◌, inl, inr}
use Rattle.std.proofs.lemmas.Bool.{cases_Bool, cond-false, cond-true, eq-eqb, eqb-true, eqb-false, ne_eqb, or_from, or_left, or_right}
use Rattle.ft_base.specs.declared.places.Breaks.{Breaks}
use Rattle.index_meaning.specs.Documents.{Document, Leaf, Numbered, document_of, numbered, document_at, has_document, with_breaks, with_document, without_document}
use Rattle.ordered_tree.specs.Leaves.{leaves}
use Rattle.ordered_tree.specs.Numbered as tree
use Rattle.ordered_tree.specs.Numbered.{plain}
use Rattle.ordered_tree.specs.declared.leaf.LeafWords.{LeafWords}
use Rattle.index_updates.specs.Follows.{AreOf, Follows, breaks_in, tree_document, word_leaves}

module _ (id : ℕ) (document : Document) where
  abbrev new : Numbered
  new = numbered id document

  -- the document that came is there
  pub has-with : (ds : List Numbered) → has_document id (with_document new ds) ≡ true
  has-with [] = ap (λ b. b || false) (eq-eqb id id refl)
  has-with (d ∷ rest) = elim (cases_Bool (nat_lt id d.id)) [
    | inl less ↦ rw less (or_left (id == id) _ (eq-eqb id id refl))
    | inr more ↦ rw more (elim (cases_Bool (id == d.id)) [
      | inl same ↦ rw same (or_left (id == id) _ (eq-eqb id id refl))
      | inr other ↦ rw other (or_right (d.id == id) _ (has-with rest))
    ])
  ]

  pub at-with : (ds : List Numbered) → document_at id (with_document new ds) ≡ document
  at-with [] = cond-true (id == id) document _ (eq-eqb id id refl)
  at-with (d ∷ rest) = elim (cases_Bool (nat_lt id d.id)) [
    | inl less ↦ rw less (cond-true (id == id) document _ (eq-eqb id id refl))
    | inr more ↦ rw more (elim (cases_Bool (id == d.id)) [
      | inl same ↦ rw same (cond-true (id == id) document _ (eq-eqb id id refl))
      | inr other ↦ rw other (cond-false (d.id == id) d.document _ (ne_eqb d.id id (λ is. eqb-false id d.id other (sym is))) ∙ at-with rest)
    ])
  ]

  -- the others stay
  pub others-with : (ds : List Numbered) (other : ℕ) → other ≢ id → document_at other (with_document new ds) ≡ document_at other ds
  others-with [] other apart = cond-false (id == other) document _ (ne_eqb id other (λ is. apart (sym is)))
  others-with (d ∷ rest) other apart = elim (cases_Bool (nat_lt id d.id)) [
    | inl less ↦ rw less (cond-false (id == other) document _ (ne_eqb id other (λ is. apart (sym is))))
    | inr more ↦ rw more (elim (cases_Bool (id == d.id)) [
      | inl same ↦ rw same
          (cond-false (id == other) document _ (ne_eqb id other (λ is. apart (sym is)))
          ∙ sym (cond-false (d.id == other) d.document _ (ne_eqb d.id other (λ is. apart (sym is ∙ sym (eqb-true id d.id same))))))
      | inr differ ↦ rw differ (ap (cond (d.id == other) d.document) (others-with rest other apart))
    ])
  ]

-- where a document went, it isn't, and the others stay
pub has-without : (id : ℕ) (ds : List Numbered) → has_document id (without_document id ds) ≡ false
has-without id [] = refl
has-without id (d ∷ rest) = elim (cases_Bool (d.id == id)) [
  | inl same ↦ rw same (has-without id rest)
  | inr other ↦ rw other (or_from (d.id == id) _ other (has-without id rest))
]

pub others-without : (id : ℕ) (ds : List Numbered) (other : ℕ) → other ≢ id → document_at other (without_document id ds) ≡ document_at other ds
others-without id [] other apart = refl
others-without id (d ∷ rest) other apart = elim (cases_Bool (d.id == id)) [
  | inl same ↦ rw same (others-without id rest other apart
      ∙ sym (cond-false (d.id == other) d.document _ (ne_eqb d.id other (λ is. apart (sym is ∙ eqb-true d.id id same)))))
  | inr differ ↦ rw differ (ap (cond (d.id == other) d.document) (others-without id rest other apart))
]

-- a version with the document of a tree follows the tree
pub follows-with : (abbreviations : List (List ℕ)) (id : ℕ) (root : tree.Numbered) (ds version : List Numbered)
    → version ≡ with_document (numbered id (tree_document abbreviations root)) ds → Follows abbreviations version id root
follows-with abbreviations id root ds version is = record {
  there = ap (has_document id) is ∙ has-with id (tree_document abbreviations root) ds;
  document = ap (document_at id) is ∙ at-with id (tree_document abbreviations root) ds;
}

-- what was found of a tree is its document
pub found-document : (abbreviations : List (List ℕ)) (root : tree.Numbered) (found : List LeafWords) (breaks : Breaks) (texts : List Leaf)
    → AreOf abbreviations root found breaks → texts ≡ word_leaves found → document_of texts breaks ≡ tree_document abbreviations root
unfolding tree_document
found-document abbreviations root found breaks texts of is =
    ap (λ ls. made ls breaks.sentences breaks.paragraphs) (is ∙ ap word_leaves of.leaves)
    ∙ ap₂ (made (word_leaves (leaves root))) of.sentences of.paragraphs
  where
    made : List Leaf → List ℕ → List ℕ → Document
    made ls sentences paragraphs = record { leaves = ls; sentences = sentences; paragraphs = paragraphs }

-- with the breaks of a tree under other abbreviations, the tree's document is that under these
pub rebroken : (before abbreviations : List (List ℕ)) (root : tree.Numbered) (breaks : Breaks) → breaks ≡ breaks_in abbreviations (plain root)
    → with_breaks breaks (tree_document before root) ≡ tree_document abbreviations root
unfolding tree_document
rebroken before abbreviations root breaks is = ap (document_of (word_leaves (leaves root))) is
