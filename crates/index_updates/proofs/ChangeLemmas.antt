-- A version that follows a tree has the leaves that a change takes, none of those that it puts, and after it the document of the new tree.
use Rattle.std.proofs.Common.{◌≡◌, ◌∙◌, sym, ap, ap₂, subst, refl, ℕ, ◌+◌, not, List, [], ◌∷◌, map, filter, length, arith}
use Rattle.std.specs.Prelude.{Option, Some}
use Rattle.std.proofs.lemmas.List.Filters.{sum_by-filter_both}
use Rattle.ft_base.specs.declared.ids.LeafId.{LeafId}
use Rattle.ft_base.specs.declared.places.Breaks.{Breaks}
use Rattle.index_meaning.specs.Documents.{Document, Numbered, document_at, numbered, with_breaks, with_document}
use Rattle.index_meaning.specs.Documents as index
use Rattle.ordered_tree.specs.Leaves.{leaf_of, leaves_after, texts}
use Rattle.ordered_tree.specs.Numbered as tree
use Rattle.ordered_tree.specs.Numbered.{plain}
use Rattle.tokenizer.specs.Tokens.{tokens, sentence_starts, paragraph_starts}
use Rattle.text_words.specs.Words.{words}
use Rattle.tree_edits.specs.Changed.{Made, Text, is_one_of, put, stays, take_all, taken, text_leaf, text_leaves, touched, without, word_total}
use Rattle.tree_edits.specs.declared.change.Change.{Change}
use Rattle.tree_edits.proofs.EditLemmas.{leaves_lead, texts_apart, words_touched}
use Rattle.tree_edits.proofs.References.{Distinct}
use Rattle.tree_edits.proofs.TextLists.{refs_of, stay_left, stay_same}
use Rattle.index_updates.specs.Follows.{Follows, breaks_in, tree_document, word_leaves}
use Rattle.index_updates.specs.steps.Turns.{AreNew, AreThere, with_all, without_all, words_put, words_taken}
use Rattle.index_updates.proofs.TextLemmas.{all_new, all_there, all_words, document, fewer, put_of, still_distinct, taken_of, words_of_put}

-- the leaves of a tree are those of its texts
leaves_of_texts : (before : Option LeafId) (ts : List Text) → word_leaves (leaves_after before ts) ≡ map text_leaf ts
unfolding leaves_after
leaves_of_texts before [] = refl
leaves_of_texts before ((r, bytes) ∷ ts) = ap (λ ls. index.leaf_of r.0 (words bytes) ∷ ls) (leaves_of_texts (Some (leaf_of r)) ts)

module _ (abbreviations : List (List ℕ)) where
  abbrev sentences : tree.Numbered → List ℕ
  sentences root = sentence_starts (tokens abbreviations (plain root))

  abbrev paragraphs : tree.Numbered → List ℕ
  paragraphs root = paragraph_starts (tokens abbreviations (plain root))

  tree_document-is : (root : tree.Numbered) → tree_document abbreviations root ≡ document (sentences root) (paragraphs root) (text_leaves root)
  unfolding tree_document
  tree_document-is root = ap (document (sentences root) (paragraphs root)) (leaves_of_texts _ (texts root))

module _ (abbreviations : List (List ℕ)) (version : List Numbered) (doc : ℕ) (old new : tree.Numbered) (change : Change)
    (follows : Follows abbreviations version doc old) (made : Made old change new) where
  abbrev sentences_before : List ℕ
  sentences_before = sentences abbreviations old

  abbrev paragraphs_before : List ℕ
  paragraphs_before = paragraphs abbreviations old

  is : document_at doc version ≡ document sentences_before paragraphs_before (text_leaves old)
  is = follows.document ∙ tree_document-is abbreviations old

  before : Distinct (refs_of (texts old))
  before = texts_apart old made.keeps_order.apart_before

  after : Distinct (refs_of (texts new))
  after = texts_apart new made.keeps_order.apart

  pub change-there : AreThere change.taken (document_at doc version)
  change-there =
      subst (λ ids. AreThere ids (document_at doc version)) (sym made.went)
      (subst (AreThere (taken old new)) (sym is)
      (all_there sentences_before paragraphs_before (without (texts new) (texts old)) (texts old)
      (still_distinct (λ t. not (stays (texts new) t)) (texts old) before) (fewer (λ t. not (stays (texts new) t)) (texts old))))

  left : without_all change.taken (document_at doc version) ≡ document sentences_before paragraphs_before (take_all (taken old new) (text_leaves old))
  left =
      ap₂ without_all made.went is ∙ taken_of sentences_before paragraphs_before (taken old new) (text_leaves old)

  stayed : take_all (taken old new) (text_leaves old) ≡ map text_leaf (filter (stays (texts old)) (texts new))
  stayed = stay_left (texts new) (texts old) before ∙ ap (map text_leaf) (stay_same (texts old) (texts new) before after made.keeps_order.order)

  pub change-new : AreNew change.put (without_all change.taken (document_at doc version))
  change-new =
      subst (λ ls. AreNew ls (without_all change.taken (document_at doc version))) (sym made.came)
      (subst (AreNew (put old new)) (sym (left ∙ ap (document sentences_before paragraphs_before) stayed))
      (all_new sentences_before paragraphs_before (texts old) (texts new) after))

  change-document : (breaks : Breaks) → breaks ≡ breaks_in abbreviations (plain new)
      → with_breaks breaks (with_all change.put (without_all change.taken (document_at doc version))) ≡ tree_document abbreviations new
  change-document breaks found =
      ap₂ with_breaks found
      (ap₂ with_all made.came left
      ∙ put_of sentences_before paragraphs_before (put old new) (take_all (taken old new) (text_leaves old))
      ∙ ap (document sentences_before paragraphs_before) (leaves_lead old new made.keeps_order))
      ∙ sym (tree_document-is abbreviations new)

  pub change-version : (copy next : List Numbered) (breaks : Breaks) → copy ≡ version → breaks ≡ breaks_in abbreviations (plain new)
      → next ≡ with_document (numbered doc (with_breaks breaks (with_all change.put (without_all change.taken (document_at doc copy))))) copy
      → next ≡ with_document (numbered doc (tree_document abbreviations new)) version
  change-version copy next breaks same found made_of =
      made_of
      ∙ ap (λ v. with_document (numbered doc (with_breaks breaks (with_all change.put (without_all change.taken (document_at doc v))))) v) same
      ∙ ap (λ d. with_document (numbered doc d) version) (change-document breaks found)

  pub change-words : words_taken change.taken (document_at doc version) + words_put change.put ≡ touched old new
  change-words =
      let words_left = ap word_total (ap (λ (d : Document). d.leaves) (taken_of sentences_before paragraphs_before (taken old new) (text_leaves old))) in
      let words_gone = all_words sentences_before paragraphs_before (without (texts new) (texts old)) (texts old) before in
      let both = sum_by-filter_both (is_one_of (taken old new)) (λ leaf. not (is_one_of (taken old new) leaf)) (λ _. refl) (λ leaf. length leaf.words) (text_leaves old) in
      let counted = words_touched old new made.keeps_order.apart_before in
      omega (arith, words_left, words_gone, both, counted, ap₂ words_taken made.went is, ap words_put made.came, words_of_put (put old new))
