-- The document that an edit makes: one element, whose references are apart and below the slots that are needed.
use Rattle.std.proofs.Common.{◌≡◌, ℕ, ◌<◌, Bool, true, false, not, ◌||◌, List, [], ◌∷◌, ◌++◌, Option, Some, None, length, refl, sym, ap, ◌∙◌, arith, inl, inr, subst}
use Rattle.std.specs.List.{All}
use Rattle.std.proofs.lemmas.Bool.{cases_Bool, cond-false, cond-true}
use Rattle.std.proofs.lemmas.List.{append-nil, take_all}
use Rattle.std.proofs.lemmas.List.Elements.{All-same}
use Rattle.doc_grammar.specs.Limits.{nodes_count}
use Rattle.ft_base.specs.declared.ids.NodeRef.{NodeRef}
use Rattle.ordered_tree.specs.Numbered.{Numbered, element_at, text_at, Children, no_children, child_then, plain, plain_children, is_element, reference}
use Rattle.ordered_tree.specs.RefView.{ref_node}
use Rattle.ordered_tree.specs.Stands.{references}
use Rattle.ordered_tree.specs.declared.ref_tree.RefTree.{RefTree}
use Rattle.plain_tree.specs.Document.{Nodes, is_document, is_text}
use Rattle.plain_tree.specs.declared.place.How.{How}
use Rattle.plain_tree.specs.declared.place.How.TheVariants as H
use Rattle.plain_tree.proofs.JoiningLemmas.{document_made}
use Rattle.tree_edits.specs.Edits.{only, append, joined, references_in, references_of, changed, all_changed, is_among}
use Rattle.tree_edits.specs.Fresh.{all_fresh}
use Rattle.tree_edits.specs.Acts.{act, act_on, stays, root_stays}
use Rattle.tree_edits.proofs.EditLemmas.{references-are}
use Rattle.tree_edits.proofs.FreshLemmas.{all_fresh-refs}
use Rattle.tree_edits.proofs.PlainLemmas.{plain-joined}
use Rattle.tree_edits.proofs.ReferencesKept.{all-joined, all-changed}
use Rattle.tree_edits.proofs.RowsJoined.{row, row_append}

-- an element with the root's reference stands where the root stood
pub record IsRoot (ns : Children) (r : NodeRef) : Type 0 where
  pub root : Numbered
  pub alone : ns ≡ only root
  pub refers : reference root ≡ r
  pub element : is_element root ≡ true

joined_root : (raw : Children) (r : NodeRef) → IsRoot raw r → IsRoot (joined raw) r
joined_root raw r i = by_root i.root i.alone i.refers i.element
  where
    by_root : (n : Numbered) → raw ≡ only n → reference n ≡ r → is_element n ≡ true → IsRoot (joined raw) r
    by_root (element_at q name attrs kids) alone refers element =
        record { root = element_at q name attrs (joined kids); alone = ap joined alone; refers = refers; element = refl }
    by_root (text_at q bytes) alone refers element = cc

acted_root : (how : Option How) (content : Children) (r : NodeRef) (name : List ℕ) (attrs : _) (kids : Children) → stays how ≡ true → IsRoot (act how content (element_at r name attrs kids)) r
acted_root None content r name attrs kids h = cc
acted_root (Some H.First) content r name attrs kids h = record { root = element_at r name attrs (append content kids); alone = refl; refers = refl; element = refl }
acted_root (Some H.Last) content r name attrs kids h = record { root = element_at r name attrs (append kids content); alone = refl; refers = refl; element = refl }
acted_root (Some H.Before) content r name attrs kids h = cc
acted_root (Some H.After) content r name attrs kids h = cc

stays_chosen : (a b : Bool) → (a || not b) ≡ true → b ≡ true → a ≡ true
stays_chosen true b h is = refl
stays_chosen false true h is = cc
stays_chosen false false h is = cc

pub root_made : (refs : List NodeRef) (how : Option How) (content : Children) (root : Numbered) → root_stays refs how root ≡ true → IsRoot (act_on refs how content root) (reference root)
root_made refs how content (text_at r bytes) h = cc
root_made refs how content (element_at r name attrs kids) h =
    elim (cases_Bool (is_among refs r)) [
      | inl holds ↦ joined_root (changed (is_among refs) (act how content) (element_at r name attrs kids)) r
          (subst (λ ns. IsRoot ns r) (sym (cond-true (is_among refs r) _ _ holds)) (acted_root how content r name attrs kids (stays_chosen (stays how) (is_among refs r) h holds)))
      | inr fails ↦ joined_root (changed (is_among refs) (act how content) (element_at r name attrs kids)) r
          (subst (λ ns. IsRoot ns r) (sym (cond-false (is_among refs r) _ _ fails))
          (record { root = element_at r name attrs (all_changed (is_among refs) (act how content) kids); alone = refl; refers = refl; element = refl }))
    ]

-- the last of nodes that are one
pub last_only : (xs : Children) (x y : Numbered) → append xs (only x) ≡ only y → x ≡ y
last_only no_children x y is = cc
last_only (child_then n no_children) x y is = cc
last_only (child_then n (child_then m ns)) x y is = cc

module _ (chosen : List NodeRef) (how : Option How) (content : Nodes) (refs : List NodeRef) (root new : Numbered) (stay : root_stays chosen how root ≡ true) (is : only new ≡ act_on chosen how (all_fresh refs content) root) where
  abbrev raw : Children
  raw = changed (is_among chosen) (act how (all_fresh refs content)) root

  same : IsRoot (act_on chosen how (all_fresh refs content) root) (reference root)
  same = root_made chosen how (all_fresh refs content) root stay

  new-is : new ≡ same.root
  new-is = last_only no_children new same.root (is ∙ same.alone)

  pub new-refers : reference new ≡ reference root
  new-refers = ap reference new-is ∙ same.refers

  new-element : is_element new ≡ true
  new-element = ap is_element new-is ∙ same.element

  no_text : (n : Numbered) → is_element n ≡ true → is_text (plain n) ≡ false
  no_text (element_at r name attrs kids) h = refl
  no_text (text_at r bytes) h = cc

  pub new-document : is_document (plain new) ≡ true
  new-document = document_made (plain new) (plain_children raw) (no_text new new-element) (ap plain_children is ∙ plain-joined raw)

  new-references : references_of (act_on chosen how (all_fresh refs content) root) ≡ references new
  new-references = ap references_of (sym is) ∙ append-nil (references_in new) ∙ sym (references-are new)

  pub new-below : (bound : ℕ) → length refs ≡ nodes_count content → All (λ r. r.0 < bound) (references root) → All (λ r. r.0 < bound) refs → All (λ r. r.0 < bound) (references new)
  new-below bound count old own =
      let fresh-refs : references_of (all_fresh refs content) ≡ refs =
      all_fresh-refs refs content (omega (arith, count)) ∙ take_all (nodes_count content) refs (omega (arith, count)) in
      All-same (λ r. r.0 < bound) (references new) (references_of (act_on chosen how (all_fresh refs content) root)) (sym new-references)
      (all-joined (λ r. r.0 < bound) raw
      (all-changed (λ r. r.0 < bound) (all_fresh refs content) (All-same (λ r. r.0 < bound) (references_of (all_fresh refs content)) refs fresh-refs own) (is_among chosen) how root
      (All-same (λ r. r.0 < bound) (references_in root) (references root) (sym (references-are root)) old)))

-- the one tree that was made stands for the document after the edit
pub made_is : (chosen : List NodeRef) (how : Option How) (kids : Children) (root old : Numbered) (prefix items : List RefTree) (new : RefTree) → old ≡ root → root_stays chosen how root ≡ true
    → items ≡ prefix ++ new ∷ [] → row items ≡ joined (changed (is_among chosen) (act how kids) old) → only (ref_node new) ≡ act_on chosen how kids root
made_is chosen how kids root old prefix items new old-is stay items-is row-is =
    let i : IsRoot (act_on chosen how kids root) (reference root) = root_made chosen how kids root stay in
    let last : append (row prefix) (only (ref_node new)) ≡ only i.root =
    sym (row_append prefix (new ∷ [])) ∙ ap row (sym items-is) ∙ row-is ∙ ap (act_on chosen how kids) old-is ∙ i.alone in
    ap only (last_only (row prefix) (ref_node new) i.root last) ∙ sym i.alone
