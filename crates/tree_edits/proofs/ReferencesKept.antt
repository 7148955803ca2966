-- What holds of the references of a document and of content holds of those after an edit.
use Rattle.std.proofs.Common.{ℕ, Bool, List, [], ◌∷◌, ◌++◌, Option, Some, None, inl, inr}
use Rattle.std.specs.List.{All}
use Rattle.std.proofs.lemmas.Bool.{cases_Bool, cond-false, cond-true}
use Rattle.std.proofs.lemmas.List.Elements.{All-nil, All-cons, All-head, All-tail, All-append}
use Rattle.ft_base.specs.declared.ids.NodeRef.{NodeRef}
use Rattle.ordered_tree.specs.Numbered.{Numbered, element_at, text_at, Children, no_children, child_then}
use Rattle.ordered_tree.proofs.SlotsLemmas.{All-left, All-right}
use Rattle.plain_tree.specs.declared.place.How.{How}
use Rattle.plain_tree.specs.declared.place.How.TheVariants as H
use Rattle.std.proofs.Common.{sym, subst}
use Rattle.tree_edits.specs.Edits.{only, append, text_then, joined, references_in, references_of, changed, all_changed, inserted}
use Rattle.tree_edits.specs.Acts.{act}

module _ (P : NodeRef → Type 0) where
  pub all-append : (a b : Children) → All P (references_of a) → All P (references_of b) → All P (references_of (append a b))
  all-append no_children b h k = k
  all-append (child_then n a) b h k =
      All-append P (references_in n) (references_of (append a b)) (All-left P (references_in n) (references_of a) h)
      (all-append a b (All-right P (references_in n) (references_of a) h) k)

  pub all-only : (n : Numbered) → All P (references_in n) → All P (references_of (only n))
  all-only n h = All-append P (references_in n) [] h (All-nil P)

  all-text_then : (r : NodeRef) (bytes : List ℕ) (ns : Children) → P r → All P (references_of ns) → All P (references_of (text_then r bytes ns))
  all-text_then r [] ns p h = h
  all-text_then r (c ∷ bytes) no_children p h = All-cons P r [] p h
  all-text_then r (c ∷ bytes) (child_then (text_at q more) ns) p h = All-cons P r (references_of ns) p (All-tail P q (references_of ns) h)
  all-text_then r (c ∷ bytes) (child_then (element_at q name attrs kids) ns) p h = All-cons P r (references_of (child_then (element_at q name attrs kids) ns)) p h

  pub all-joined : (ns : Children) → All P (references_of ns) → All P (references_of (joined ns))
  all-joined no_children h = h
  all-joined (child_then (element_at r name attrs kids) ns) h =
      let below : All P (references_of kids ++ references_of ns) = All-tail P r (references_of kids ++ references_of ns) h in
      All-cons P r (references_of (joined kids) ++ references_of (joined ns)) (All-head P r (references_of kids ++ references_of ns) h)
      (All-append P (references_of (joined kids)) (references_of (joined ns)) (all-joined kids (All-left P (references_of kids) (references_of ns) below))
      (all-joined ns (All-right P (references_of kids) (references_of ns) below)))
  all-joined (child_then (text_at r bytes) ns) h = all-text_then r bytes (joined ns) (All-head P r (references_of ns) h) (all-joined ns (All-tail P r (references_of ns) h))

  module _ (content : Children) (own : All P (references_of content)) where
    all-inserted : (how : How) (n : Numbered) → All P (references_in n) → All P (references_of (inserted how content n))
    all-inserted H.First (element_at r name attrs kids) h =
        all-only (element_at r name attrs (append content kids))
        (All-cons P r (references_of (append content kids)) (All-head P r (references_of kids) h) (all-append content kids own (All-tail P r (references_of kids) h)))
    all-inserted H.Last (element_at r name attrs kids) h =
        all-only (element_at r name attrs (append kids content))
        (All-cons P r (references_of (append kids content)) (All-head P r (references_of kids) h) (all-append kids content (All-tail P r (references_of kids) h) own))
    all-inserted H.First (text_at r bytes) h = all-only (text_at r bytes) h
    all-inserted H.Last (text_at r bytes) h = all-only (text_at r bytes) h
    all-inserted H.Before n h = all-append content (only n) own (all-only n h)
    all-inserted H.After n h = All-append P (references_in n) (references_of content) h own

    pub all-act : (how : Option How) (n : Numbered) → All P (references_in n) → All P (references_of (act how content n))
    all-act None n h = own
    all-act (Some how) n h = all-inserted how n h

    module _ (chosen : NodeRef → Bool) (how : Option How) where
      mutual
        pub all-changed : (n : Numbered) → All P (references_in n) → All P (references_of (changed chosen (act how content) n))
        all-changed (element_at r name attrs kids) h = elim (cases_Bool (chosen r)) [
          | inl holds ↦ subst (λ ns. All P (references_of ns)) (sym (cond-true (chosen r) _ _ holds)) (all-act how (element_at r name attrs kids) h)
          | inr fails ↦ subst (λ ns. All P (references_of ns)) (sym (cond-false (chosen r) _ _ fails))
              (all-only (element_at r name attrs (all_changed chosen (act how content) kids))
              (All-cons P r (references_of (all_changed chosen (act how content) kids)) (All-head P r (references_of kids) h) (all-all_changed kids (All-tail P r (references_of kids) h))))
        ]
        all-changed (text_at r bytes) h = all-only (text_at r bytes) h

        all-all_changed : (ns : Children) → All P (references_of ns) → All P (references_of (all_changed chosen (act how content) ns))
        all-all_changed no_children h = h
        all-all_changed (child_then n ns) h =
            all-append (changed chosen (act how content) n) (all_changed chosen (act how content) ns)
            (all-changed n (All-left P (references_in n) (references_of ns) h)) (all-all_changed ns (All-right P (references_in n) (references_of ns) h))
