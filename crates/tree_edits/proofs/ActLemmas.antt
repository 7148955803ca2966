-- An edit of one element by its reference, as the edit of the elements of a list with this one; and where texts keep their order.
use Rattle.std.proofs.Common.{◌≡◌, ◌≢◌, ℕ, Bool, true, false, ◌||◌, nat_le, List, [], ◌∷◌, ◌++◌, Option, Some, None, length, map, refl, sym, ap, ◌∙◌, arith, inl, inr, subst}
use Rattle.std.specs.List.{AllPairs}
use Rattle.std.proofs.lemmas.Bool.{cases_Bool, cond-false, cond-true, leb-true}
use Rattle.std.proofs.lemmas.List.{take_all}
use Rattle.doc_grammar.specs.Limits.{nodes_count}
use Rattle.ft_base.proofs.Truth.{or_false}
use Rattle.ft_base.specs.Lists.{is_empty}
use Rattle.ft_base.specs.declared.ids.NodeRef.{NodeRef}
use Rattle.ordered_tree.specs.Numbered.{Numbered, element_at, text_at, Children, no_children, child_then}
use Rattle.ordered_tree.specs.Stands.{references}
use Rattle.ordered_tree.specs.Stored.{Stored}
use Rattle.ordered_tree.proofs.ApartLemmas.{AllPairs-left}
use Rattle.plain_tree.specs.Document.{Nodes, nodes, no_nodes}
use Rattle.plain_tree.specs.View.{node}
use Rattle.plain_tree.specs.declared.place.How.{How}
use Rattle.plain_tree.specs.declared.place.How.TheVariants as H
use Rattle.plain_tree.specs.declared.tree.Attr.{Attr}
use Rattle.plain_tree.specs.declared.tree.Tree.{Tree}
use Rattle.tree_edits.specs.Changed.{KeepsOrder}
use Rattle.tree_edits.specs.Edited.{IsEdited}
use Rattle.tree_edits.specs.Edits.{only, append, all_changed, changed, inserted, insertion, is_among, is_same, joined, nothing, references_of, removal, replacement}
use Rattle.tree_edits.specs.Fresh.{all_fresh}
use Rattle.tree_edits.specs.Acts.{act, act_on}
use Rattle.tree_edits.proofs.ChangedLemmas.{same_choice}
use Rattle.tree_edits.proofs.EditLemmas.{turned, insertion_order, removal_order, replacement_order}
use Rattle.tree_edits.proofs.FreshLemmas.{all_fresh-refs}
use Rattle.tree_edits.proofs.PlainLemmas.{append_none}

one_among : (r q : NodeRef) → is_among (r ∷ []) q ≡ is_same r q
one_among r q = or_false (is_same q r) false refl ∙ turned r q

pub act_insertion : (r : NodeRef) (how : How) (kids : Children) (root : Numbered) → act_on (r ∷ []) (Some how) kids root ≡ insertion how kids r root
act_insertion r how kids root = ap joined (same_choice (is_among (r ∷ [])) (is_same r) (one_among r) (inserted how kids) root)

pub act_replacement : (r : NodeRef) (kids : Children) (root : Numbered) → act_on (r ∷ []) None kids root ≡ replacement kids r root
act_replacement r kids root = ap joined (same_choice (is_among (r ∷ [])) (is_same r) (one_among r) (λ n. kids) root)

pub fresh-refs-are : (refs : List NodeRef) (content : Nodes) → length refs ≡ nodes_count content → references_of (all_fresh refs content) ≡ refs
fresh-refs-are refs content count = all_fresh-refs refs content (omega (arith, count)) ∙ take_all (nodes_count content) refs (omega (arith, count))

pub insertion-edited : (r : NodeRef) (how : How) (content : Nodes) (old new : Stored) → IsEdited (act_on (r ∷ []) (Some how)) content old new → IsEdited (λ kids. insertion how kids r) content old new
insertion-edited r how content old new e = record { refs = e.refs; apart = e.apart; count = e.count; document = e.document ∙ act_insertion r how (all_fresh e.refs content) old.root; slots = e.slots }

pub replacement-edited : (r : NodeRef) (content : Nodes) (old new : Stored) → IsEdited (act_on (r ∷ []) None) content old new → IsEdited (λ kids. replacement kids r) content old new
replacement-edited r content old new e = record { refs = e.refs; apart = e.apart; count = e.count; document = e.document ∙ act_replacement r (all_fresh e.refs content) old.root; slots = e.slots }

pub removal-edited : (rs : List NodeRef) (content : List Tree) (old new : Stored) → content ≡ [] → IsEdited (act_on rs None) (nodes (map node content)) old new → IsEdited (λ kids. removal rs) no_nodes old new
removal-edited rs [] old new is e = record { refs = e.refs; apart = e.apart; count = e.count; document = e.document; slots = e.slots }
removal-edited rs (t ∷ content) old new is e = cc

-- ---- texts keep their order

pub nothing_order : (root : Numbered) (refs rs : List NodeRef) → AllPairs (λ a b. a ≢ b) (references root ++ refs) → (new : Numbered) → only new ≡ removal rs root → KeepsOrder root new
nothing_order root refs rs apart new is = removal_order root rs (AllPairs-left (λ a b. a ≢ b) (references root) refs apart) new is

-- where no element is chosen
mutual
  none_chosen : (change : Numbered → Children) (n : Numbered) → changed (is_among []) change n ≡ only n
  none_chosen change (element_at r name attrs kids) = ap (λ ks. only (element_at r name attrs ks)) (none_chosen_below change kids)
  none_chosen change (text_at r bytes) = refl

  none_chosen_below : (change : Numbered → Children) (ns : Children) → all_changed (is_among []) change ns ≡ ns
  none_chosen_below change no_children = refl
  none_chosen_below change (child_then n ns) =
      ap (λ m. append m (all_changed (is_among []) change ns)) (none_chosen change n) ∙ ap (child_then n) (none_chosen_below change ns)

act_none : (how : Option How) (kids : Children) (root : Numbered) → act_on [] how kids root ≡ removal [] root
act_none how kids root = ap joined (none_chosen (act how kids) root) ∙ ap joined (sym (none_chosen nothing root))

-- where no content is inserted
inserted_none : (how : How) (r : NodeRef) (name : List ℕ) (attrs : List Attr) (kids : Children) → inserted how no_children (element_at r name attrs kids) ≡ only (element_at r name attrs kids)
inserted_none H.First r name attrs kids = refl
inserted_none H.Last r name attrs kids = ap (λ ks. only (element_at r name attrs ks)) (append_none kids)
inserted_none H.Before r name attrs kids = refl
inserted_none H.After r name attrs kids = refl

module _ (chosen : NodeRef → Bool) (how : How) where
  mutual
    none_inserted : (n : Numbered) → changed chosen (inserted how no_children) n ≡ only n
    none_inserted (element_at r name attrs kids) = elim (cases_Bool (chosen r)) [
      | inl holds ↦ cond-true (chosen r) _ _ holds ∙ inserted_none how r name attrs kids
      | inr fails ↦ cond-false (chosen r) _ _ fails ∙ ap (λ ks. only (element_at r name attrs ks)) (none_inserted_below kids)
    ]
    none_inserted (text_at r bytes) = refl

    none_inserted_below : (ns : Children) → all_changed chosen (inserted how no_children) ns ≡ ns
    none_inserted_below no_children = refl
    none_inserted_below (child_then n ns) =
        ap (λ m. append m (all_changed chosen (inserted how no_children) ns)) (none_inserted n) ∙ ap (child_then n) (none_inserted_below ns)

empty_order : (root : Numbered) (chosen refs : List NodeRef) (how : Option How) → AllPairs (λ a b. a ≢ b) (references root ++ refs)
    → (new : Numbered) → only new ≡ act_on chosen how no_children root → KeepsOrder root new
empty_order root chosen refs None apart new is = nothing_order root refs chosen apart new is
empty_order root chosen refs (Some how) apart new is =
    nothing_order root refs [] apart new (is ∙ ap joined (none_inserted (is_among chosen) how root) ∙ ap joined (sym (none_chosen nothing root)))

-- where one element is chosen
one_order : (root : Numbered) (content : Children) → AllPairs (λ a b. a ≢ b) (references root ++ references_of content) → (r : NodeRef) (how : Option How)
    → (new : Numbered) → only new ≡ act_on (r ∷ []) how content root → KeepsOrder root new
one_order root content apart r None new is = replacement_order root content apart r new (is ∙ act_replacement r content root)
one_order root content apart r (Some how) new is = insertion_order root content apart r how new (is ∙ act_insertion r how content root)

pub kept_order : (root : Numbered) (chosen : List NodeRef) (how : Option How) (content : List Tree) (refs : List NodeRef) → (nat_le (length chosen) 1 || is_empty content) ≡ true
    → AllPairs (λ a b. a ≢ b) (references root ++ refs) → length refs ≡ nodes_count (nodes (map node content))
    → (new : Numbered) → only new ≡ act_on chosen how (all_fresh refs (nodes (map node content))) root → KeepsOrder root new
kept_order root [] how content refs once apart count new is = nothing_order root refs [] apart new (is ∙ act_none how (all_fresh refs (nodes (map node content))) root)
kept_order root (r ∷ []) how content refs once apart count new is =
    one_order root (all_fresh refs (nodes (map node content)))
    (subst (λ l. AllPairs (λ a b. a ≢ b) (references root ++ l)) (sym (fresh-refs-are refs (nodes (map node content)) count)) apart) r how new is
kept_order root (r ∷ q ∷ rest) how [] refs once apart count new is = empty_order root (r ∷ q ∷ rest) refs how apart new is
kept_order root (r ∷ q ∷ rest) how (t ∷ content) refs once apart count new is =
    let few : nat_le (length (r ∷ q ∷ rest)) 1 ≡ true = sym (or_false (nat_le (length (r ∷ q ∷ rest)) 1) false refl) ∙ once in
    absurd (omega (arith, leb-true (length (r ∷ q ∷ rest)) 1 few))
