-- The draft of an edit: one element, whose references are apart and below the slots that are needed, with texts in their order.
use Rattle.std.proofs.Common.{◌≡◌, ◌≢◌, ℕ, ◌+◌, ◌<◌, max, Bool, true, ◌||◌, nat_le, List, [], ◌∷◌, ◌++◌, Option, length, map, sym, ap, ◌∙◌, arith, subst}
use Rattle.std.specs.List.{All, AllPairs}
use Rattle.std.proofs.lemmas.List.Elements.{All-weaker}
use Rattle.doc_grammar.specs.Limits.{node_count, nodes_count}
use Rattle.ft_base.specs.Lists.{is_empty}
use Rattle.ft_base.specs.declared.ids.NodeRef.{NodeRef}
use Rattle.ordered_tree.specs.Numbered.{Numbered, Children, plain, reference}
use Rattle.ordered_tree.specs.RefView.{ref_node}
use Rattle.ordered_tree.specs.Slots.{root_ref}
use Rattle.ordered_tree.specs.Stands.{references}
use Rattle.ordered_tree.specs.Stored.{Stored}
use Rattle.ordered_tree.specs.declared.ref_tree.RefTree.{RefTree}
use Rattle.plain_tree.specs.Document.{Nodes, nodes}
use Rattle.plain_tree.specs.View.{node}
use Rattle.plain_tree.specs.declared.place.How.{How}
use Rattle.plain_tree.specs.declared.tree.Tree.{Tree}
use Rattle.tree_edits.specs.Changed.{KeepsOrder}
use Rattle.tree_edits.specs.Edits.{changed, is_among, joined, only, references_in}
use Rattle.tree_edits.specs.Fresh.{all_fresh}
use Rattle.tree_edits.specs.Acts.{act, act_on, root_stays}
use Rattle.tree_edits.specs.steps.Drafting.{IsDraftOf}
use Rattle.tree_edits.specs.steps.Marks.{is_marked}
use Rattle.tree_edits.proofs.ActLemmas.{kept_order}
use Rattle.tree_edits.proofs.ChangedLemmas.{same_choice_of}
use Rattle.tree_edits.proofs.EditLemmas.{references-are}
use Rattle.tree_edits.proofs.EditedLemmas.{made_is, new-below, new-document, new-refers}
use Rattle.tree_edits.proofs.RowsJoined.{row}

-- what is known once the edited root was taken out of the list that was made
pub record Taken (chosen : List NodeRef) (how : Option How) (items : List Tree) (tree : Stored) (old : Numbered) (marks : List Bool) (refs : List NodeRef) (new : RefTree) (slots : ℕ) : Type 0 where
  pub prefix : List RefTree
  pub made : List RefTree
  pub size : ℕ
  pub same : old ≡ tree.root
  pub stay : root_stays chosen how tree.root ≡ true
  pub few_nodes : node_count (plain tree.root) + nodes_count (nodes (map node items)) < 2147483648
  pub once : (nat_le (length chosen) 1 || is_empty items) ≡ true
  pub marked : (r : NodeRef) → r.0 < size → is_marked marks r ≡ is_among chosen r
  pub below : All (λ r. r.0 < size) (references tree.root)
  pub size_is : size ≡ tree.slots
  pub few_slots : size < 2147483648
  pub rooted : reference tree.root ≡ root_ref
  pub apart : AllPairs (λ a b. a ≢ b) (references tree.root ++ refs)
  pub count : length refs ≡ nodes_count (nodes (map node items))
  pub refs_below : All (λ r. r.0 < slots) refs
  pub slots_are : slots ≡ max tree.slots (node_count (plain tree.root) + nodes_count (nodes (map node items)))
  pub row_is : row made ≡ joined (changed (is_marked marks) (act how (all_fresh refs (nodes (map node items)))) old)
  pub popped : made ≡ prefix ++ new ∷ []

module _ (chosen : List NodeRef) (how : Option How) (items : List Tree) (tree : Stored) (old : Numbered) (marks : List Bool) (refs : List NodeRef) (new : RefTree) (slots : ℕ) (t : Taken chosen how items tree old marks refs new slots) where
  abbrev content : Nodes
  content = nodes (map node items)

  abbrev kids : Children
  kids = all_fresh refs content

  document : only (ref_node new) ≡ act_on chosen how kids tree.root
  document =
      let below : All (λ (r : NodeRef). r.0 < t.size) (references_in old) =
      subst (All (λ (r : NodeRef). r.0 < t.size)) (references-are old) (subst (λ root. All (λ (r : NodeRef). r.0 < t.size) (references root)) (sym t.same) t.below) in
      made_is chosen how kids tree.root old t.prefix t.made new t.same t.stay t.popped
      (t.row_is ∙ ap joined (same_choice_of (λ (r : NodeRef). r.0 < t.size) (is_marked marks) (is_among chosen) t.marked (act how kids) old below))

  keeps_order : KeepsOrder tree.root (ref_node new)
  keeps_order = kept_order tree.root chosen how items refs t.once t.apart t.count (ref_node new) document

  pub drafted : IsDraftOf (act_on chosen how) content tree (ref_node new) slots
  drafted = record {
    edited = record { refs = refs; apart = t.apart; count = t.count; document = document; slots = t.slots_are };
    fits = record {
      rooted = new-refers chosen how content refs tree.root (ref_node new) t.stay document ∙ t.rooted;
      document = new-document chosen how content refs tree.root (ref_node new) t.stay document;
      apart = keeps_order.apart;
      below = new-below chosen how content refs tree.root (ref_node new) t.stay document slots t.count
          (All-weaker (λ (r : NodeRef). r.0 < t.size) (λ (r : NodeRef). r.0 < slots) (λ r h. omega (arith, h, t.slots_are, t.size_is)) (references tree.root) t.below) t.refs_below;
      few_slots = omega (arith, t.slots_are, t.size_is, t.few_slots, t.few_nodes);
    };
    order = keeps_order;
  }
