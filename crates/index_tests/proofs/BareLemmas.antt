-- What an edit took and put where a document had no text, or has none after it.
use Rattle.std.proofs.Common.{◌≡◌, ◌≢◌, ◌∙◌, sym, ap, refl, ℕ, List, [], ◌∷◌, map, filter}
use Rattle.std.specs.Prelude.{AllPairs, Option, Some, None}
use Rattle.ft_base.specs.declared.ids.LeafId.{LeafId}
use Rattle.ordered_tree.specs.Leaves.{leaf_of, leaves, leaves_after, texts}
use Rattle.ordered_tree.specs.Numbered.{Numbered}
use Rattle.ordered_tree.specs.Numbering.{numbered}
use Rattle.ordered_tree.specs.Stands.{references}
use Rattle.plain_tree.specs.Document.{Node, element, nodes}
use Rattle.plain_tree.specs.declared.tree.Attr.{Attr}
use Rattle.text_words.specs.Words.{words}
use Rattle.tree_edits.specs.Changed.{Made, Text, put_after, text_references, without}
use Rattle.tree_edits.specs.Edits.{is_among}
use Rattle.tree_edits.specs.declared.change.Change.{Change}
use Rattle.tree_edits.proofs.References.{filter_false}

all_put : (last : Option LeafId) (ts : List Text) → put_after [] last ts ≡ leaves_after last ts
unfolding leaves_after
all_put last [] = refl
all_put last ((r, bytes) ∷ ts) = ap (λ ls. record { leaf = leaf_of r; after = last; words = words bytes } ∷ ls) (all_put (Some (leaf_of r)) ts)

all_taken : (last : Option LeafId) (ts : List Text) → map (λ leaf. leaf.leaf) (leaves_after last ts) ≡ map (λ t. leaf_of t.0) (without [] ts)
unfolding leaves_after
all_taken last [] = refl
all_taken last ((r, bytes) ∷ ts) = ap (λ ids. leaf_of r ∷ ids) (all_taken (Some (leaf_of r)) ts)

pub bare-texts : (document : Node) (name : List ℕ) (attrs : List Attr) → document ≡ element name attrs (nodes []) → texts (numbered 0 document) ≡ []
unfolding numbered
bare-texts document name attrs is = ap (λ d. texts (numbered 0 d)) is

module _ (old new : Numbered) (before : AllPairs (λ a b. a ≢ b) (references old)) (past : AllPairs (λ a b. a ≢ b) (references new)) where
  pub texts-came : (change : Change) → texts old ≡ [] → change.taken ≡ [] → change.put ≡ leaves new → Made old change new
  texts-came change none taken put = record {
    keeps_order = record {
      apart_before = before;
      apart = past;
      order =
          ap (λ (ts : List Text). filter (is_among (map (λ t. t.0) ts)) (text_references new)) none
          ∙ filter_false (is_among []) (text_references new) (λ x some. refl)
          ∙ sym (ap (λ (ts : List Text). filter (is_among (text_references new)) (map (λ t. t.0) ts)) none);
    };
    went = taken ∙ sym (ap (λ (ts : List Text). map (λ t. leaf_of t.0) (without (texts new) ts)) none);
    came = put ∙ sym (all_put None (texts new)) ∙ sym (ap (λ (ts : List Text). put_after ts None (texts new)) none);
  }

  pub texts-went : (change : Change) → texts new ≡ [] → change.taken ≡ map (λ leaf. leaf.leaf) (leaves old) → change.put ≡ [] → Made old change new
  texts-went change none taken put = record {
    keeps_order = record {
      apart_before = before;
      apart = past;
      order =
          ap (λ (ts : List Text). filter (is_among (text_references old)) (map (λ t. t.0) ts)) none
          ∙ sym (filter_false (is_among []) (text_references old) (λ x some. refl))
          ∙ sym (ap (λ (ts : List Text). filter (is_among (map (λ t. t.0) ts)) (text_references old)) none);
    };
    went = taken ∙ all_taken None (texts old) ∙ sym (ap (λ (ts : List Text). map (λ t. leaf_of t.0) (without ts (texts old))) none);
    came = put ∙ sym (ap (λ (ts : List Text). put_after (texts old) None ts) none);
  }
