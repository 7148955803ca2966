-- The document that an edit drafts is the edit at the places of the elements, and its root stays.
use Rattle.std.proofs.Common.{◌≡◌, true, ◌&&◌, ◌||◌, not, List, [], ◌∷◌, Option, refl, sym, ap, ap₂, ◌∙◌}
use Rattle.std.specs.List.{All, list_any}
use Rattle.std.proofs.lemmas.List.Elements.{All-head, All-tail}
use Rattle.ft_base.specs.Lists.{is_empty}
use Rattle.ft_base.specs.declared.ids.NodeRef.{NodeRef}
use Rattle.ordered_tree.specs.Numbered.{Numbered, plain, plain_children, reference, is_element}
use Rattle.path_nodes.specs.References.{IsElement}
use Rattle.plain_tree.specs.Document.{Nodes}
use Rattle.plain_tree.specs.Edits as plain_edit
use Rattle.plain_tree.specs.declared.place.How.{How}
use Rattle.tree_edits.specs.Edits.{is_among, only}
use Rattle.tree_edits.specs.Fresh.{all_fresh}
use Rattle.tree_edits.specs.Acts.{act_on, root_stays, stays}
use Rattle.tree_edits.proofs.FreshLemmas.{all_fresh-plain}
use Rattle.document_edits.specs.Edited.{edited, edited_nodes, first_or}
use Rattle.document_edits.specs.Targets.{places_of}
use Rattle.document_edits.proofs.PlacesLemmas.{edited-places, root-place}

root-among : (root : Numbered) (refs : List NodeRef) → All (IsElement root) refs → list_any is_empty (places_of root refs) ≡ is_among refs (reference root)
root-among root [] there = refl
root-among root (r ∷ refs) there =
    ap₂ (λ a b. a || b) (root-place root r (All-head (IsElement root) r refs there)) (root-among root refs (All-tail (IsElement root) r refs there))

pub root-kept : (root : Numbered) (refs : List NodeRef) (how : Option How) → is_element root ≡ true → All (IsElement root) refs
    → (stays how || not (list_any is_empty (places_of root refs))) ≡ true → root_stays refs how root ≡ true
root-kept root refs how elem there kept =
    ap₂ (λ a b. a && (stays how || not b)) elem (sym (root-among root refs there)) ∙ kept

pub drafted-plain : (root new : Numbered) (refs own : List NodeRef) (how : Option How) (content : Nodes) → All (IsElement root) refs
    → only new ≡ act_on refs how (all_fresh own content) root → plain new ≡ edited how content (places_of root refs) (plain root)
drafted-plain root new refs own how content there is =
    let nodes : plain_edit.only (plain new) ≡ edited_nodes how content (places_of root refs) (plain root) =
    ap plain_children is
    ∙ edited-places root refs there how (all_fresh own content)
    ∙ ap (λ ns. edited_nodes how ns (places_of root refs) (plain root)) (all_fresh-plain own content) in
    ap (first_or (plain root)) nodes
