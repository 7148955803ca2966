-- How many words an edit touches doesn't depend on which references the nodes have.
use Rattle.std.proofs.Common.{◌≡◌, ◌≢◌, ◌+◌, ◌≤◌, List, [], ◌∷◌, ◌++◌, Option, Some, map, length, drop, option_map, refl, sym, ap, ap₂, ◌∙◌, arith, subst, length-append}
use Rattle.std.specs.List.{All, AllPairs, flat_map}
use Rattle.std.proofs.lemmas.List.{drop_at, length-map, map-append}
use Rattle.std.proofs.lemmas.List.Elements.{All-head, All-tail}
use Rattle.doc_grammar.specs.Limits.{node_count, nodes_count}
use Rattle.ft_base.specs.declared.ids.NodeRef.{NodeRef}
use Rattle.ordered_tree.specs.Numbered.{Numbered, plain}
use Rattle.ordered_tree.specs.Numbering.{numbered}
use Rattle.ordered_tree.specs.Places.{at_place}
use Rattle.ordered_tree.specs.Stands.{references}
use Rattle.path_nodes.specs.References.{IsElement, element_of}
use Rattle.path_nodes.proofs.PlaceLemmas.{element-is, led}
use Rattle.plain_tree.specs.Document.{Nodes}
use Rattle.plain_tree.specs.declared.place.How.{How}
use Rattle.tree_edits.specs.Changed.{touched}
use Rattle.tree_edits.specs.Edits.{only, references_in}
use Rattle.tree_edits.specs.Fresh.{all_fresh, fresh}
use Rattle.tree_edits.specs.Acts.{act_on}
use Rattle.tree_edits.proofs.EditLemmas.{references-are}
use Rattle.tree_edits.proofs.References.{Distinct, distinct_from, times, times-append}
use Rattle.document_edits.specs.Targets.{first_numbered, places_of, reference_at, reference_of, references_after, touched_by}
use Rattle.document_edits.proofs.NumberingLemmas.{Kept, drop-from, fresh-numbered, fresh-own, from, kept-numbers, length-references, numbering, numbers}
use Rattle.document_edits.proofs.RenamedLemmas.{all_renamed, at_place-renamed, reference-renamed, renamed, renamed-all_fresh, renamed-edit, renamed-fresh, touched-renamed}

-- ---- the references at the places of elements

module _ (move : NodeRef → NodeRef) (root : Numbered) where
  one-found : (r : NodeRef) → IsElement root r → reference_at (renamed move root) (element_of root r).place ≡ move r ∷ []
  one-found r x =
      let there : at_place (element_of root r).place root ≡ Some x.spot.stand.node =
      ap (λ e. at_place e.place root) (element-is root r x) ∙ led root x.spot x.among in
      ap reference_of (at_place-renamed move (element_of root r).place root ∙ ap (option_map (renamed move)) there)
      ∙ ap (λ q. q ∷ []) (reference-renamed move x.spot.stand.node ∙ ap move x.refers)

  all-found : (refs : List NodeRef) → All (IsElement root) refs → flat_map (reference_at (renamed move root)) (places_of root refs) ≡ map move refs
  all-found [] there = refl
  all-found (r ∷ refs) there =
      ap₂ (λ a b. a ++ b) (one-found r (All-head (IsElement root) r refs there)) (all-found refs (All-tail (IsElement root) r refs there))

-- ---- the tree and the content, numbered in their order

module _ (root : Numbered) (own : List NodeRef) (content : Nodes) (apart : AllPairs (λ a b. a ≢ b) (references root ++ own)) (count : length own ≡ nodes_count content) where
  abbrev all : List NodeRef
  all = references_in root ++ own

  abbrev move : NodeRef → NodeRef
  move = numbering 0 all

  distinct : Distinct all
  distinct = subst (λ rs. Distinct (rs ++ own)) (references-are root) (distinct_from (references root ++ own) apart)

  kept : (q : NodeRef) → 1 ≤ times q (references_in root) → Kept move q
  kept q there = kept-numbers 0 all q (omega (arith, there, times-append q (references_in root) own))

  long : length all ≡ node_count (plain root) + length own
  long = length-append (references_in root) own ∙ ap (λ n. n + length own) (length-references root)

  moved : map move all ≡ from 0 (node_count (plain root) + length own)
  moved = numbers 0 all distinct ∙ ap (from 0) long

  root-moved : renamed move root ≡ numbered 0 (plain root)
  root-moved =
      ap (renamed move) (sym (fresh-own root own))
      ∙ renamed-fresh move (plain root) all (omega (arith, long))
      ∙ ap (λ rs. fresh rs (plain root)) moved
      ∙ fresh-numbered (plain root) 0 (length own)

  own-moved : map move own ≡ references_after (plain root) content
  own-moved =
      let prefix : length (map move (references_in root)) ≡ node_count (plain root) = length-map (references_in root) move ∙ length-references root in
      let start : 0 + node_count (plain root) ≡ node_count (plain root) = omega arith in
      sym (drop_at (map move (references_in root)) (map move own) (node_count (plain root)) prefix)
      ∙ ap (drop (node_count (plain root))) (sym (map-append move (references_in root) own) ∙ moved)
      ∙ drop-from (node_count (plain root)) (length own) 0
      ∙ ap₂ from start count

  content-moved : all_renamed move (all_fresh own content) ≡ all_fresh (references_after (plain root) content) content
  content-moved = renamed-all_fresh move content own (omega (arith, count)) ∙ ap (λ rs. all_fresh rs content) own-moved

  module _ (refs : List NodeRef) (there : All (IsElement root) refs) (how : Option How) (new : Numbered) (is : only new ≡ act_on refs how (all_fresh own content) root) where
    found : flat_map (reference_at (numbered 0 (plain root))) (places_of root refs) ≡ map move refs
    found = ap (λ n. flat_map (reference_at n) (places_of root refs)) (sym root-moved) ∙ all-found move root refs there

    edit-moved : act_on (flat_map (reference_at (numbered 0 (plain root))) (places_of root refs)) how (all_fresh (references_after (plain root) content) content) (numbered 0 (plain root))
        ≡ only (renamed move new)
    edit-moved =
        ap₂ (λ rs n. act_on rs how (all_fresh (references_after (plain root) content) content) n) found (sym root-moved)
        ∙ ap (λ ns. act_on (map move refs) how ns (renamed move root)) (sym content-moved)
        ∙ sym (renamed-edit move refs how (all_fresh own content) root kept)
        ∙ ap (all_renamed move) (sym is)

    pub touched-places : touched root new ≡ touched_by how content (places_of root refs) (plain root)
    unfolding touched_by
    touched-places =
        sym (touched-renamed move root new kept)
        ∙ ap₂ touched root-moved (ap (first_numbered (numbered 0 (plain root))) (sym edit-moved))
