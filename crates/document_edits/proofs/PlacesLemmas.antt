-- An edit of elements by their references is the edit of the plain document at their places.
use Rattle.std.proofs.Common.{◌≡◌, ◌+◌, ℕ, Bool, true, ◌||◌, List, [], ◌∷◌, ◌++◌, Option, Some, None, get_or, refl, sym, ap, ap₂, ◌∙◌, inl, inr}
use Rattle.std.specs.List.{All, Contains}
use Rattle.std.specs.Str.{bytes_eq}
use Rattle.std.proofs.lemmas.Bool.{cases_Bool, cond-false, cond-true}
use Rattle.std.proofs.lemmas.List.Elements.{All-head, All-tail, Contains-get_or}
use Rattle.ft_base.proofs.Truth.{bytes_eq_turned, same_tests}
use Rattle.ft_base.specs.Lists.{is_empty}
use Rattle.ft_base.specs.declared.ids.NodeRef.{NodeRef}
use Rattle.ordered_tree.proofs.SlotsLemmas.{All-left, All-right}
use Rattle.ordered_tree.specs.Numbered.{Numbered, element_at, text_at, Children, no_children, child_then, plain, plain_children, reference, first_of, is_element}
use Rattle.ordered_tree.specs.Stands.{round_root, round_first, round_next}
use Rattle.ordered_tree.specs.declared.around.Around.{Around}
use Rattle.path_nodes.specs.References.{Spot, spots, child_spots, spots_in, spot_reference, element_of, IsElement}
use Rattle.path_nodes.proofs.PlaceLemmas.{element-is, led, same-element}
use Rattle.path_nodes.proofs.SelectedLemmas.{root-placed}
use Rattle.ordered_tree.specs.Places.{at_place}
use Rattle.plain_tree.specs.Document.{Node, element, Nodes}
use Rattle.plain_tree.specs.Edits as plain_edit
use Rattle.plain_tree.specs.declared.place.How.{How}
use Rattle.tree_edits.specs.Edits.{changed, all_changed, is_among, is_same}
use Rattle.tree_edits.specs.Acts as by_reference
use Rattle.tree_edits.specs.Acts.{act_on}
use Rattle.tree_edits.proofs.PlainLemmas.{plain-append, plain-inserted, plain-joined}
use Rattle.tree_edits.proofs.References.{same_ref, same_self}
use Rattle.document_edits.specs.Edited.{act, all_changed_at, changed_at, edited_nodes, is_one_of}
use Rattle.document_edits.specs.Targets.{places_of}

-- ---- node by node

-- an element is chosen by its reference where it is chosen by its place
abbrev pub ChosenAlike : (NodeRef → Bool) → (List ℕ → Bool) → Spot → Type 0
ChosenAlike chosen at s = is_element s.stand.node ≡ true → chosen (spot_reference s) ≡ at s.place

module _ (chosen : NodeRef → Bool) (at : List ℕ → Bool) (change : Numbered → Children) (plain_change : Node → Nodes) (same : (m : Numbered) → plain_children (change m) ≡ plain_change (plain m)) where
  mutual
    unfolding spots child_spots

    pub changed-at : (n : Numbered) (place : List ℕ) (a : Around) → All (ChosenAlike chosen at) (spots place a n) → plain_children (changed chosen change n) ≡ changed_at at plain_change place (plain n)
    changed-at (element_at r name attrs kids) place a h =
        let own : Spot = record { place = place; stand = record { node = element_at r name attrs kids; around = a } } in
        let below : List Spot = child_spots place 1 (round_first a.before r) kids in
        let here : chosen r ≡ at place = All-head (ChosenAlike chosen at) own below h refl in
        elim (cases_Bool (at place)) [
          | inl holds ↦
              ap plain_children (cond-true (chosen r) _ _ (here ∙ holds))
              ∙ same (element_at r name attrs kids)
              ∙ sym (cond-true (at place) _ _ holds)
          | inr fails ↦
              ap plain_children (cond-false (chosen r) _ _ (here ∙ fails))
              ∙ ap (λ ks. plain_edit.only (element name attrs ks)) (all_changed-at kids place 1 (round_first a.before r) (All-tail (ChosenAlike chosen at) own below h))
              ∙ sym (cond-false (at place) _ _ fails)
        ]
    changed-at (text_at r bytes) place a h = refl

    all_changed-at : (ns : Children) (above : List ℕ) (number : ℕ) (a : Around) → All (ChosenAlike chosen at) (child_spots above number a ns)
        → plain_children (all_changed chosen change ns) ≡ all_changed_at at plain_change above number (plain_children ns)
    all_changed-at no_children above number a h = refl
    all_changed-at (child_then n ns) above number a h =
        let first : List Spot = spots (above ++ number ∷ []) (record a { next = first_of ns }) n in
        let rest : List Spot = child_spots above (number + 1) (round_next a n) ns in
        plain-append (changed chosen change n) (all_changed chosen change ns)
        ∙ ap₂ plain_edit.append (changed-at n (above ++ number ∷ []) (record a { next = first_of ns }) (All-left (ChosenAlike chosen at) first rest h))
        (all_changed-at ns above (number + 1) (round_next a n) (All-right (ChosenAlike chosen at) first rest h))

-- ---- the elements of references, by their places

module _ (root : Numbered) (s : Spot) (among : Contains (spots_in root) s) (elem : is_element s.stand.node ≡ true) where
  abbrev named : (r : NodeRef) → IsElement root r → IsElement root (spot_reference s)
  named r x = record { spot = s; among = among; refers = refl; element = elem; apart = x.apart }

  pub one-alike : (r : NodeRef) → IsElement root r → is_same (spot_reference s) r ≡ bytes_eq s.place (element_of root r).place
  one-alike r x =
      let own : IsElement root (spot_reference s) = named r x in
      same-element root r (spot_reference s) x own
      ∙ bytes_eq_turned (element_of root r).place (element_of root (spot_reference s)).place
      ∙ ap (λ e. bytes_eq e.place (element_of root r).place) (element-is root (spot_reference s) own)

  pub chosen-alike : (refs : List NodeRef) → All (IsElement root) refs → is_among refs (spot_reference s) ≡ is_one_of (places_of root refs) s.place
  chosen-alike [] h = refl
  chosen-alike (r ∷ refs) h =
      ap₂ (λ a b. a || b) (one-alike r (All-head (IsElement root) r refs h)) (chosen-alike refs (All-tail (IsElement root) r refs h))

-- ---- edits

pub plain-act : (how : Option How) (content : Children) (m : Numbered) → plain_children (by_reference.act how content m) ≡ act how (plain_children content) (plain m)
plain-act None content m = refl
plain-act (Some how) content m = plain-inserted how content m

pub edited-places : (root : Numbered) (refs : List NodeRef) → All (IsElement root) refs → (how : Option How) (content : Children)
    → plain_children (act_on refs how content root) ≡ edited_nodes how (plain_children content) (places_of root refs) (plain root)
edited-places root refs there how content =
    let alike : All (ChosenAlike (is_among refs) (is_one_of (places_of root refs))) (spots_in root) =
    (λ k d within elem. chosen-alike root (get_or (spots_in root) k d) (Contains-get_or (spots_in root) k d within) elem refs there) in
    plain-joined (changed (is_among refs) (by_reference.act how content) root)
    ∙ ap plain_edit.joined
    (changed-at (is_among refs) (is_one_of (places_of root refs)) (by_reference.act how content) (act how (plain_children content)) (plain-act how content) root [] round_root alike)

-- ---- the root

empty : (place : List ℕ) → is_empty place ≡ true → place ≡ []
empty [] h = refl
empty (k ∷ place) h = cc

pub root-place : (root : Numbered) (r : NodeRef) → IsElement root r → is_empty (element_of root r).place ≡ is_same (reference root) r
root-place root r x =
    same_tests (is_empty (element_of root r).place) (is_same (reference root) r)
    (λ h.
    let place : [] ≡ x.spot.place = sym (ap (λ e. e.place) (sym (element-is root r x)) ∙ empty (element_of root r).place h) in
    let found : Some root ≡ Some x.spot.stand.node = ap (λ p. at_place p root) place ∙ led root x.spot x.among in
    let is : root ≡ x.spot.stand.node = cc in
    ap (is_same (reference root)) (sym (ap reference is ∙ x.refers)) ∙ same_self (reference root))
    (λ h. ap (λ e. is_empty e.place) (root-placed root r (sym (same_ref (reference root) r h)) x.apart))
