-- What the slot of a node says of it.
use Rattle.std.proofs.Common.{◌≡◌, ◌+◌, ◌<◌, ◌≤◌, true, List, length, get_or, IsTrue, refl, sym, ap, ◌∙◌, arith}
use Rattle.std.specs.List.{All, Contains}
use Rattle.std.proofs.lemmas.List.{get_or-map, length-map}
use Rattle.std.proofs.lemmas.List.Elements.{All-contains, Contains-get_or}
use Rattle.plain_tree.specs.Document.{is_document}
use Rattle.ordered_tree.specs.Counts.{word_count}
use Rattle.ordered_tree.specs.Numbered.{Numbered, element_at, text_at, plain, reference, is_element}
use Rattle.ordered_tree.specs.Slots.{slot, IsIn}
use Rattle.ordered_tree.specs.Stands.{Stand, round_root, stands_in, references}
use Rattle.ft_base.specs.declared.ids.NodeRef.{NodeRef}
use Rattle.ordered_tree.specs.declared.slot.Slot.{Slot}
use Rattle.ordered_tree.proofs.ShiftLemmas.{stands-few}

-- the node that has a reference
pub record Found (root : Numbered) (r : NodeRef) : Type 0 where
  pub stand : Stand
  pub among : Contains (stands_in root) stand
  pub refers : reference stand.node ≡ r

pub found : (root : Numbered) (r : NodeRef) → Contains (references root) r → Found root r
found root r (k, more, is) =
    let other : Stand = record { node = root; around = round_root } in
    let long : k < length (stands_in root) = omega (arith, length-map (stands_in root) (λ s. reference s.node)) in
    record {
      stand = get_or (stands_in root) k other;
      among = Contains-get_or (stands_in root) k other long;
      refers = sym (get_or-map (λ s. reference s.node) (stands_in root) k other r long) ∙ is;
    }

module _ (slots : List Slot) (root : Numbered) (all : All (IsIn slots) (stands_in root)) (r : NodeRef) where
  pub slot-reads : (s : Stand) → Contains (stands_in root) s → reference s.node ≡ r → (d : Slot) → get_or slots r.0 d ≡ slot s
  slot-reads s among refers d =
      let i : IsIn slots s = All-contains (IsIn slots) (stands_in root) s all among in
      ap (λ x. get_or slots x.0 d) (sym refers) ∙ i.holds d

  pub slot-bounds : Contains (references root) r → r.0 < length slots
  slot-bounds there =
      let f : Found root r = found root r there in
      let i : IsIn slots f.stand = All-contains (IsIn slots) (stands_in root) f.stand all f.among in
      omega (arith, i.here, ap (λ x. x.0) f.refers)

  pub slot-few : Contains (references root) r → word_count (plain root) < 2147483648 → (d : Slot) → (get_or slots r.0 d).around.before + (get_or slots r.0 d).words < 2147483648
  slot-few there few d =
      let f : Found root r = found root r there in
      let is : get_or slots r.0 d ≡ slot f.stand = slot-reads f.stand f.among f.refers d in
      let inside = All-contains (λ s. s.around.before + word_count (plain s.node) ≤ word_count (plain root)) (stands_in root) f.stand (stands-few root) f.among in
      omega (arith, inside, ap (λ s. s.around.before) is, ap (λ s. s.words) is)

-- a document is an element
pub document-element : (n : Numbered) → IsTrue (is_document (plain n)) → is_element n ≡ true
document-element (element_at r name attrs kids) h = refl
document-element (text_at r bytes) h = cc
