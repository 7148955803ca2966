-- The slots that were filled stand for the document.
use Rattle.std.proofs.Common.{◌≡◌, ◌≢◌, ℕ, List, length, get_or, sym, ap, ap₂, ◌∙◌, arith, subst}
use Rattle.std.proofs.lemmas.List.Elements.{All-same}
use Rattle.doc_grammar.specs.Limits.{node_count}
use Rattle.ordered_tree.specs.Counts.{element_depth}
use Rattle.ordered_tree.specs.Numbered.{Numbered, plain}
use Rattle.ordered_tree.specs.RefView.{ref_node}
use Rattle.ordered_tree.specs.Slots.{root_of, free_from, IsCounted, IsDocument}
use Rattle.ordered_tree.specs.Stands.{round_root}
use Rattle.ordered_tree.specs.declared.around.Around.{Around}
use Rattle.ordered_tree.specs.declared.slot.Held.TheVariants.{Free}
use Rattle.ordered_tree.specs.declared.slot.Slot.{Slot}
use Rattle.ordered_tree.specs.steps.FreeSlots.{free_numbers}
use Rattle.ordered_tree.specs.steps.LinksBelow.{LinksBelow}
use Rattle.ordered_tree.specs.steps.Placing.{Below, placed}
use Rattle.ordered_tree.proofs.ReferencedLemmas.{empty, filled, links-filled, low-empty, nodes-fit, length-filled, root-is, IsDocument-filled}
use Rattle.ordered_tree.proofs.doc_tree.DocTree.from_referenced.Goals.{In_ok-slots}
use Rattle.ordered_tree.proofs.doc_tree.DocTree.from_referenced.Goals as goal

pub place_tree-requires-clause-below : goal.place_tree-requires-clause-below
place_tree-requires-clause-below c =
    let root = ref_node c.args.tree in
    low-for root c.args.slots c.in-Ok.filled.items c.in-Ok.ensures (low-empty root c.args.slots c.requires.apart c.requires.below)
  where
    low-for : (root : Numbered) (count : ℕ) (slots : List Slot) → slots ≡ empty count → Below (length (empty count)) root → Below (length slots) root
    low-for root count slots is h = subst (λ l. Below (length l) root) (sym is) h

pub place_tree-requires-clause-few_nodes : goal.place_tree-requires-clause-few_nodes
place_tree-requires-clause-few_nodes c = omega (arith, nodes-fit (ref_node c.args.tree) c.args.slots c.requires.apart c.requires.below, c.requires.few_slots)

pub place_tree-requires-clause-few_words : goal.place_tree-requires-clause-few_words
place_tree-requires-clause-few_words c = omega (arith, ap (λ a. a.before) c.root.ensures, c.requires.few_words)

-- what is placed into empty slots, round which nothing stands
all-placed : (count : ℕ) (root : Numbered) (around : Around) (before after : List Slot) → around ≡ round_root → before ≡ empty count
    → after ≡ placed around root before → after ≡ filled count root
all-placed count root around before after alone none is = is ∙ ap₂ (λ a l. placed a root l) alone none

filled-is : (c : In_ok-slots) → c.place_tree.new.slots.items ≡ filled c.args.slots (ref_node c.args.tree)
filled-is c =
    all-placed c.args.slots (ref_node c.args.tree) c.root.result c.in-Ok.filled.items c.place_tree.new.slots.items
    c.root.ensures c.in-Ok.ensures c.in_ok-done.ensures.slots

pub link_free-free-requires : goal.link_free-free-requires
link_free-free-requires c =
    let root = ref_node c.args.tree in
    let is =
    all-placed c.args.slots root c.root.result c.in-Ok.filled.items c.place_tree.new.slots.items
    c.root.ensures c.in-Ok.ensures c.in_ok-done.ensures.slots in
    omega (arith, ap length is, length-filled root c.args.slots c.requires.apart c.requires.below, c.requires.few_slots)

pub from_vec-requires : goal.from_vec-requires
from_vec-requires c =
    let root = ref_node c.args.tree in
    c.link_free-free.ensures.below
    (All-same (LinksBelow 2147483648) c.place_tree.new.slots.items (filled c.args.slots root)
    (all-placed c.args.slots root c.root.result c.in-Ok.filled.items c.place_tree.new.slots.items
    c.root.ensures c.in-Ok.ensures c.in_ok-done.ensures.slots)
    (links-filled root c.args.slots c.requires.apart c.requires.below 2147483648 (omega (arith, c.requires.few_slots))))

module _ (c : In_ok-slots) where
  abbrev root : Numbered
  root = ref_node c.args.tree

  abbrev new : List Slot
  new = c.link_free-free.new.slots.items

  long : length new ≡ length (filled c.args.slots root)
  long = c.link_free-free.ensures.long ∙ ap length (filled-is c)

  kept : (number : ℕ) (d : Slot) → (get_or (filled c.args.slots root) number d).held ≢ Free → get_or new number d ≡ get_or (filled c.args.slots root) number d
  kept = subst (λ l. (number : ℕ) (d : Slot) → (get_or l number d).held ≢ Free → get_or new number d ≡ get_or l number d) (filled-is c) c.link_free-free.ensures.kept

  links : free_from (length new) new c.link_free-free.result ≡ free_numbers 0 (filled c.args.slots root)
  links = c.link_free-free.ensures.free ∙ ap (free_numbers 0) (filled-is c)

  same-root : root_of new ≡ root
  same-root = root-is root c.args.slots c.requires.apart c.requires.below new c.link_free-free.result long kept links c.requires.rooted

  stored : IsDocument new c.link_free-free.result root
  stored =
      IsDocument-filled root c.args.slots c.requires.apart c.requires.below new c.link_free-free.result long kept links c.requires.rooted c.requires.document c.requires.few_slots
      c.requires.few_words

pub invariant_of-result : goal.invariant_of-result
invariant_of-result c =
    subst (λ l. IsCounted l c.link_free-free.result c.in_ok-done.done.nodes c.in_ok-done.done.levels) (sym c.in_ok-slots.ensures)
    (record {
      stored = subst (IsDocument (new c) c.link_free-free.result) (sym (same-root c)) (stored c);
      nodes_are = c.in_ok-done.ensures.nodes ∙ ap (λ n. node_count (plain n)) (sym (same-root c));
      levels_are = c.in_ok-done.ensures.levels ∙ ap (λ n. element_depth (plain n)) (sym (same-root c));
    })

pub returns : goal.returns
returns c =
    ap (λ l. record { root = root_of l; slots = length l }) c.in_ok-slots.ensures
    ∙ ap₂ (λ r s. record { root = r; slots = s }) (same-root c) (long c ∙ length-filled (root c) c.args.slots c.requires.apart c.requires.below)
