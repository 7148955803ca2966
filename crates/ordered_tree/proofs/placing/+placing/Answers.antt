-- One child more has its slot, then an element, and what is known of them.
use Rattle.std.proofs.Common.{◌≡◌, ◌+◌, [], Some, length, map, reverse, slice_set, sym, ap, ap₂, ◌∙◌, arith, subst}
use Rattle.std.proofs.lemmas.List.{nil_from_length}
use Rattle.doc_grammar.specs.Limits.{nodes_count}
use Rattle.ordered_tree.specs.Counts.{word_counts, element_depths}
use Rattle.ordered_tree.specs.Numbered.{Children, child_then, first_of, last_from, plain_children}
use Rattle.ordered_tree.specs.RefView.{ref_node, ref_nodes}
use Rattle.ordered_tree.specs.Stands.{round_first, round_next}
use Rattle.ordered_tree.specs.declared.slot.Held.TheVariants.{Element}
use Rattle.ordered_tree.specs.steps.Placing.{AllBelow, Below, all_placed, placed}
use Rattle.ordered_tree.proofs.BuildingLemmas.{element_depths-count}
use Rattle.ordered_tree.proofs.PlacingLemmas.{all_placed-then, all_placed-none, length-placed, length-all_placed, placed-element, reverse-pop}
use Rattle.ordered_tree.proofs.SlotsLemmas.{some_node}
use Rattle.ordered_tree.proofs.placing.+placing.Goals as goal

pub place_children-loop-kid-preserved : goal.place_children-loop-kid-preserved
place_children-loop-kid-preserved t c =
    let inv = c.loop-kid.invariant in
    let around = c.loop-kid.around in
    let slots = c.loop-kid.slots.items in
    let kid = c.in-Some.kid in
    let n = ref_node kid in
    let rest : Children = ref_nodes (map ref_node (reverse c.pop.new.self.items)) in
    let left-is : ref_nodes (map ref_node (reverse c.loop-kid.left.items)) ≡ child_then n rest =
    ap (λ l. ref_nodes (map ref_node l)) (reverse-pop c.loop-kid.left.items c.pop.new.self.items kid c.in-Some.ensures.items) in
    let next-is : c.last_reference-next.result ≡ first_of rest =
    c.last_reference-next.ensures ∙ ap (λ l. first_of (ref_nodes (map ref_node (reverse l)))) c.as_slice-in-Some.ensures.value in
    let following : c.following-around.result ≡ round_next around n =
    c.following-around.ensures
    ∙ ap₂ (λ r w. record around { previous = Some r; number = around.number + 1; before = around.before + w }) c.reference-node.ensures c.in_ok-done.ensures.words in
    let filled : c.place_tree.new.slots.items ≡ placed (record around { next = first_of rest }) n slots =
    c.in_ok-done.ensures.slots ∙ ap (λ x. placed (record around { next = x }) n slots) next-is in
    let long : length c.place_tree.new.slots.items ≡ length slots = ap length filled ∙ length-placed n (record around { next = first_of rest }) slots in
    let low : Below (length slots) n × AllBelow (length slots) rest = subst (AllBelow (length slots)) left-is inv.below in
    record {
      slots = ap₂ (λ a s. all_placed a rest s) following filled ∙ sym (all_placed-then around n rest slots) ∙ ap (λ ns. all_placed around ns slots) (sym left-is) ∙ inv.slots;
      last = ap (λ a. last_from a.previous rest) following ∙ ap (λ ns. last_from around.previous ns) (sym left-is) ∙ inv.last;
      words = omega (arith, ap (λ a. a.before) following, ap (λ ns. word_counts (plain_children ns)) left-is, inv.words);
      levels = omega (arith, c.greater-levels.ensures, c.in_ok-done.ensures.levels, ap (λ ns. element_depths (plain_children ns)) left-is, inv.levels);
      nodes = omega (arith, c.in_ok-done.ensures.nodes, ap (λ ns. nodes_count (plain_children ns)) left-is, inv.nodes);
      below = subst (λ l. AllBelow l rest) (sym long) low.1;
      number = omega (arith, ap (λ a. a.number) following, c.in_ok-done.ensures.nodes, some_node n, inv.number);
      none = ap (λ a. a.next) following ∙ inv.none;
    }

pub place_children-returns-clause-slots : goal.place_children-returns-clause-slots
place_children-returns-clause-slots t c =
    let none : c.loop-kid.left.items ≡ [] = nil_from_length c.loop-kid.left.items (omega (arith, c.in_default.ensures.cases.0)) in
    sym (all_placed-none c.loop-kid.around c.loop-kid.slots.items)
    ∙ ap (λ l. all_placed c.loop-kid.around (ref_nodes (map ref_node (reverse l))) c.loop-kid.slots.items) (sym none)
    ∙ c.loop-kid.invariant.slots

pub place_element-index_mut-requires : goal.place_element-index_mut-requires
place_element-index_mut-requires t c =
    let kids : Children = ref_nodes (map ref_node c.args.kids) in
    let long : length c.place_children.new.slots.items ≡ length c.args.slots.now.items =
    ap length c.in_ok-row.ensures.slots ∙ length-all_placed kids (round_first c.args.around.before c.args.node) c.args.slots.now.items in
    omega (arith, c.requires.here, long)

pub place_element-overflow_add-result : goal.place_element-overflow_add-result
place_element-overflow_add-result t c =
    omega (arith, c.in_ok-row.ensures.levels, element_depths-count (plain_children (ref_nodes (map ref_node c.args.kids))), c.requires.few_nodes)

pub place_element-returns-clause-slots : goal.place_element-returns-clause-slots
place_element-returns-clause-slots t c =
    let kids : Children = ref_nodes (map ref_node c.args.kids) in
    let r = c.args.node in
    let row = c.in_ok-row.row in
    let put = Element c.args.name c.args.attrs in
    let inner = all_placed (round_first c.args.around.before r) kids c.args.slots.now.items in
    ap (λ l. slice_set l r.0 (record { held = put; around = c.args.around; first_child = row.first; last_child = row.last; words = row.words })) c.in_ok-row.ensures.slots
    ∙ ap (λ f. slice_set inner r.0 (record { held = put; around = c.args.around; first_child = f; last_child = row.last; words = row.words })) c.in_ok-row.ensures.first
    ∙ ap₂ (λ l w. slice_set inner r.0 (record { held = put; around = c.args.around; first_child = first_of kids; last_child = l; words = w })) c.in_ok-row.ensures.last c.in_ok-row.ensures.words
    ∙ sym (placed-element c.args.around r c.args.name c.args.attrs kids c.args.slots.now.items)
