-- What one more child, an element or a whole node adds: slots in document order, words, levels, and the texts that were read.
use Rattle.std.proofs.Common.{◌≡◌, ℕ, List, ◌+◌, ◌-◌, ◌==◌, ◌++◌, ◌∷◌, [], Some, Err, length, map, refl, sym, ap, ap₂, ◌∙◌, arith, rules, append-nil, subst}
use Rattle.std.specs.Vec.Iter.{into_iter_items}
use Rattle.std.proofs.lemmas.List.{length_push}
use Rattle.doc_grammar.specs.Limits.{node_count, nodes_count}
use Rattle.plain_tree.specs.Document.{element, nodes}
use Rattle.plain_tree.specs.View.{node}
use Rattle.plain_tree.proofs.Views.{node_elem}
use Rattle.tokenizer.specs.Parts.{gap_tag, parts}
use Rattle.tokenizer.specs.declared.tokens.TokenFault.TheVariants as Fault
use Rattle.ordered_tree.specs.Counts.{word_counts, element_depths}
use Rattle.ordered_tree.specs.Leaves.{texts, texts_of}
use Rattle.ordered_tree.specs.Numbered.{last_from}
use Rattle.ordered_tree.specs.Numbering.{numbered, children_numbered, next_sibling}
use Rattle.ordered_tree.specs.Slots.{slot}
use Rattle.ordered_tree.specs.Stands.{stands, child_stands}
use Rattle.ordered_tree.specs.steps.Gathering.{Gathers, parts_of}
use Rattle.ordered_tree.specs.declared.slot.Slot.{Slot}
use Rattle.ordered_tree.proofs.BuildingLemmas.{next_around, next_sibling-first_of, length-added, slots-next, last-next, kids-none, element_done, node_count-some, length-filled, element_depths-count}
use Rattle.ordered_tree.proofs.GatheringLemmas.{Gathers-element, Gathers-none, Gathers-then}
use Rattle.ordered_tree.proofs.building.+adding.Goals as goal

pub add_children-loop-kid-init : goal.add_children-loop-kid-init
add_children-loop-kid-init t c =
    let slots = c.args.slots.now.items in
    let all : into_iter_items c.into_iter-kid-iterator.result ≡ c.args.kids = c.into_iter-kid-iterator.ensures.into_iter_gives.0 ∙ c.into_vec-kid-items.ensures in
    let around = c.first_child-around.ensures in
    record {
      slots = ap₂ (λ a ks. slots ++ map slot (child_stands a (children_numbered (length slots) (nodes (map node ks))))) around all;
      last = ap₂ (λ a ks. last_from a.previous (children_numbered (length slots) (nodes (map node ks)))) around all;
      words = ap₂ (λ a ks. a.before + word_counts (nodes (map node ks))) around all;
      levels = omega (arith, ap (λ ks. element_depths (nodes (map node ks))) all);
      left = c.len-left.ensures ∙ ap length (sym all);
      ends = search rules;
      count = ap (λ ks. length slots + nodes_count (nodes (map node ks))) all;
      fewer = omega (arith, ap (λ ks. nodes_count (nodes (map node ks))) all);
      number = omega (arith, ap (λ a. a.number) around, c.requires.some);
      before = ap (λ a. a.before) around ∙ c.requires.before;
      abbreviations = refl;
      most = refl;
      gathers = λ end g. subst (λ ks. Gathers c.args.read.now (texts_of (children_numbered (length slots) (nodes (map node ks)))) (parts_of c.args.read.now.abbreviations.now (nodes (map node ks))) end) all g;
    }

pub add_children-overflow_sub-left : goal.add_children-overflow_sub-left
add_children-overflow_sub-left t c = omega (arith, c.loop-kid.invariant.left, ap length c.in-Some.ensures.steps.0)

pub add_children-overflow_cast-here : goal.add_children-overflow_cast-here
add_children-overflow_cast-here t c = omega (arith, c.loop-kid.invariant.count, c.requires.few_nodes)

pub add_children-add_tree-requires : goal.add_children-add_tree-requires
add_children-add_tree-requires t c =
    let inv = c.loop-kid.invariant in
    let count = ap (λ l. nodes_count (nodes (map node l))) c.in-Some.ensures.steps.0 in
    (omega (arith, c.decreases, inv.fewer, count), (omega (arith, c.requires.few_nodes, inv.count, count), inv.before))

pub add_children-returns-in_err-added-clause-full : goal.add_children-returns-in_err-added-clause-full
add_children-returns-in_err-added-clause-full t c full =
    let same : Fault.Tokens ≡ c.in_err-added.field-0.0 = rw full at c.from_residual.ensures.1 in
    let inv = c.loop-kid.invariant in
    omega (arith, c.in_err-added.ensures.full (ap Err (sym same)), inv.most, inv.words, inv.before, c.requires.before, ap (λ l. word_counts (nodes (map node l))) c.in-Some.ensures.steps.0)

pub add_children-following-around-requires-clause-number : goal.add_children-following-around-requires-clause-number
add_children-following-around-requires-clause-number t c = omega (arith, c.loop-kid.invariant.number, c.loop-kid.invariant.count, c.requires.few_nodes)

pub add_children-following-around-requires-clause-before : goal.add_children-following-around-requires-clause-before
add_children-following-around-requires-clause-before t c =
    omega (arith, c.loop-kid.invariant.before, c.in_ok-added.ensures.words, c.in_ok-added.ensures.counted, c.add_tree.new.read.few, c.add_tree.new.read.countable)

pub add_children-loop-kid-preserved : goal.add_children-loop-kid-preserved
add_children-loop-kid-preserved t c =
    let before = c.loop-kid.slots.items in
    let after = c.add_tree.new.slots.items in
    let kid = c.in-Some.kid in
    let kids = into_iter_items c.next.new.self in
    let rest = nodes (map node kids) in
    let n = node kid in
    let here : c.len.result ≡ length before = omega arith in
    let next : into_iter_items c.loop-kid.kid-iterator ≡ kid ∷ kids = c.in-Some.ensures.steps.0 in
    let inv = c.loop-kid.invariant in
    let abbreviations = c.args.read.now.abbreviations.now in
    let done = c.in_ok-added.ensures.slots in
    let added = c.in_ok-added.ensures.words in
    let levels = c.in_ok-added.ensures.levels in
    let longer = length-added before after c.loop-kid.around n _ done in
    let following : c.following-around.result ≡ next_around c.loop-kid.around (length before) n =
    c.following-around.ensures ∙ ap₂ (λ h w. record c.loop-kid.around { previous = Some (record { 0 = h }); number = c.loop-kid.around.number + 1; before = c.loop-kid.around.before + w }) here added in
    let left : c.loop-kid.left ≡ length kids + 1 = inv.left ∙ ap length next ∙ omega arith in
    let last : c.loop-kid.left - 1 ≡ length kids = omega arith in
    record {
      slots = ap (λ a. after ++ map slot (child_stands a (children_numbered (length after) rest))) following
          ∙ slots-next before after c.loop-kid.around n _ done kids (next_sibling-first_of _ _ kids (ap (λ l. l == 0) last))
          ∙ ap (λ l. before ++ map slot (child_stands c.loop-kid.around (children_numbered (length before) (nodes (map node l))))) (sym next)
          ∙ inv.slots;
      last = ap (λ a. last_from a.previous (children_numbered (length after) rest)) following
          ∙ last-next before after c.loop-kid.around n _ done rest c.loop-kid.around.previous
          ∙ ap (λ l. last_from c.loop-kid.around.previous (children_numbered (length before) (nodes (map node l)))) (sym next)
          ∙ inv.last;
      words = omega (arith, ap (λ a. a.before) following, ap (λ l. word_counts (nodes (map node l))) next, inv.words);
      levels = omega (arith, c.greater-levels.ensures, levels, ap (λ l. element_depths (nodes (map node l))) next, inv.levels);
      left = last;
      ends = omega (arith, c.in-Some.ensures.steps.1, ap length next, inv.ends);
      count = omega (arith, longer, ap (λ l. nodes_count (nodes (map node l))) next, inv.count);
      fewer = omega (arith, ap (λ l. nodes_count (nodes (map node l))) next, inv.fewer);
      number = omega (arith, ap (λ a. a.number) following, longer, node_count-some n, inv.number);
      before = omega (arith, ap (λ a. a.before) following, c.in_ok-added.ensures.counted, inv.before);
      abbreviations = c.in_ok-added.ensures.gathers.abbreviations ∙ inv.abbreviations;
      most = c.in_ok-added.ensures.gathers.most ∙ inv.most;
      gathers = λ end g. inv.gathers end
          (subst (λ l. Gathers c.loop-kid.read (texts_of (children_numbered (length before) (nodes (map node l)))) (parts_of abbreviations (nodes (map node l))) end) (sym next)
          (Gathers-then abbreviations c.loop-kid.read c.add_tree.new.read end n rest (length before) (length after) longer
          (subst (λ a. Gathers c.loop-kid.read (texts (numbered (length before) n)) (parts a n) c.add_tree.new.read) inv.abbreviations c.in_ok-added.ensures.gathers) g));
    }

pub add_children-overflow_sub-result : goal.add_children-overflow_sub-result
add_children-overflow_sub-result t c =
    omega (arith, c.loop-kid.invariant.words, ap word_counts (kids-none _ _ c.loop-kid.invariant.ends c.in-None.ensures.steps.0))

pub add_children-returns-clause-slots : goal.add_children-returns-clause-slots
unfolding children_numbered child_stands
add_children-returns-clause-slots t c =
    let none = kids-none _ _ c.loop-kid.invariant.ends c.in-None.ensures.steps.0 in
    sym (append-nil c.loop-kid.slots.items)
    ∙ ap (λ ns. c.loop-kid.slots.items ++ map slot (child_stands c.loop-kid.around (children_numbered (length c.loop-kid.slots.items) ns))) (sym none)
    ∙ c.loop-kid.invariant.slots

pub add_children-returns-clause-last : goal.add_children-returns-clause-last
unfolding children_numbered
add_children-returns-clause-last t c =
    let none = kids-none _ _ c.loop-kid.invariant.ends c.in-None.ensures.steps.0 in
    ap (λ ns. last_from c.loop-kid.around.previous (children_numbered (length c.loop-kid.slots.items) ns)) (sym none) ∙ c.loop-kid.invariant.last

pub add_children-returns-clause-words : goal.add_children-returns-clause-words
add_children-returns-clause-words t c =
    omega (arith, c.loop-kid.invariant.words, ap word_counts (kids-none _ _ c.loop-kid.invariant.ends c.in-None.ensures.steps.0))

pub add_children-returns-clause-levels : goal.add_children-returns-clause-levels
add_children-returns-clause-levels t c =
    omega (arith, c.loop-kid.invariant.levels, ap element_depths (kids-none _ _ c.loop-kid.invariant.ends c.in-None.ensures.steps.0))

pub add_children-returns-clause-counted : goal.add_children-returns-clause-counted
add_children-returns-clause-counted t c =
    let inv = c.loop-kid.invariant in
    omega (arith, inv.words, inv.before, c.requires.before, ap word_counts (kids-none _ _ inv.ends c.in-None.ensures.steps.0))

pub add_children-returns-clause-gathers : goal.add_children-returns-clause-gathers
add_children-returns-clause-gathers t c =
    let inv = c.loop-kid.invariant in
    let read = c.loop-kid.read in
    let slots = length c.loop-kid.slots.items in
    let abbreviations = c.args.read.now.abbreviations.now in
    let none = kids-none _ _ inv.ends c.in-None.ensures.steps.0 in
    inv.gathers read (subst (λ ns. Gathers read (texts_of (children_numbered slots ns)) (parts_of abbreviations ns) read) (sym none) (Gathers-none abbreviations read slots))

pub add_element-finish-requires-clause-few : goal.add_element-finish-requires-clause-few
add_element-finish-requires-clause-few t c =
    let filled = length-filled c.open_element.new.slots.items c.add_children.new.slots.items _ _ (nodes (map node c.args.kids)) c.in_ok-row.ensures.slots in
    omega (arith, filled, ap length c.in_ok-open_element.ensures, length_push {X = Slot})

pub add_element-overflow_add-result : goal.add_element-overflow_add-result
add_element-overflow_add-result t c = omega (arith, element_depths-count (nodes (map node c.args.kids)), c.in_ok-row.ensures.levels)

pub add_element-returns-clause-slots : goal.add_element-returns-clause-slots
add_element-returns-clause-slots t c =
    let before = c.args.slots.now.items in
    let here : c.len-here.result ≡ length before = omega arith in
    let kids = nodes (map node c.args.kids) in
    element_done before c.open_element.new.slots.items c.add_children.new.slots.items c.finish.new.slots.items c.len-here.result c.in_ok-name.name c.in_ok-attrs.attrs
    kids c.args.around c.args.is_last c.in_ok-row.row.last c.in_ok-row.row.words
    here c.in_ok-open_element.ensures c.in_ok-row.ensures.slots c.in_ok-row.ensures.last c.in_ok-row.ensures.words c.finish.ensures
    ∙ ap₂ (λ n a. before ++ map slot (stands (record c.args.around { next = next_sibling c.args.is_last (length before + (1 + nodes_count kids)) }) (numbered (length before) (element n a kids))))
    c.in_ok-name.ensures.name c.in_ok-attrs.ensures

pub add_element-returns-clause-gathers : goal.add_element-returns-clause-gathers
add_element-returns-clause-gathers t c =
    let before = c.args.slots.now.items in
    let abbreviations = c.args.read.now.abbreviations.now in
    let kids = nodes (map node c.args.kids) in
    let opened : length c.open_element.new.slots.items ≡ length before + 1 = ap length c.in_ok-open_element.ensures ∙ length_push before _ in
    Gathers-element abbreviations c.args.read.now c.pass_first_tag.new.self c.add_children.new.read c.pass_tag.new.self c.args.name c.args.attrs
    kids (length before) (length c.open_element.new.slots.items) opened
    c.pass_first_tag.ensures.gathers
    (subst (λ a. Gathers c.pass_first_tag.new.self (texts_of (children_numbered (length c.open_element.new.slots.items) kids)) (parts_of a kids) c.add_children.new.read)
    c.pass_first_tag.ensures.gathers.abbreviations c.in_ok-row.ensures.gathers)
    (subst (λ (n : List ℕ). Gathers c.add_children.new.read [] (gap_tag n ∷ []) c.pass_tag.new.self) (c.as_str.ensures ∙ c.in_ok-name.ensures.name) c.pass_tag.ensures.gathers)

pub add_tree-add_element-requires : goal.add_tree-add_element-requires
add_tree-add_element-requires t c =
    let is : node c.args.tree ≡ element c.in-Elem.name c.in-Elem.attrs (nodes (map node c.in-Elem.kids)) = ap node c.in-Elem.is ∙ node_elem _ _ _ in
    (omega (arith, ap node_count is, c.decreases), (omega (arith, ap node_count is), c.requires.before))
