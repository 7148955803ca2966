-- The draft has the root and the slots of the new document.
use Rattle.std.proofs.Common.{◌≡◌, ◌+◌, map, max, sym, ap, ap₂, ◌∙◌, subst, arith}
use Rattle.doc_grammar.specs.Limits.{node_count}
use Rattle.ordered_tree.specs.Numbered.{plain}
use Rattle.ordered_tree.specs.RefView.{ref_node}
use Rattle.ordered_tree.proofs.ReferencedLemmas.{nodes-fit}
use Rattle.plain_tree.specs.Document.{nodes}
use Rattle.plain_tree.specs.View.{node}
use Rattle.tree_edits.specs.Acts.{act_on}
use Rattle.tree_edits.specs.steps.Drafting.{IsDraftOf}
use Rattle.tree_edits.proofs.drafting.drafted.Goals as goal

pub invariant_of-result : goal.invariant_of-result
invariant_of-result c =
    let content = nodes (map node c.args.content.now) in
    let slots : max c.args.tree.now.slots (node_count (plain c.args.tree.now.root) + c.count_all-count.result) ≡ c.max-slots.result =
    ap₂ max (sym c.slot_count.ensures.count) (ap (λ n. n + c.count_all-count.result) (sym c.node_count.ensures.count)) ∙ sym c.max-slots.ensures in
    let is : IsDraftOf (act_on c.args.chosen.now c.args.how) content c.args.tree.now (ref_node c.in_ok-root.root) c.max-slots.result =
    subst (IsDraftOf (act_on c.args.chosen.now c.args.how) content c.args.tree.now (ref_node c.in_ok-root.root)) slots c.in_ok-root.ensures in
    record { fits = is.fits; sized = record { nodes = c.size_of-size.ensures.nodes; levels = c.size_of-size.ensures.levels; words = c.size_of-size.ensures.words } }

pub size_of-size-requires : goal.size_of-size-requires
size_of-size-requires c =
    let fits = c.in_ok-root.ensures.fits in
    let slots = max c.args.tree.now.slots (node_count (plain c.args.tree.now.root) + c.count_all-count.result) in
    omega (arith, nodes-fit (ref_node c.in_ok-root.root) slots fits.apart fits.below, fits.few_slots)

pub returns-clause-drafted : goal.returns-clause-drafted
returns-clause-drafted c =
    let content = nodes (map node c.args.content.now) in
    let slots : max c.args.tree.now.slots (node_count (plain c.args.tree.now.root) + c.count_all-count.result) ≡ c.max-slots.result =
    ap₂ max (sym c.slot_count.ensures.count) (ap (λ n. n + c.count_all-count.result) (sym c.node_count.ensures.count)) ∙ sym c.max-slots.ensures in
    let is : IsDraftOf (act_on c.args.chosen.now c.args.how) content c.args.tree.now (ref_node c.in_ok-root.root) c.max-slots.result =
    subst (IsDraftOf (act_on c.args.chosen.now c.args.how) content c.args.tree.now (ref_node c.in_ok-root.root)) slots c.in_ok-root.ensures in
    is.edited
