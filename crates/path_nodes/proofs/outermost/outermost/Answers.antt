-- One context further, and all of them.
use Rattle.std.proofs.Common.{◌≡◌, ◌≤◌, ℕ, List, flat_map, length, map, take, sym, ap, ◌∙◌, subst, arith}
use Rattle.std.specs.List.{All, AllPairs, list_any}
use Rattle.std.specs.Prelude.{sum_by}
use Rattle.std.proofs.lemmas.List.{take_all}
use Rattle.std.proofs.lemmas.List.Elements.{All-get_or}
use Rattle.ordered_tree.specs.Numbered.{Numbered}
use Rattle.ft_base.specs.declared.ids.NodeRef.{NodeRef}
use Rattle.path_meaning.specs.Order.{Before}
use Rattle.path_nodes.specs.steps.Members.{AreAmong, HaveSame}
use Rattle.path_nodes.specs.References.{IsElement, element_of}
use Rattle.path_nodes.specs.steps.Regions.{at_or_below}
use Rattle.path_nodes.proofs.OutermostLemmas.{Outer, outer-first, outer-next}
use Rattle.path_nodes.proofs.SpotLemmas.{of_number}
use Rattle.path_nodes.proofs.outermost.outermost.Goals as goal

pub loop-context-init : goal.loop-context-init
loop-context-init c =
    let root = c.args.tree.now.root in
    let items = c.as_slice-context-items.result.now in
    subst (Outer root items 0) (sym c.new-outer.ensures)
    (outer-first root items (subst (λ l. AllPairs Before (map (element_of root) l)) (sym c.as_slice-context-items.ensures) c.requires.ordered))

pub is_below_last-covered-requires : goal.is_below_last-covered-requires
is_below_last-covered-requires c =
    let root = c.args.tree.now.root in
    let items = c.as_slice-context-items.result.now in
    let all : All (IsElement root) items = subst (All (IsElement root)) (sym c.as_slice-context-items.ensures) c.requires.contexts in
    record { outer = c.loop-context.invariant.there; node = All-get_or (IsElement root) items c.loop-context.context-index (of_number 0) c.loop-context-test.true all }

pub loop-context-preserved : goal.loop-context-preserved
loop-context-preserved c =
    let root = c.args.tree.now.root in
    let items = c.as_slice-context-items.result.now in
    let all : All (IsElement root) items = subst (All (IsElement root)) (sym c.as_slice-context-items.ensures) c.requires.contexts in
    outer-next root items c.loop-context.context-index c.loop-context-test.true all c.loop-context.outer c.loop-context.invariant c.is_below_last-covered.result c.is_below_last-covered.ensures
    c.push_if.new.nodes c.in_ok-push_if.ensures

-- all of them
module _ (root : Numbered) (items contexts : List NodeRef) (same : items ≡ contexts) (i : ℕ) (past : length items ≤ i) (outer : List NodeRef) (o : Outer root items i outer) where
  every : take i items ≡ contexts
  every = take_all i items past ∙ same

  members : HaveSame (flat_map at_or_below (map (element_of root) outer)) (flat_map at_or_below (map (element_of root) contexts))
  members p = o.members p ∙ ap (λ l. list_any p (flat_map at_or_below (map (element_of root) l))) every

  once : AreAmong (flat_map at_or_below (map (element_of root) outer)) (flat_map at_or_below (map (element_of root) contexts))
  once count =
      let h = o.once count in
      let e = ap (λ l. sum_by count (flat_map at_or_below (map (element_of root) l))) every in
      omega (arith, h, e)

  whole : length outer ≡ length contexts → outer ≡ contexts
  whole long = o.whole (long ∙ sym (ap length every)) ∙ every

pub returns-clause-members : goal.returns-clause-members
returns-clause-members c =
    members c.args.tree.now.root c.as_slice-context-items.result.now c.args.contexts.now c.as_slice-context-items.ensures c.loop-context.context-index (omega (arith, c.loop-context-test.false)) c.loop-context.outer c.loop-context.invariant

pub returns-clause-once : goal.returns-clause-once
returns-clause-once c =
    once c.args.tree.now.root c.as_slice-context-items.result.now c.args.contexts.now c.as_slice-context-items.ensures c.loop-context.context-index (omega (arith, c.loop-context-test.false)) c.loop-context.outer c.loop-context.invariant

pub returns-clause-whole : goal.returns-clause-whole
returns-clause-whole c =
    whole c.args.tree.now.root c.as_slice-context-items.result.now c.args.contexts.now c.as_slice-context-items.ensures c.loop-context.context-index (omega (arith, c.loop-context-test.false)) c.loop-context.outer c.loop-context.invariant
