-- One that satisfies it is enough.
use Rattle.std.proofs.Common.{◌≡◌, ◌+◌, ◌<◌, ◌||◌, ◌∷◌, [], ℕ, List, map, drop, length, get_or, sym, ap, ◌∙◌, subst}
use Rattle.std.specs.List.{All, list_any}
use Rattle.std.proofs.lemmas.List.Elements.{All-get_or}
use Rattle.ordered_tree.specs.Numbered.{Numbered}
use Rattle.ft_base.specs.declared.ids.NodeRef.{NodeRef}
use Rattle.path_meaning.specs.Tests.{each_tested}
use Rattle.path_nodes.specs.Prices.{price_of}
use Rattle.path_nodes.specs.References.{IsElement, element_of}
use Rattle.path_nodes.specs.Says.{Meaning, satisfied}
use Rattle.path_nodes.proofs.ListLemmas.{any-drop}
use Rattle.path_nodes.proofs.PriceLemmas.{nodes-next, one-price}
use Rattle.path_nodes.proofs.CostLemmas.{cost-next, cost-part}
use Rattle.path_nodes.proofs.SpotLemmas.{of_number}
use Rattle.path_nodes.proofs.evaluation.Evaluation.some_contains.Goals as goal

-- the next node
module _ (root : Numbered) (m : Meaning) (k i : ℕ) (xs ys : List NodeRef) (same : xs ≡ ys) (lt : i < length xs) (all : All (IsElement root) ys) where
  there : IsElement root (get_or xs i (of_number 0))
  there = All-get_or (IsElement root) xs i (of_number 0) lt (subst (All (IsElement root)) (sym same) all)

  price : price_of root m (each_tested k (map (element_of root) (drop i xs)))
      ≡ price_of root m (each_tested k (element_of root (get_or xs i (of_number 0)) ∷ [])) + price_of root m (each_tested k (map (element_of root) (drop (i + 1) xs)))
  price =
      nodes-next root m k xs i (of_number 0) lt there
      ∙ ap (λ n. n + price_of root m (each_tested k (map (element_of root) (drop (i + 1) xs)))) (one-price root m k (get_or xs i (of_number 0)) there)

pub contains_without-requires-clause-item : goal.contains_without-requires-clause-item
contains_without-requires-clause-item g c =
    there g.G.Ground.root g.G.Ground.meaning c.args.selection c.loop-node.node-index c.as_slice-node-items.result.now c.args.nodes.now c.as_slice-node-items.ensures c.loop-node-test.true c.requires.nodes

pub returns-then-branch-clause-truth : goal.returns-then-branch-clause-truth
returns-then-branch-clause-truth g c =
    let root = g.G.Ground.root in
    let test = satisfied root g.G.Ground.meaning c.args.selection (map (element_of root) c.args.holes.now) in
    let items = c.as_slice-node-items.result.now in
    let i = c.loop-node.node-index in
    let says = sym c.in_ok-contains_without.ensures.truth ∙ c.if-branch.true in
    sym (
    sym c.loop-node.invariant.left
    ∙ any-drop (element_of root) test items i (of_number 0) c.loop-node-test.true
    ∙ ap (λ b. b || list_any test (map (element_of root) (drop (i + 1) items))) says
    )

pub loop-node-preserved : goal.loop-node-preserved
loop-node-preserved g c =
    let root = g.G.Ground.root in
    let m = g.G.Ground.meaning in
    let k = c.args.selection in
    let test = satisfied root m k (map (element_of root) c.args.holes.now) in
    let items = c.as_slice-node-items.result.now in
    let i = c.loop-node.node-index in
    let within = c.loop-node-test.true in
    let says = sym c.in_ok-contains_without.ensures.truth ∙ c.if-branch.false in
    record {
      left = sym (any-drop (element_of root) test items i (of_number 0) within ∙ ap (λ b. b || list_any test (map (element_of root) (drop (i + 1) items))) says) ∙ c.loop-node.invariant.left;
      cost = cost-next c.contains_without.ensures.cost c.loop-node.invariant.cost
          (price root m k i items c.args.nodes.now c.as_slice-node-items.ensures within c.requires.nodes);
    }

pub returns-in_err-contains_without-clause-cost : goal.returns-in_err-contains_without-clause-cost
returns-in_err-contains_without-clause-cost g c =
    cost-part _ c.contains_without.ensures.cost c.loop-node.invariant.cost
    (price g.G.Ground.root g.G.Ground.meaning c.args.selection c.loop-node.node-index c.as_slice-node-items.result.now c.args.nodes.now c.as_slice-node-items.ensures c.loop-node-test.true c.requires.nodes)

pub returns-then-branch-clause-cost : goal.returns-then-branch-clause-cost
returns-then-branch-clause-cost g c =
    cost-part _ c.contains_without.ensures.cost c.loop-node.invariant.cost
    (price g.G.Ground.root g.G.Ground.meaning c.args.selection c.loop-node.node-index c.as_slice-node-items.result.now c.args.nodes.now c.as_slice-node-items.ensures c.loop-node-test.true c.requires.nodes)
