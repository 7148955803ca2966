-- The test says it of the element's reference and those of the holes.
use Rattle.std.proofs.Common.{◌≡◌, IfOk, IsTrue, map, refl, sym, ap, ◌∙◌, subst}
use Rattle.std.proofs.lemmas.List.Elements.{All-weaker}
use Rattle.path_nodes.specs.References.{IsElement, element_of}
use Rattle.path_nodes.specs.Says.{satisfied}
use Rattle.path_nodes.proofs.CostLemmas.{at-price}
use Rattle.path_nodes.proofs.PlaceLemmas.{reference-back, references-back}
use Rattle.path_nodes.proofs.PriceLemmas.{one-price}
use Rattle.path_nodes.proofs.evaluation.Evaluation.contains_without.Goals as goal

pub returns-then-is_empty-clause-truth : goal.returns-then-is_empty-clause-truth
returns-then-is_empty-clause-truth g c =
    let root = g.G.Ground.root in
    let m = g.G.Ground.meaning in
    subst (λ l. IfOk c.itself_contains.result (λ truth. truth ≡ satisfied root m c.args.selection (map (element_of root) l) (element_of root c.args.item)))
    (sym (c.is_empty.ensures.0 c.if-is_empty.true)) c.itself_contains.ensures.truth

pub contains_without-requires-clause-given : goal.contains_without-requires-clause-given
contains_without-requires-clause-given g c = c.requires.given

pub contains_without-requires-clause-node : goal.contains_without-requires-clause-node
contains_without-requires-clause-node g c = rw c.args.self.now.meaning ((c.requires.asked c.args.item c.requires.item).0)

pub contains_without-requires-clause-holes : goal.contains_without-requires-clause-holes
contains_without-requires-clause-holes g c =
    let m = g.G.Ground.meaning in
    rw c.args.self.now.meaning (All-weaker (IsElement g.G.Ground.root) (λ hole. IsTrue (m.may_ask c.args.selection hole)) (λ hole x. (c.requires.asked hole x).0) c.args.holes.now c.requires.holes)

pub returns-clause-truth : goal.returns-clause-truth
returns-clause-truth g c =
    let root = g.G.Ground.root in
    let m = g.G.Ground.meaning in
    let k = c.args.selection in
    let same : m.says k c.args.holes.now c.args.item ≡ satisfied root m k (map (element_of root) c.args.holes.now) (element_of root c.args.item) =
    ap (λ l. m.says k l c.args.item) (sym (references-back root c.args.holes.now c.requires.holes))
    ∙ ap (m.says k _) (sym (reference-back root c.args.item c.requires.item)) in
    subst (λ b. IfOk c.contains_without.result (λ truth. truth ≡ b)) same (rw c.args.self.now.meaning at c.contains_without.ensures.says)

pub returns-clause-cost : goal.returns-clause-cost
returns-clause-cost g c =
    at-price (record { same = refl; within = rw c.args.self.now.meaning at c.contains_without.ensures.cost }) (one-price g.G.Ground.root g.G.Ground.meaning c.args.selection c.args.item c.requires.item)
