-- The test says it of the element's reference.
use Rattle.std.proofs.Common.{◌≡◌, [], IfOk, refl, sym, subst}
use Rattle.path_nodes.proofs.CostLemmas.{at-price}
use Rattle.path_nodes.proofs.PlaceLemmas.{reference-back}
use Rattle.path_nodes.proofs.PriceLemmas.{one-price}
use Rattle.path_nodes.proofs.evaluation.Evaluation.itself_contains.Goals as goal

pub contains-requires : goal.contains-requires
contains-requires g c = rw c.args.self.now.meaning ((c.requires.asked c.args.item c.requires.item).0)

pub returns-clause-truth : goal.returns-clause-truth
returns-clause-truth g c =
    subst (λ r. IfOk c.contains.result (λ truth. truth ≡ g.G.Ground.meaning.says c.args.selection [] r)) (sym (reference-back g.G.Ground.root c.args.item c.requires.item))
    (rw c.args.self.now.meaning at c.contains.ensures.says)

pub returns-clause-cost : goal.returns-clause-cost
returns-clause-cost g c =
    at-price (record { same = refl; within = rw c.args.self.now.meaning at c.contains.ensures.cost }) (one-price g.G.Ground.root g.G.Ground.meaning c.args.selection c.args.item c.requires.item)
