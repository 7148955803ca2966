-- The first step leads from the document, the others from what it leads to.
use Rattle.std.proofs.Common.{◌∷◌, [], IfOk, map, refl, sym, subst}
use Rattle.std.specs.List.{AllPairs}
use Rattle.std.proofs.lemmas.List.{take_rest}
use Rattle.ordered_tree.specs.Numbered.{plain}
use Rattle.path_grammar.specs.View as view
use Rattle.path_meaning.specs.Meaning.{document}
use Rattle.path_meaning.specs.Order.{Before}
use Rattle.path_nodes.specs.References.{element_of}
use Rattle.path_nodes.specs.Says.{satisfied}
use Rattle.path_nodes.specs.steps.Found.{ReferTo}
use Rattle.path_nodes.specs.steps.Leading.{StandFrom, in_path, in_step}
use Rattle.path_nodes.proofs.CostLemmas.{both-cost, first-part-cost}
use Rattle.path_nodes.proofs.LeadingLemmas.{steps-from, stand-all, stand-first, stand-next}
use Rattle.path_nodes.proofs.OrderLemmas.{stepped-ordered}
use Rattle.path_nodes.proofs.PriceLemmas.{selected-price}
use Rattle.path_nodes.proofs.SelectedLemmas.{root-there, root-placed, below-root, selected-next}
use Rattle.path_nodes.proofs.evaluation.Evaluation.selected.Goals as goal

pub from_document-requires-clause-root : goal.from_document-requires-clause-root
from_document-requires-clause-root g c =
    root-there g.G.Ground.root c.root-root.result (rw c.args.self.now.root at c.root-root.ensures.root) (rw c.args.self.now.root at c.root-root.ensures.apart) c.requires.element

pub from_document-requires-clause-first : goal.from_document-requires-clause-first
from_document-requires-clause-first g c =
    root-placed g.G.Ground.root c.root-root.result (rw c.args.self.now.root at c.root-root.ensures.root) (rw c.args.self.now.root at c.root-root.ensures.apart)

pub from_document-requires-clause-numbered : goal.from_document-requires-clause-numbered
from_document-requires-clause-numbered g c =
    let steps = c.args.steps.now in
    subst (λ all. StandFrom all 0 (in_step (view.step c.get-step.result.now))) c.requires.conditions
    (rw c.get-step.ensures (stand-first _ _ _ (steps-from steps 0 c.get-step.result.now c.requires.some) (in_path steps) 0 (stand-all (in_path steps))))

pub led-requires-clause-from : goal.led-requires-clause-from
led-requires-clause-from g c =
    let root = g.G.Ground.root in
    let refers = rw c.args.self.now.root at c.root-root.ensures.root in
    let apart = rw c.args.self.now.root at c.root-root.ensures.apart in
    record {
      base_is = root-there root c.root-root.result refers apart c.requires.element;
      there = c.in_ok-first.ensures.elements.there;
      inside = below-root root (element_of root c.root-root.result) (root-placed root c.root-root.result refers apart) (map (element_of root) c.in_ok-first.first);
      ordered = subst (AllPairs Before) (sym c.in_ok-first.ensures.elements.are)
          (stepped-ordered (satisfied root g.G.Ground.meaning) (plain root) (view.step c.get-step.result.now) (document (plain root) ∷ []));
    }

pub led-requires-clause-numbered : goal.led-requires-clause-numbered
led-requires-clause-numbered g c =
    let steps = c.args.steps.now in
    let after = rw c.get-step.ensures at c.in_ok-number.ensures in
    rw (← c.requires.conditions, take_rest c.as_slice.result.now 1, c.as_slice.ensures)
    (stand-next _ _ _ (steps-from steps 0 c.get-step.result.now c.requires.some) (in_path steps) 0 (stand-all (in_path steps)) c.in_ok-number.number after)

pub returns-clause-elements : goal.returns-clause-elements
returns-clause-elements g c =
    let root = g.G.Ground.root in
    subst (λ es. IfOk c.led.result (ReferTo root es)) (selected-next (satisfied root g.G.Ground.meaning) (plain root) c.args.steps.now c.get-step.result.now c.requires.some)
    (rw (take_rest c.as_slice.result.now 1, c.as_slice.ensures, c.in_ok-first.ensures.elements.are, c.get-step.ensures) at c.led.ensures.elements)

pub returns-in_err-first-clause-cost : goal.returns-in_err-first-clause-cost
returns-in_err-first-clause-cost g c =
    first-part-cost _ (rw c.get-step.ensures at c.from_document.ensures.cost) (selected-price g.G.Ground.root g.G.Ground.meaning c.args.steps.now c.get-step.result.now c.requires.some _ refl)

pub returns-clause-cost : goal.returns-clause-cost
returns-clause-cost g c =
    both-cost (rw c.get-step.ensures at c.from_document.ensures.cost) (rw (take_rest c.as_slice.result.now 1, c.as_slice.ensures) at c.led.ensures.cost)
    (selected-price g.G.Ground.root g.G.Ground.meaning c.args.steps.now c.get-step.result.now c.requires.some _ (rw c.get-step.ensures at c.in_ok-first.ensures.elements.are))
