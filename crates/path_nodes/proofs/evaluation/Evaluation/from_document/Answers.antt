-- What is kept of the root, and what a deep step finds below it.
use Rattle.std.proofs.Common.{◌∷◌, [], ◌++◌, map, refl, sym, ap, ◌∙◌, subst}
use Rattle.std.specs.List.{All}
use Rattle.std.proofs.lemmas.List.{map-append}
use Rattle.std.proofs.lemmas.List.Elements.{All-append}
use Rattle.path_grammar.specs.View as view
use Rattle.path_nodes.specs.steps.Kept as spec
use Rattle.path_nodes.specs.References.{IsElement, element_of}
use Rattle.path_nodes.specs.steps.Found.{ReferTo}
use Rattle.path_nodes.proofs.SelectedLemmas.{one-step, deep-step, own-cost, deep-cost}
use Rattle.path_nodes.proofs.FoundLemmas.{one-below}
use Rattle.path_nodes.proofs.CostLemmas.{at-most, both-cost}
use Rattle.path_nodes.proofs.evaluation.Evaluation.from_document.Goals as goal

pub stepped-requires-clause-contexts : goal.stepped-requires-clause-contexts
stepped-requires-clause-contexts g c = rw c.in_ok-only.ensures (one-below g.G.Ground.root c.args.root c.requires.root)

pub returns-then-not-step-clause-elements : goal.returns-then-not-step-clause-elements
returns-then-not-step-clause-elements g c =
    subst (λ es. ReferTo g.G.Ground.root es c.in_ok-found.found) (one-step g.G.Ground.root g.G.Ground.meaning c.args.step.now c.args.root c.requires.root c.requires.first c.if-not-step.true)
    (rw c.in_ok-only.ensures at c.in_ok-found.ensures.elements)

pub returns-clause-elements : goal.returns-clause-elements
returns-clause-elements g c =
    let root = g.G.Ground.root in
    let own = rw c.in_ok-only.ensures at c.in_ok-found.ensures.elements.are in
    let deeper = rw c.in_ok-only.ensures at c.in_ok-below.ensures.elements.are in
    record {
      there = subst (All (IsElement root)) (sym c.in_ok-append.ensures)
          (All-append (IsElement root) c.in_ok-found.found c.in_ok-below.below c.in_ok-found.ensures.elements.there c.in_ok-below.ensures.elements.there);
      are = ap (map (element_of root)) c.in_ok-append.ensures
          ∙ map-append (element_of root) c.in_ok-found.found c.in_ok-below.below
          ∙ ap (λ l. l ++ map (element_of root) c.in_ok-below.below) own
          ∙ ap (λ l. spec.kept root g.G.Ground.meaning (view.step c.args.step.now) (element_of root c.args.root ∷ []) ++ l) deeper
          ∙ deep-step root g.G.Ground.meaning c.args.step.now c.args.root c.requires.root c.requires.first c.if-not-step.false;
    }

pub returns-in_err-found-clause-cost : goal.returns-in_err-found-clause-cost
returns-in_err-found-clause-cost g c =
    at-most (rw c.in_ok-only.ensures at c.kept.ensures.cost) (own-cost g.G.Ground.root g.G.Ground.meaning c.args.step.now c.args.root c.requires.root c.requires.first) refl

pub returns-then-not-step-clause-cost : goal.returns-then-not-step-clause-cost
returns-then-not-step-clause-cost g c =
    at-most (rw c.in_ok-only.ensures at c.kept.ensures.cost) (own-cost g.G.Ground.root g.G.Ground.meaning c.args.step.now c.args.root c.requires.root c.requires.first) refl

pub returns-in_err-below-clause-cost : goal.returns-in_err-below-clause-cost
returns-in_err-below-clause-cost g c =
    both-cost (rw c.in_ok-only.ensures at c.kept.ensures.cost) (rw c.in_ok-only.ensures at c.stepped.ensures.cost)
    (deep-cost g.G.Ground.root g.G.Ground.meaning c.args.step.now c.args.root c.requires.root c.requires.first c.if-not-step.false)

pub returns-in_err-append-clause-cost : goal.returns-in_err-append-clause-cost
returns-in_err-append-clause-cost g c =
    both-cost (rw c.in_ok-only.ensures at c.kept.ensures.cost) (rw c.in_ok-only.ensures at c.stepped.ensures.cost)
    (deep-cost g.G.Ground.root g.G.Ground.meaning c.args.step.now c.args.root c.requires.root c.requires.first c.if-not-step.false)

pub returns-clause-cost : goal.returns-clause-cost
returns-clause-cost g c =
    both-cost (rw c.in_ok-only.ensures at c.kept.ensures.cost) (rw c.in_ok-only.ensures at c.stepped.ensures.cost)
    (deep-cost g.G.Ground.root g.G.Ground.meaning c.args.step.now c.args.root c.requires.root c.requires.first c.if-not-step.false)
