-- One child more is where the walk stops.
use Rattle.std.proofs.Common.{◌∷◌, [], ◌++◌, false, flat_map, refl, sym, ap, ◌∙◌, subst, arith}
use Rattle.std.specs.List.{All, sum_by}
use Rattle.std.proofs.lemmas.List.Elements.{All-nil, All-cons, All-append}
use Rattle.ft_base.specs.declared.ids.NodeRef.{NodeRef}
use Rattle.path_nodes.specs.References.{IsElement, element_of}
use Rattle.path_nodes.specs.declared.offering.Stop.{Stop}
use Rattle.path_nodes.specs.steps.Kept.{offered_from}
use Rattle.path_nodes.specs.steps.Offered.{IsStop, to_come}
use Rattle.path_nodes.specs.steps.Weights.{weight}
use Rattle.path_nodes.proofs.OfferingLemmas.{all-front, all-last, children-lighter, flat-of, one-moved, weigh-less, weigh-more}
use Rattle.path_nodes.proofs.offering.Offering.enter.Goals as goal

pub loop-child-init : goal.loop-child-init
loop-child-init c =
    let root = c.args.tree.now.root in
    let deep = c.args.deep in
    let children = c.in_ok-element_children.field-0 in
    let are = c.in_ok-element_children.ensures.are in
    let all = c.into_vec-children.ensures in
    let lighter = children-lighter root c.args.node children are in
    let weights = ap (sum_by (λ (r : NodeRef). weight (element_of root r).node)) all in
    record {
      offers = ap (λ l. flat_map (λ r. offered_from deep (element_of root r)) l ++ to_come root deep c.args.self.now.left.items) all
          ∙ ap (λ l. l ++ to_come root deep c.args.self.now.left.items) (sym (flat-of (offered_from deep) (element_of root) children) ∙ ap (flat_map (offered_from deep)) are);
      children = subst (All (IsElement root)) (sym all) c.in_ok-element_children.ensures.there;
      left = c.requires.left;
      fewer = omega (arith, lighter, weights);
      stretch = refl;
    }

pub loop-child-preserved : goal.loop-child-preserved
loop-child-preserved c =
    let root = c.args.tree.now.root in
    let stop : NodeRef → Stop = λ r. record { node = r; context = false } in
    let child = c.in-Some.child in
    let rest = c.pop.new.self.items in
    let taken = c.in-Some.ensures.items in
    let put = c.in_ok-push.ensures.items in
    let before : All (IsElement root) (rest ++ child ∷ []) = subst (All (IsElement root)) taken c.loop-child.invariant.children in
    let less = weigh-less root c.loop-child.children.items rest child taken in
    let more = weigh-more root c.loop-child.self.left.items c.push.new.self.items (stop child) put in
    record {
      offers = one-moved root c.args.deep stop c.loop-child.children.items rest child c.loop-child.self.left.items c.push.new.self.items _ taken put c.loop-child.invariant.offers;
      children = all-front (IsElement root) rest child before;
      left = subst (All (IsStop root)) (sym put)
          (All-append (IsStop root) c.loop-child.self.left.items (stop child ∷ []) c.loop-child.invariant.left
          (All-cons (IsStop root) (stop child) [] (all-last (IsElement root) rest child before) (All-nil (IsStop root))));
      fewer = omega (arith, less, more, c.loop-child.invariant.fewer);
      stretch = c.loop-child.invariant.stretch;
    }
