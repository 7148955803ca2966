-- What is done, then what is left, is all; what was spent, and the price of the rest, are no more than the price of all.
use Rattle.std.proofs.Common.{◌≡◌, ◌∷◌, [], ◌++◌, All, map, filter, flat_map, take, drop}
use Rattle.std.specs.Prelude.{sum_by}
use Rattle.ordered_tree.specs.Numbered.{plain}
use Rattle.ft_base.specs.declared.ids.NodeRef.{NodeRef}
use Rattle.path_meaning.specs.Elements.{elements, is_in}
use Rattle.path_grammar.specs.Form as form
use Rattle.path_meaning.specs.Meaning as meaning
use Rattle.path_meaning.specs.Meaning.{is_named}
use Rattle.path_grammar.specs.View as view
use Rattle.path_nodes.specs.steps.Found.{AreBelow, SpendsOf}
use Rattle.path_nodes.specs.steps.Leading.{StandFrom, in_paths, in_steps, in_predicates, in_conditions}
use Rattle.path_nodes.specs.steps.Kept.{kept_children, joined, offered, passes}
use Rattle.path_nodes.specs.steps.Offered.{IsStop, to_come}
use Rattle.path_nodes.specs.steps.RuledOut.{KeepNothing}
use Rattle.path_nodes.specs.steps.Weights.{weights_at}
use Rattle.path_nodes.specs.steps.Marks.{is_marked}
use Rattle.path_nodes.specs.Prices as price
use Rattle.path_nodes.specs.References.{IsElement, element_of}
use Rattle.path_nodes.specs.Says.{satisfied}
use Rattle.path_nodes.specs.steps.Within.{AtOrBelow}
use Rattle.path_nodes.specs.steps.Ways.{AreWays, LeadTo}
use Rattle.path_nodes.proofs.IgnoredLemmas.{led_by}
use Rattle.path_nodes.proofs.evaluation.Evaluation.+evaluate.Given as goal

abbrev pub invariant-chosen-loop-parent : goal.invariant-chosen-loop-parent
invariant-chosen-loop-parent g l = record {
  marks : (r : NodeRef) → IsElement g.G.Ground.root r
      → is_marked l.marks r ≡ is_in (map (kept_children g.G.Ground.root g.G.Ground.meaning (view.step l.fn.step)) (map (element_of g.G.Ground.root) (take l.parent-index l.parent-items))) (element_of g.G.Ground.root r);
  ways : AreWays g.G.Ground.root l.ways;
  lead : LeadTo g.G.Ground.root l.ways (is_in (map (kept_children g.G.Ground.root g.G.Ground.meaning (view.step l.fn.step)) (map (element_of g.G.Ground.root) (take l.parent-index l.parent-items))));
  cost : SpendsOf g.T.TextTest.cost l.fn.self.test l.self.test
      (sum_by (price.children_price g.G.Ground.root g.G.Ground.meaning (view.step l.fn.step)) (map (element_of g.G.Ground.root) (drop l.parent-index l.parent-items)))
      (sum_by (price.children_price g.G.Ground.root g.G.Ground.meaning (view.step l.fn.step)) (map (element_of g.G.Ground.root) l.fn.parents));
}

abbrev pub invariant-passed-loop-predicate : goal.invariant-passed-loop-predicate
invariant-passed-loop-predicate g l = record {
  left : meaning.filtered (satisfied g.G.Ground.root g.G.Ground.meaning) (elements (plain g.G.Ground.root)) (form.predicates (map view.predicate (drop l.predicate-index l.predicate-items))) (map (element_of g.G.Ground.root) l.kept)
      ≡ meaning.filtered (satisfied g.G.Ground.root g.G.Ground.meaning) (elements (plain g.G.Ground.root)) (form.predicates (map view.predicate l.fn.predicates)) (map (element_of g.G.Ground.root) l.fn.items);
  there : All (IsElement g.G.Ground.root) l.kept;
  numbered : StandFrom g.G.Ground.conditions l.first (in_predicates (form.predicates (map view.predicate (drop l.predicate-index l.predicate-items))));
  cost : SpendsOf g.T.TextTest.cost l.fn.self.test l.self.test
      (price.predicates_price g.G.Ground.root g.G.Ground.meaning (form.predicates (map view.predicate (drop l.predicate-index l.predicate-items))) (map (element_of g.G.Ground.root) l.kept))
      (price.predicates_price g.G.Ground.root g.G.Ground.meaning (form.predicates (map view.predicate l.fn.predicates)) (map (element_of g.G.Ground.root) l.fn.items));
}

abbrev pub invariant-led-loop-step : goal.invariant-led-loop-step
invariant-led-loop-step g l = record {
  left : meaning.led (satisfied g.G.Ground.root g.G.Ground.meaning) (elements (plain g.G.Ground.root)) (form.steps (map view.step (drop l.step-index l.steps))) (map (element_of g.G.Ground.root) l.items)
      ≡ meaning.led (satisfied g.G.Ground.root g.G.Ground.meaning) (elements (plain g.G.Ground.root)) (form.steps (map view.step l.fn.steps)) (map (element_of g.G.Ground.root) l.fn.from);
  items : AreBelow g.G.Ground.root l.base l.items;
  numbered : StandFrom g.G.Ground.conditions l.first (in_steps (form.steps (map view.step (drop l.step-index l.steps))));
  cost : SpendsOf g.T.TextTest.cost l.fn.self.test l.self.test
      (price.steps_price g.G.Ground.root g.G.Ground.meaning (form.steps (map view.step (drop l.step-index l.steps))) (map (element_of g.G.Ground.root) l.items))
      (price.steps_price g.G.Ground.root g.G.Ground.meaning (form.steps (map view.step l.fn.steps)) (map (element_of g.G.Ground.root) l.fn.from));
}

abbrev pub invariant-satisfying-loop-item : goal.invariant-satisfying-loop-item
invariant-satisfying-loop-item g l = record {
  done : map (element_of g.G.Ground.root) l.kept ≡ filter (meaning.is_true (satisfied g.G.Ground.root g.G.Ground.meaning) (elements (plain g.G.Ground.root)) (view.condition l.fn.condition)) (map (element_of g.G.Ground.root) (take l.item-index l.item-items));
  there : All (IsElement g.G.Ground.root) l.kept;
  cost : SpendsOf g.T.TextTest.cost l.fn.self.test l.self.test
      (sum_by (price.condition_price g.G.Ground.root g.G.Ground.meaning (view.condition l.fn.condition)) (map (element_of g.G.Ground.root) (drop l.item-index l.item-items)))
      (sum_by (price.condition_price g.G.Ground.root g.G.Ground.meaning (view.condition l.fn.condition)) (map (element_of g.G.Ground.root) l.fn.items));
}

abbrev pub invariant-joined-loop-condition : goal.invariant-joined-loop-condition
invariant-joined-loop-condition g l = record {
  left : joined l.deciding (satisfied g.G.Ground.root g.G.Ground.meaning) (elements (plain g.G.Ground.root)) (form.conditions (map view.condition (drop l.condition-index l.condition-items))) (element_of g.G.Ground.root l.item)
      ≡ joined l.deciding (satisfied g.G.Ground.root g.G.Ground.meaning) (elements (plain g.G.Ground.root)) (form.conditions (map view.condition l.fn.conditions)) (element_of g.G.Ground.root l.item);
  numbered : StandFrom g.G.Ground.conditions l.first (in_conditions (form.conditions (map view.condition (drop l.condition-index l.condition-items))));
  cost : SpendsOf g.T.TextTest.cost l.fn.self.test l.self.test
      (price.conditions_price g.G.Ground.root g.G.Ground.meaning (form.conditions (map view.condition (drop l.condition-index l.condition-items))) (element_of g.G.Ground.root l.item))
      (price.conditions_price g.G.Ground.root g.G.Ground.meaning (form.conditions (map view.condition l.fn.conditions)) (element_of g.G.Ground.root l.item));
}

abbrev pub invariant-chosen_in_order-loop-found : goal.invariant-chosen_in_order-loop-found
invariant-chosen_in_order-loop-found g l = record {
  done : map (element_of g.G.Ground.root) l.found
      ++ meaning.filtered (satisfied g.G.Ground.root g.G.Ground.meaning) (elements (plain g.G.Ground.root)) (form.predicates (map view.predicate l.step.predicates)) (filter (λ e. is_named l.name e.node) (to_come g.G.Ground.root l.step.deep l.offering.left.items))
      ≡ meaning.filtered (satisfied g.G.Ground.root g.G.Ground.meaning) (elements (plain g.G.Ground.root)) (form.predicates (map view.predicate l.step.predicates)) (filter (λ e. is_named l.step.test e.node) (flat_map (offered l.step.deep) (map (element_of g.G.Ground.root) l.fn.outer)));
  there : All (IsElement g.G.Ground.root) l.found;
  left : All (IsStop g.G.Ground.root) l.offering.left.items;
  stretch : KeepNothing g.G.Ground.root g.G.Ground.meaning l.offering.stretch.from l.offering.stretch.to (form.predicates (map view.predicate l.step.predicates));
  cost : SpendsOf g.T.TextTest.cost l.fn.self.test l.self.test
      (price.predicates_price g.G.Ground.root g.G.Ground.meaning (form.predicates (map view.predicate l.step.predicates)) (filter (λ e. is_named l.name e.node) (to_come g.G.Ground.root l.step.deep l.offering.left.items)))
      (price.predicates_price g.G.Ground.root g.G.Ground.meaning (form.predicates (map view.predicate l.step.predicates)) (filter (λ e. is_named l.step.test e.node) (flat_map (offered l.step.deep) (map (element_of g.G.Ground.root) l.fn.outer))));
}

abbrev pub decreases-chosen_in_order-loop-found : goal.decreases-chosen_in_order-loop-found
decreases-chosen_in_order-loop-found g l = weights_at g.G.Ground.root l.offering.left.items

abbrev pub invariant-passes-loop-predicate : goal.invariant-passes-loop-predicate
invariant-passes-loop-predicate g l = record {
  left : passes (satisfied g.G.Ground.root g.G.Ground.meaning) (elements (plain g.G.Ground.root)) (form.predicates (map view.predicate (drop l.predicate-index l.predicate-items))) (element_of g.G.Ground.root l.item)
      ≡ passes (satisfied g.G.Ground.root g.G.Ground.meaning) (elements (plain g.G.Ground.root)) (form.predicates (map view.predicate l.fn.predicates)) (element_of g.G.Ground.root l.item);
  numbered : StandFrom g.G.Ground.conditions l.first (in_predicates (form.predicates (map view.predicate (drop l.predicate-index l.predicate-items))));
  cost : SpendsOf g.T.TextTest.cost l.fn.self.test l.self.test
      (price.predicates_price g.G.Ground.root g.G.Ground.meaning (form.predicates (map view.predicate (drop l.predicate-index l.predicate-items))) (element_of g.G.Ground.root l.item ∷ []))
      (price.predicates_price g.G.Ground.root g.G.Ground.meaning (form.predicates (map view.predicate l.fn.predicates)) (element_of g.G.Ground.root l.item ∷ []));
}

abbrev pub invariant-ignored-loop-path : goal.invariant-ignored-loop-path
invariant-ignored-loop-path g l = record {
  marks : (r : NodeRef) → IsElement g.G.Ground.root r
      → is_marked l.marks r ≡ is_in (led_by g.G.Ground.root g.G.Ground.meaning (element_of g.G.Ground.root l.item) (take l.path-index l.path-items)) (element_of g.G.Ground.root r);
  ways : AreWays g.G.Ground.root l.ways;
  lead : LeadTo g.G.Ground.root l.ways (is_in (led_by g.G.Ground.root g.G.Ground.meaning (element_of g.G.Ground.root l.item) (take l.path-index l.path-items)));
  inside : All (All (AtOrBelow (element_of g.G.Ground.root l.item))) (led_by g.G.Ground.root g.G.Ground.meaning (element_of g.G.Ground.root l.item) (take l.path-index l.path-items));
  numbered : StandFrom g.G.Ground.conditions l.first (in_paths (form.paths (map view.relative_path (drop l.path-index l.path-items))));
  cost : SpendsOf g.T.TextTest.cost l.fn.self.test l.self.test
      (price.ignored_price g.G.Ground.root g.G.Ground.meaning (form.paths (map view.relative_path (drop l.path-index l.path-items))) (element_of g.G.Ground.root l.item))
      (price.ignored_price g.G.Ground.root g.G.Ground.meaning (form.paths (map view.relative_path l.fn.paths)) (element_of g.G.Ground.root l.item));
}
