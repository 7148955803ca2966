-- Each kind of condition and predicate, one more of each list.
use Rattle.std.proofs.Common.{◌≡◌, ◌≤◌, ◌||◌, Bool, false, not, ◌∷◌, [], ◌++◌, map, filter, flat_map, take, length, get_or, IfNone, IfOk, refl, sym, ap, ◌∙◌, subst, arith, rules}
use Rattle.std.specs.List.{All, AllPairs, Contains, list_any}
use Rattle.std.proofs.lemmas.List.{take_all, drop_all}
use Rattle.std.proofs.lemmas.List.Elements.{All-nil, All-cons, All-map, All-weaker, All-get_or}
use Rattle.ordered_tree.specs.Numbered.{plain}
use Rattle.path_grammar.specs.declared.path.Condition.{the_lemmas}
use Rattle.path_grammar.specs.Form as form
use Rattle.path_grammar.specs.View as view
use Rattle.path_grammar.proofs.Views.{view_number, view_holds, view_or, view_and, view_not, view_attribute, view_exists, view_contains}
use Rattle.path_meaning.specs.Elements.{Element, elements, is_in, is_same}
use Rattle.path_meaning.specs.Meaning as meaning
use Rattle.path_meaning.specs.Order.{Before}
use Rattle.path_meaning.specs.Tests.{condition_tests}
use Rattle.path_nodes.specs.steps.Found.{ReferTo}
use Rattle.path_nodes.specs.steps.Kept as spec
use Rattle.path_nodes.specs.steps.Marks.{is_marked}
use Rattle.path_nodes.specs.steps.Offered.{to_come}
use Rattle.path_nodes.specs.steps.RuledOut.{KeepNothing, Suffice}
use Rattle.path_nodes.specs.steps.Leading.{in_paths, in_steps, in_predicate, in_condition}
use Rattle.path_nodes.specs.Prices as price
use Rattle.path_nodes.specs.References.{IsElement, element_of}
use Rattle.path_nodes.specs.steps.Regions.{below}
use Rattle.path_nodes.specs.Says.{satisfied}
use Rattle.path_nodes.specs.steps.Within.{AtOrBelow}
use Rattle.path_nodes.proofs.AskedLemmas.{step-is}
use Rattle.path_nodes.proofs.AskingLemmas.{of-predicates}
use Rattle.path_nodes.proofs.ChosenLemmas.{within-base, led-inside, stepped-inside, parents-inside, of-document, stepped-is}
use Rattle.path_nodes.proofs.PrefixLemmas.{prefix-itself}
use Rattle.path_nodes.proofs.FoundLemmas.{one-below, some-of}
use Rattle.path_nodes.proofs.GivenLemmas.{given-holes}
use Rattle.path_nodes.proofs.IgnoredLemmas.{led_by, steps_of, all-ignored, inside-more, lead-more, marks-more}
use Rattle.path_nodes.proofs.KnownLemmas.{is-truth}
use Rattle.path_nodes.proofs.LeadingLemmas.{in-step, steps-from, predicates-from, conditions-from, paths-from, stand-first, stand-next, stand-itself, stand-inside}
use Rattle.path_nodes.proofs.MemberLemmas.{or-cases, same-offered, same-inside}
use Rattle.path_nodes.proofs.OfferedLemmas.{in-one-pass, one-pass-price}
use Rattle.path_nodes.proofs.OfferingLemmas.{cost-here, kept-last, kept-next}
use Rattle.path_nodes.proofs.OrderLemmas.{stepped-ordered}
use Rattle.path_nodes.proofs.OutermostLemmas.{same-parents, few-parents, outer-members, outer-once}
use Rattle.path_nodes.proofs.ListLemmas.{any-more-of, filter-more, more-there}
use Rattle.path_nodes.proofs.MeaningLemmas.{led-next, filtered-next, passes-next, passes-stop, stays-one, decided, undecided, joined-none, emptied, of-itself}
use Rattle.path_nodes.proofs.PriceLemmas.{sum-next, contains-price, itself-price, paths-next, price-holds, one-holds, steps-next, predicates-next, conditions-next, step-price}
use Rattle.path_nodes.proofs.CostLemmas.{cost-next, cost-part, cost-end, at-price, at-most, both-cost, first-part-cost}
use Rattle.path_nodes.proofs.RulingOutLemmas.{nothing-kept}
use Rattle.path_nodes.proofs.SpotLemmas.{of_number}
use Rattle.path_nodes.proofs.WayLemmas.{lead-kept}
use Rattle.path_nodes.proofs.evaluation.Evaluation.+evaluate.Goals as goal

-- ---- filtered

pub filtered-satisfying-requires : goal.filtered-satisfying-requires
unfolding in_predicate
filtered-satisfying-requires g t c κs within = (search (rules, the_lemmas), (within.0, (within.1, (c.requires.items, rw (c.in-Holds.is, view_holds) at c.requires.numbered))))

pub filtered-returns-in-Number-clause-elements : goal.filtered-returns-in-Number-clause-elements
unfolding meaning.filtered_by
filtered-returns-in-Number-clause-elements g t c =
    rw (c.in-Number.is, view_number) (rw c.args.self.now.root at c.numbered.ensures)

pub filtered-returns-in-Holds : goal.filtered-returns-in-Holds
unfolding meaning.filtered_by
filtered-returns-in-Holds g t c =
    let own_price = price-holds g.G.Ground.root g.G.Ground.meaning (view.condition c.in-Holds.condition) (map (element_of g.G.Ground.root) c.args.items) in
    rw (c.in-Holds.is, view_holds) (record { elements = c.satisfying.ensures.elements; cost = at-price c.satisfying.ensures.cost own_price })

-- ---- is_true

pub is_true-joined-requires : goal.is_true-joined-requires
unfolding in_condition
is_true-joined-requires g t c κs within = (search (rules, the_lemmas), (within.0, (within.1, (c.requires.item, rw (c.in-Or.is, view_or) at c.requires.numbered))))

pub is_true-joined-requires-in-And : goal.is_true-joined-requires-in-And
unfolding in_condition
is_true-joined-requires-in-And g t c κs within = (search (rules, the_lemmas), (within.0, (within.1, (c.requires.item, rw (c.in-And.is, view_and) at c.requires.numbered))))

pub is_true-is_true-requires : goal.is_true-is_true-requires
unfolding in_condition
is_true-is_true-requires g t c κs within = (search (rules, the_lemmas), (within.0, (within.1, (c.requires.item, rw c.deref.ensures (rw (c.in-Not.is, view_not) at c.requires.numbered)))))

pub is_true-exists-requires : goal.is_true-exists-requires
is_true-exists-requires g t c κs within = (search (rules, the_lemmas), (within.0, (within.1, (c.requires.item, rw (c.in-Exists.is, view_exists) at c.requires.numbered))))

pub is_true-returns-in-Or : goal.is_true-returns-in-Or
unfolding meaning.is_true condition_tests
is_true-returns-in-Or g t c = rw (c.in-Or.is, view_or) (record { truth = c.joined.ensures.truth; cost = c.joined.ensures.cost })

pub is_true-returns-in-And : goal.is_true-returns-in-And
unfolding meaning.is_true condition_tests
is_true-returns-in-And g t c = rw (c.in-And.is, view_and) (record { truth = c.joined-in-And.ensures.truth; cost = c.joined-in-And.ensures.cost })

pub is_true-returns-in_err-is_true-in-Not-clause-cost : goal.is_true-returns-in_err-is_true-in-Not-clause-cost
unfolding condition_tests
is_true-returns-in_err-is_true-in-Not-clause-cost g t c = rw (c.in-Not.is, view_not) (rw c.deref.ensures at c.is_true.ensures.cost)

pub is_true-returns-in_ok-is_true-in-Not-clause-truth : goal.is_true-returns-in_ok-is_true-in-Not-clause-truth
unfolding meaning.is_true
is_true-returns-in_ok-is_true-in-Not-clause-truth g t c = rw (c.in-Not.is, view_not) (ap not (rw c.deref.ensures at c.in_ok-is_true-in-Not.ensures.truth))

pub is_true-returns-in_ok-is_true-in-Not-clause-cost : goal.is_true-returns-in_ok-is_true-in-Not-clause-cost
unfolding condition_tests
is_true-returns-in_ok-is_true-in-Not-clause-cost g t c = rw (c.in-Not.is, view_not) (rw c.deref.ensures at c.is_true.ensures.cost)

pub is_true-returns-in-Attribute-clause-truth : goal.is_true-returns-in-Attribute-clause-truth
unfolding meaning.is_true
is_true-returns-in-Attribute-clause-truth g t c = rw (c.in-Attribute.is, view_attribute) (rw c.args.self.now.root at c.has_attribute.ensures)

pub is_true-returns-in-Exists : goal.is_true-returns-in-Exists
unfolding meaning.is_true condition_tests
is_true-returns-in-Exists g t c = rw (c.in-Exists.is, view_exists) (record { truth = c.exists.ensures.truth; cost = c.exists.ensures.cost })

-- ---- exists

pub exists-led_from-requires : goal.exists-led_from-requires
unfolding in_condition
exists-led_from-requires g t c κs within =
    let s = form.steps (map view.step c.args.steps.now) in
    let inside = stand-inside g.G.Ground.conditions c.args.number c.in_ok-next.field-0 (form.exists s) (in_steps s) c.requires.numbered c.in_ok-next.ensures in
    (search (rules, the_lemmas), (within.0, (within.1, (c.requires.item, inside))))

pub exists-returns-in-Some-clause-truth : goal.exists-returns-in-Some-clause-truth
unfolding in_condition meaning.is_true
exists-returns-in-Some-clause-truth g t c =
    let s = form.steps (map view.step c.args.steps.now) in
    let itself = stand-itself g.G.Ground.conditions c.args.number (form.exists s) (in_steps s) c.requires.numbered in
    some-of _ c.in-Some.is c.truth.ensures (form.exists s) itself

pub exists-returns-clause-truth : goal.exists-returns-clause-truth
exists-returns-clause-truth g t c =
    emptied (element_of g.G.Ground.root) c.is_empty-truth.result c.in_ok-nodes.nodes c.is_empty-truth.ensures.0 c.is_empty-truth.ensures.1 ∙ ap meaning.some_element c.in_ok-nodes.ensures.elements.are

pub exists-keep-requires : goal.exists-keep-requires
unfolding in_condition meaning.is_true
exists-keep-requires g t c =
    let s = form.steps (map view.step c.args.steps.now) in
    let itself = stand-itself g.G.Ground.conditions c.args.number (form.exists s) (in_steps s) c.requires.numbered in
    is-truth g.G.Ground.root g.G.Ground.meaning g.G.Ground.conditions c.args.number c.args.item (not c.is_empty-truth.result) (form.exists s) itself
    (emptied (element_of g.G.Ground.root) c.is_empty-truth.result c.in_ok-nodes.nodes c.is_empty-truth.ensures.0 c.is_empty-truth.ensures.1 ∙ ap meaning.some_element c.in_ok-nodes.ensures.elements.are)

-- ---- contains

pub is_true-itself_contains-requires-clause-asked : goal.is_true-itself_contains-requires-clause-asked
unfolding in_condition
is_true-itself_contains-requires-clause-asked g t c =
    let s = form.steps (map view.step c.in-Contains.steps) in
    let ps = form.paths (map view.relative_path c.in-Contains.ignored) in
    c.args.self.now.asked c.args.number s c.in-Contains.selection ps (stand-itself g.G.Ground.conditions c.args.number _ _ (rw (c.in-Contains.is, view_contains) at c.requires.numbered))

pub is_true-led_from-requires : goal.is_true-led_from-requires
unfolding in_condition
is_true-led_from-requires g t c κs within =
    let s = form.steps (map view.step c.in-Contains.steps) in
    let ps = form.paths (map view.relative_path c.in-Contains.ignored) in
    let inside = stand-inside g.G.Ground.conditions c.args.number _ _ _ (rw (c.in-Contains.is, view_contains) at c.requires.numbered) c.in_ok-first-in-Contains.ensures in
    let further = stand-next (in_paths ps) (in_steps s) (in_paths ps ++ in_steps s) refl g.G.Ground.conditions c.in_ok-first-in-Contains.first inside _ c.in_ok-after_paths-in-Contains.ensures in
    (search (rules, the_lemmas), (within.0, (within.1, (c.requires.item, further))))

pub is_true-some_satisfies-requires : goal.is_true-some_satisfies-requires
unfolding in_condition
is_true-some_satisfies-requires g t c κs within =
    let s = form.steps (map view.step c.in-Contains.steps) in
    let ps = form.paths (map view.relative_path c.in-Contains.ignored) in
    let numbered = rw (c.in-Contains.is, view_contains) at c.requires.numbered in
    let first = stand-first (in_paths ps) (in_steps s) (in_paths ps ++ in_steps s) refl g.G.Ground.conditions c.in_ok-first-in-Contains.first (stand-inside g.G.Ground.conditions c.args.number _ _ _ numbered c.in_ok-first-in-Contains.ensures) in
    let itself = stand-itself g.G.Ground.conditions c.args.number _ _ numbered in
    let asked = c.args.self.now.asked c.args.number s c.in-Contains.selection ps itself in
    let given = c.args.self.now.given c.args.number s c.in-Contains.selection ps itself in
    (search (rules, the_lemmas), (within.0, (within.1, (c.requires.item, (c.in_ok-nodes-in-Contains.ensures.elements.there, (asked, (given, first)))))))

pub is_true-returns-then-is_of_itself-clause-truth : goal.is_true-returns-then-is_of_itself-clause-truth
is_true-returns-then-is_of_itself-clause-truth g t c =
    let same = of-itself (satisfied g.G.Ground.root g.G.Ground.meaning) (elements (plain g.G.Ground.root)) c.in-Contains.selection (element_of g.G.Ground.root c.args.item) c.in-Contains.steps c.in-Contains.ignored
    (c.is_of_itself.ensures.steps c.if-is_of_itself.true) (c.is_of_itself.ensures.ignored c.if-is_of_itself.true) in
    rw (c.in-Contains.is, view_contains) (subst (λ b. IfOk c.itself_contains.result (λ truth. truth ≡ b)) same c.itself_contains.ensures.truth)

pub is_true-returns-then-is_of_itself-clause-cost : goal.is_true-returns-then-is_of_itself-clause-cost
is_true-returns-then-is_of_itself-clause-cost g t c =
    rw (c.in-Contains.is, view_contains) (at-price c.itself_contains.ensures.cost
    (itself-price g.G.Ground.root g.G.Ground.meaning c.in-Contains.selection (element_of g.G.Ground.root c.args.item) c.in-Contains.steps c.in-Contains.ignored
    (c.is_of_itself.ensures.steps c.if-is_of_itself.true) (c.is_of_itself.ensures.ignored c.if-is_of_itself.true)))

pub is_true-returns-in-Some-clause-truth : goal.is_true-returns-in-Some-clause-truth
unfolding in_condition
is_true-returns-in-Some-clause-truth g t c =
    let s = form.steps (map view.step c.in-Contains.steps) in
    let ps = form.paths (map view.relative_path c.in-Contains.ignored) in
    let known = some-of _ c.in-Some.is c.truth.ensures in
    rw (c.in-Contains.is, view_contains) (known (form.contains s c.in-Contains.selection ps) (stand-itself g.G.Ground.conditions c.args.number _ _ (rw (c.in-Contains.is, view_contains) at c.requires.numbered)))

pub is_true-keep-requires : goal.is_true-keep-requires
unfolding in_condition meaning.is_true
is_true-keep-requires g t c =
    let s = form.steps (map view.step c.in-Contains.steps) in
    let ps = form.paths (map view.relative_path c.in-Contains.ignored) in
    is-truth g.G.Ground.root g.G.Ground.meaning g.G.Ground.conditions c.args.number c.args.item c.in_ok-truth-in-Contains.truth (form.contains s c.in-Contains.selection ps)
    (stand-itself g.G.Ground.conditions c.args.number _ _ (rw (c.in-Contains.is, view_contains) at c.requires.numbered)) (rw c.in_ok-nodes-in-Contains.ensures.elements.are at c.in_ok-truth-in-Contains.ensures.truth)

pub is_true-returns-in_ok-keep-in-Contains-clause-truth : goal.is_true-returns-in_ok-keep-in-Contains-clause-truth
unfolding meaning.is_true
is_true-returns-in_ok-keep-in-Contains-clause-truth g t c =
    rw (c.in-Contains.is, view_contains) (rw c.in_ok-nodes-in-Contains.ensures.elements.are at c.in_ok-truth-in-Contains.ensures.truth)

pub is_true-returns-in_err-nodes-in-Contains-clause-cost : goal.is_true-returns-in_err-nodes-in-Contains-clause-cost
is_true-returns-in_err-nodes-in-Contains-clause-cost g t c =
    rw (c.in-Contains.is, view_contains) (first-part-cost _ c.led_from.ensures.cost (contains-price _ _ _ _ _ _))

pub is_true-returns-in_err-truth-in-Contains-clause-cost : goal.is_true-returns-in_err-truth-in-Contains-clause-cost
is_true-returns-in_err-truth-in-Contains-clause-cost g t c =
    rw (c.in-Contains.is, view_contains) (both-cost c.led_from.ensures.cost (rw c.in_ok-nodes-in-Contains.ensures.elements.are at c.some_satisfies.ensures.cost) (contains-price _ _ _ _ _ _))

pub is_true-returns-in_err-keep-in-Contains-clause-cost : goal.is_true-returns-in_err-keep-in-Contains-clause-cost
is_true-returns-in_err-keep-in-Contains-clause-cost g t c =
    rw (c.in-Contains.is, view_contains, c.keep.ensures)
    (both-cost c.led_from.ensures.cost (rw c.in_ok-nodes-in-Contains.ensures.elements.are at c.some_satisfies.ensures.cost) (contains-price _ _ _ _ _ _))

pub is_true-returns-in_ok-keep-in-Contains-clause-cost : goal.is_true-returns-in_ok-keep-in-Contains-clause-cost
is_true-returns-in_ok-keep-in-Contains-clause-cost g t c =
    rw (c.in-Contains.is, view_contains, c.keep.ensures)
    (both-cost c.led_from.ensures.cost (rw c.in_ok-nodes-in-Contains.ensures.elements.are at c.some_satisfies.ensures.cost) (contains-price _ _ _ _ _ _))

-- ---- what is ignored

pub some_satisfies-returns-then-is_empty-clause-truth : goal.some_satisfies-returns-then-is_empty-clause-truth
some_satisfies-returns-then-is_empty-clause-truth g t c =
    let root = g.G.Ground.root in
    let sat = satisfied root g.G.Ground.meaning in
    let ps = form.paths (map view.relative_path c.args.paths.now) in
    let test = sat c.args.selection (meaning.ignored sat (elements (plain root)) ps (element_of root c.args.item)) in
    sym (ap (λ l. list_any test (map (element_of root) l)) (c.is_empty.ensures.0 c.if-is_empty.true))

pub some_satisfies-ignored-requires : goal.some_satisfies-ignored-requires
some_satisfies-ignored-requires g t c κs within = (search (rules, the_lemmas), (within.0, (within.1, (c.requires.item, c.requires.numbered))))

pub some_satisfies-some_contains-requires-clause-given : goal.some_satisfies-some_contains-requires-clause-given
some_satisfies-some_contains-requires-clause-given g t c =
    let root = g.G.Ground.root in
    given-holes g.T.HoleTest.takes_holes root (satisfied root g.G.Ground.meaning) (elements (plain root)) (form.paths (map view.relative_path c.args.paths.now)) (element_of root c.args.item)
    c.in_ok-holes.holes c.requires.given c.in_ok-holes.ensures.elements.are

pub some_satisfies-returns-clause-truth : goal.some_satisfies-returns-clause-truth
some_satisfies-returns-clause-truth g t c = rw c.in_ok-holes.ensures.elements.are at c.in_ok-truth.ensures.truth

pub some_satisfies-returns-in_err-holes-clause-cost : goal.some_satisfies-returns-in_err-holes-clause-cost
some_satisfies-returns-in_err-holes-clause-cost g t c = first-part-cost _ c.ignored.ensures.cost refl

pub some_satisfies-returns-in_err-truth-clause-cost : goal.some_satisfies-returns-in_err-truth-clause-cost
some_satisfies-returns-in_err-truth-clause-cost g t c = both-cost c.ignored.ensures.cost c.some_contains.ensures.cost refl

pub some_satisfies-returns-clause-cost : goal.some_satisfies-returns-clause-cost
some_satisfies-returns-clause-cost g t c = both-cost c.ignored.ensures.cost c.some_contains.ensures.cost refl

pub ignored-returns-then-is_empty-clause-elements : goal.ignored-returns-then-is_empty-clause-elements
unfolding meaning.ignored
ignored-returns-then-is_empty-clause-elements g t c =
    rw (c.is_empty.ensures.0 c.if-is_empty.true, c.new.ensures) (record { there = All-nil (IsElement g.G.Ground.root); are = refl })

pub ignored-led_from-requires : goal.ignored-led_from-requires
ignored-led_from-requires g t c κs within =
    let first = stand-first _ _ _ (paths-from c.as_slice-path-items.result.now c.loop-path.path-index c.path-item.result c.loop-path-test.true) g.G.Ground.conditions c.loop-path.first c.loop-path.invariant.numbered in
    (search (rules, the_lemmas), (within.0, (within.1, (c.requires.item, rw c.path-item.is first))))

pub ignored-loop-path-preserved : goal.ignored-loop-path-preserved
ignored-loop-path-preserved g t c =
    let root = g.G.Ground.root in
    let m = g.G.Ground.meaning in
    let e = element_of root c.args.item in
    let items = c.as_slice-path-items.result.now in
    let i = c.loop-path.path-index in
    let d = c.path-item.result in
    let lt = c.loop-path-test.true in
    let found = c.in_ok-found.found in
    let now = rw c.path-item.is at c.in_ok-found.ensures.elements.are in
    let marked = rw c.led_from.new.self.root at c.in_ok-mark_found.ensures.marks in
    let ways = rw c.led_from.new.self.root at c.in_ok-mark_found.ensures.ways in
    record {
      marks = marks-more root m e items i d lt found now c.loop-path.marks c.mark_found.new.marks marked c.loop-path.invariant.marks;
      ways = ways;
      lead = lead-more root m e items i d lt found now c.loop-path.ways c.mark_found.new.ways c.in_ok-found.ensures.elements.there ways c.in_ok-mark_found.ensures.there
          c.in_ok-mark_found.ensures.more c.loop-path.invariant.lead;
      inside = inside-more root m e items i d lt found now e
          (led-inside root m c.args.item c.requires.item (steps_of (get_or items i d)) (e ∷ []) (All-cons (AtOrBelow e) e [] (prefix-itself e.place) (All-nil (AtOrBelow e)))) c.loop-path.invariant.inside;
      numbered = stand-next _ _ _ (paths-from items i d lt) _ _ c.loop-path.invariant.numbered _ (rw c.path-item.is at c.in_ok-after.ensures);
      cost = cost-next (rw c.path-item.is at c.led_from.ensures.cost) c.loop-path.invariant.cost (paths-next root m items i d lt e);
    }

pub ignored-returns-clause-elements : goal.ignored-returns-clause-elements
ignored-returns-clause-elements g t c =
    let root = g.G.Ground.root in
    let m = g.G.Ground.meaning in
    let e = element_of root c.args.item in
    let items = c.as_slice-path-items.result.now in
    let past : length items ≤ c.loop-path.path-index = omega (arith, c.loop-path-test.false) in
    let every = take_all c.loop-path.path-index items past ∙ c.as_slice-path-items.ensures in
    record {
      there = rw c.loop-path.self.root at c.in_ok-nodes.ensures.there;
      are = (rw c.loop-path.self.root at c.in_ok-nodes.ensures.elements) (is_in (led_by root m e c.args.paths.now)) (rw every at c.loop-path.invariant.marks) (rw every at c.loop-path.invariant.lead)
          ∙ all-ignored root c.args.item c.requires.item m c.args.paths.now (rw every at c.loop-path.invariant.inside);
    }

pub ignored-returns-in_err-found-clause-cost : goal.ignored-returns-in_err-found-clause-cost
ignored-returns-in_err-found-clause-cost g t c =
    cost-part _ (rw c.path-item.is at c.led_from.ensures.cost) c.loop-path.invariant.cost
    (paths-next g.G.Ground.root g.G.Ground.meaning c.as_slice-path-items.result.now c.loop-path.path-index c.path-item.result c.loop-path-test.true (element_of g.G.Ground.root c.args.item))

pub ignored-returns-in_err-mark_found-clause-cost : goal.ignored-returns-in_err-mark_found-clause-cost
ignored-returns-in_err-mark_found-clause-cost g t c =
    cost-part _ (rw c.path-item.is at c.led_from.ensures.cost) c.loop-path.invariant.cost
    (paths-next g.G.Ground.root g.G.Ground.meaning c.as_slice-path-items.result.now c.loop-path.path-index c.path-item.result c.loop-path-test.true (element_of g.G.Ground.root c.args.item))

-- ---- joined

pub joined-is_true-requires : goal.joined-is_true-requires
joined-is_true-requires g t c κs within =
    let first = stand-first _ _ _ (conditions-from c.as_slice-condition-items.result.now c.loop-condition.condition-index c.condition-item.result c.loop-condition-test.true) g.G.Ground.conditions c.loop-condition.first c.loop-condition.invariant.numbered in
    (search (rules, the_lemmas), (within.0, (within.1, (c.requires.item, rw c.condition-item.is first))))

pub joined-returns-then-branch-deciding-clause-truth : goal.joined-returns-then-branch-deciding-clause-truth
joined-returns-then-branch-deciding-clause-truth g t c =
    let root = g.G.Ground.root in
    let says = rw c.condition-item.is at c.in_ok-is_true.ensures.truth in
    decided (satisfied root g.G.Ground.meaning) (elements (plain root)) (element_of root c.args.item) c.args.deciding c.as_slice-condition-items.result.now c.loop-condition.condition-index c.condition-item.result
    c.loop-condition-test.true c.in_ok-is_true.field-0 says c.if-branch-deciding.true
    ∙ c.loop-condition.invariant.left

pub joined-loop-condition-preserved : goal.joined-loop-condition-preserved
joined-loop-condition-preserved g t c =
    let root = g.G.Ground.root in
    let m = g.G.Ground.meaning in
    let e = element_of root c.args.item in
    let items = c.as_slice-condition-items.result.now in
    let i = c.loop-condition.condition-index in
    let d = c.condition-item.result in
    let says = rw c.condition-item.is at c.in_ok-is_true.ensures.truth in
    record {
      left = undecided (satisfied root m) (elements (plain root)) e c.args.deciding items i d c.loop-condition-test.true c.in_ok-is_true.field-0 says c.if-branch-deciding.false ∙ c.loop-condition.invariant.left;
      numbered = stand-next _ _ _ (conditions-from items i d c.loop-condition-test.true) _ _ c.loop-condition.invariant.numbered _ (rw c.condition-item.is at c.in_ok-after.ensures);
      cost = cost-next (rw c.condition-item.is at c.is_true.ensures.cost) c.loop-condition.invariant.cost (conditions-next root m items i d c.loop-condition-test.true e);
    }

pub joined-returns-clause-truth : goal.joined-returns-clause-truth
joined-returns-clause-truth g t c =
    let items = c.as_slice-condition-items.result.now in
    let past : length items ≤ c.loop-condition.condition-index = omega (arith, c.loop-condition-test.false) in
    joined-none (satisfied g.G.Ground.root g.G.Ground.meaning) (elements (plain g.G.Ground.root)) (element_of g.G.Ground.root c.args.item) c.args.deciding
    ∙ (rw (drop_all c.loop-condition.condition-index items past) at c.loop-condition.invariant.left)

pub joined-returns-in_err-is_true-clause-cost : goal.joined-returns-in_err-is_true-clause-cost
joined-returns-in_err-is_true-clause-cost g t c =
    cost-part _ (rw c.condition-item.is at c.is_true.ensures.cost) c.loop-condition.invariant.cost
    (conditions-next g.G.Ground.root g.G.Ground.meaning c.as_slice-condition-items.result.now c.loop-condition.condition-index c.condition-item.result c.loop-condition-test.true (element_of g.G.Ground.root c.args.item))

pub joined-returns-then-branch-deciding-clause-cost : goal.joined-returns-then-branch-deciding-clause-cost
joined-returns-then-branch-deciding-clause-cost g t c =
    cost-part _ (rw c.condition-item.is at c.is_true.ensures.cost) c.loop-condition.invariant.cost
    (conditions-next g.G.Ground.root g.G.Ground.meaning c.as_slice-condition-items.result.now c.loop-condition.condition-index c.condition-item.result c.loop-condition-test.true (element_of g.G.Ground.root c.args.item))

-- ---- led_from

pub led_from-led-requires : goal.led_from-led-requires
led_from-led-requires g t c κs within =
    (search (rules, the_lemmas), (within.0, (within.1, (rw c.in_ok-from.ensures (one-below g.G.Ground.root c.args.item c.requires.item), rw c.as_slice.ensures c.requires.numbered))))

-- ---- chosen_in_order

pub chosen_in_order-next-requires : goal.chosen_in_order-next-requires
chosen_in_order-next-requires g t c =
    let root = g.G.Ground.root in
    let s = c.args.step.now in
    let asked = of-predicates root g.G.Ground.meaning g.G.Ground.conditions c.loop-found.self.asked (form.predicates (map view.predicate s.predicates)) c.args.number
    (rw (in-step s) at c.requires.numbered) in
    record {
      left = rw c.loop-found.self.root c.loop-found.invariant.left;
      no_number = ap spec.has_number (sym (step-is s)) ∙ c.requires.no_number;
      asked = rw (c.loop-found.self.root, c.loop-found.self.meaning) asked;
      stretch = rw (c.loop-found.self.root, c.loop-found.self.meaning) c.loop-found.invariant.stretch;
    }

pub chosen_in_order-loop-found-init : goal.chosen_in_order-loop-found-init
chosen_in_order-loop-found-init g t c =
    let root = g.G.Ground.root in
    let m = g.G.Ground.meaning in
    let s = c.args.step.now in
    let ps = form.predicates (map view.predicate s.predicates) in
    let all : to_come root s.deep c.in_ok-offering.offering.left.items ≡ flat_map (spec.offered s.deep) (map (element_of root) c.args.outer.now) = rw c.args.self.now.root at c.in_ok-offering.ensures.offers in
    record {
      done =
          ap (λ l. map (element_of root) l ++ meaning.filtered (satisfied root m) (elements (plain root)) ps (filter (λ e. meaning.is_named c.of-name.result e.node) (to_come root s.deep c.in_ok-offering.offering.left.items))) c.new-found.ensures
          ∙ ap (λ l. meaning.filtered (satisfied root m) (elements (plain root)) ps (filter (λ e. meaning.is_named c.of-name.result e.node) l)) all
          ∙ ap (λ n. meaning.filtered (satisfied root m) (elements (plain root)) ps (filter (λ e. meaning.is_named n e.node) (flat_map (spec.offered s.deep) (map (element_of root) c.args.outer.now)))) c.of-name.ensures;
      there = subst (All (IsElement root)) (sym c.new-found.ensures) (All-nil (IsElement root));
      left = rw c.args.self.now.root at c.in_ok-offering.ensures.there;
      stretch = subst (λ n. KeepNothing root m c.in_ok-offering.offering.stretch.from n ps) (sym c.in_ok-offering.ensures.stretch) (nothing-kept root m c.in_ok-offering.offering.stretch.from ps);
      cost =
          let named = ap (λ n. price.predicates_price root m ps (filter (λ e. meaning.is_named n e.node) (to_come root s.deep c.in_ok-offering.offering.left.items))) c.of-name.ensures in
          let offers = ap (λ l. price.predicates_price root m ps (filter (λ e. meaning.is_named s.test e.node) l)) all in
          record { same = refl; within = omega (arith, named, offers) };
    }

pub chosen_in_order-passes-requires : goal.chosen_in_order-passes-requires
chosen_in_order-passes-requires g t c κs within =
    let no-number = ap spec.has_number (sym (step-is c.args.step.now)) ∙ c.requires.no_number in
    let there = some-of _ c.in-Some.is (rw c.loop-found.self.root at c.in_ok-here.ensures.there) in
    (search (rules, the_lemmas), (within.0, (within.1, (no-number, (there, rw (in-step c.args.step.now) at c.requires.numbered)))))

pub chosen_in_order-loop-found-preserved : goal.chosen_in_order-loop-found-preserved
chosen_in_order-loop-found-preserved g t c =
    let root = g.G.Ground.root in
    let m = g.G.Ground.meaning in
    let s = c.args.step.now in
    let ps = form.predicates (map view.predicate s.predicates) in
    let no-number = ap spec.has_number (sym (step-is s)) ∙ c.requires.no_number in
    let here = c.in-Some.here in
    let named : Element → Bool = λ e. meaning.is_named c.of-name.result e.node in
    let rest = filter named (to_come root s.deep c.next.new.self.left.items) in
    let before = filter named (to_come root s.deep c.loop-found.offering.left.items) in
    let enough = some-of _ c.in-Some.is (rw (c.loop-found.self.root, c.loop-found.self.meaning) at c.in_ok-here.ensures.some) in
    let there = some-of _ c.in-Some.is (rw c.loop-found.self.root at c.in_ok-here.ensures.there) in
    record {
      done = kept-next root m ps no-number here rest before enough c.loop-found.found c.push_if.new.nodes c.in_ok-wanted.wanted _ c.in_ok-push_if.ensures c.in_ok-wanted.ensures.truth c.loop-found.invariant.done;
      there = more-there (IsElement root) c.loop-found.found c.push_if.new.nodes here c.in_ok-wanted.wanted c.in_ok-push_if.ensures there c.loop-found.invariant.there;
      left = rw c.loop-found.self.root at c.in_ok-here.ensures.left;
      stretch = rw (c.loop-found.self.root, c.loop-found.self.meaning) at c.in_ok-here.ensures.stretch;
      cost = cost-here root m ps no-number here rest before enough c.passes.ensures.cost c.loop-found.invariant.cost;
    }

pub chosen_in_order-loop-found-smaller : goal.chosen_in_order-loop-found-smaller
chosen_in_order-loop-found-smaller g t c =
    some-of _ c.in-Some.is (rw c.loop-found.self.root at c.in_ok-here.ensures.fewer)

pub chosen_in_order-returns-clause-elements : goal.chosen_in_order-returns-clause-elements
chosen_in_order-returns-clause-elements g t c =
    let root = g.G.Ground.root in
    let m = g.G.Ground.meaning in
    let s = c.args.step.now in
    let ps = form.predicates (map view.predicate s.predicates) in
    let no-number = ap spec.has_number (sym (step-is s)) ∙ c.requires.no_number in
    let there = All-map (Contains (elements (plain root))) (element_of root) c.args.outer.now
    (All-weaker (IsElement root) (λ r. Contains (elements (plain root)) (element_of root r)) (of-document root) c.args.outer.now c.requires.outer) in
    let named : Element → Bool = λ e. meaning.is_named c.of-name.result e.node in
    let before = filter named (to_come root s.deep c.loop-found.offering.left.items) in
    let told = rw (c.loop-found.self.root, c.loop-found.self.meaning) at c.in_ok-here.ensures.none in
    let nothing : Suffice root m ps [] before = subst (λ o. IfNone o (Suffice root m ps [] before)) c.in_default.is told in
    record {
      there = c.loop-found.invariant.there;
      are = kept-last root m ps no-number before nothing c.loop-found.found _ c.loop-found.invariant.done
          ∙ in-one-pass root m (view.step s) s.deep s.test ps (step-is s) c.requires.no_number (map (element_of root) c.args.outer.now) c.requires.apart there;
    }

-- what is left is paid from what all of them cost
pub chosen_in_order-returns-clause-cost : goal.chosen_in_order-returns-clause-cost
chosen_in_order-returns-clause-cost g t c =
    let s = c.args.step.now in
    at-price (cost-end c.loop-found.invariant.cost)
    (one-pass-price g.G.Ground.root g.G.Ground.meaning (view.step s) s.deep s.test (form.predicates (map view.predicate s.predicates)) (step-is s) c.requires.no_number (map (element_of g.G.Ground.root) c.args.outer.now))

pub chosen_in_order-returns-in_err-here-clause-cost : goal.chosen_in_order-returns-in_err-here-clause-cost
chosen_in_order-returns-in_err-here-clause-cost g t c =
    let s = c.args.step.now in
    at-price (cost-end c.loop-found.invariant.cost)
    (one-pass-price g.G.Ground.root g.G.Ground.meaning (view.step s) s.deep s.test (form.predicates (map view.predicate s.predicates)) (step-is s) c.requires.no_number (map (element_of g.G.Ground.root) c.args.outer.now))

pub chosen_in_order-returns-in_err-wanted-clause-cost : goal.chosen_in_order-returns-in_err-wanted-clause-cost
chosen_in_order-returns-in_err-wanted-clause-cost g t c =
    let s = c.args.step.now in
    let enough = some-of _ c.in-Some.is (rw (c.loop-found.self.root, c.loop-found.self.meaning) at c.in_ok-here.ensures.some) in
    at-price (cost-end (cost-here _ _ _ (ap spec.has_number (sym (step-is s)) ∙ c.requires.no_number) _ _ _ enough c.passes.ensures.cost c.loop-found.invariant.cost))
    (one-pass-price _ _ (view.step s) s.deep s.test (form.predicates (map view.predicate s.predicates)) (step-is s) c.requires.no_number (map (element_of g.G.Ground.root) c.args.outer.now))

pub chosen_in_order-returns-in_err-push_if-clause-cost : goal.chosen_in_order-returns-in_err-push_if-clause-cost
chosen_in_order-returns-in_err-push_if-clause-cost g t c =
    let s = c.args.step.now in
    let enough = some-of _ c.in-Some.is (rw (c.loop-found.self.root, c.loop-found.self.meaning) at c.in_ok-here.ensures.some) in
    at-price (cost-end (cost-here _ _ _ (ap spec.has_number (sym (step-is s)) ∙ c.requires.no_number) _ _ _ enough c.passes.ensures.cost c.loop-found.invariant.cost))
    (one-pass-price _ _ (view.step s) s.deep s.test (form.predicates (map view.predicate s.predicates)) (step-is s) c.requires.no_number (map (element_of g.G.Ground.root) c.args.outer.now))

-- ---- passes

pub passes-passes_by-requires : goal.passes-passes_by-requires
passes-passes_by-requires g t c κs within =
    let first = stand-first _ _ _ (predicates-from c.as_slice-predicate-items.result.now c.loop-predicate.predicate-index c.predicate-item.result c.loop-predicate-test.true) g.G.Ground.conditions c.loop-predicate.first c.loop-predicate.invariant.numbered in
    (search (rules, the_lemmas), (within.0, (within.1, (c.requires.item, rw c.predicate-item.is first))))

pub passes-loop-predicate-preserved : goal.passes-loop-predicate-preserved
passes-loop-predicate-preserved g t c =
    let root = g.G.Ground.root in
    let m = g.G.Ground.meaning in
    let items = c.as_slice-predicate-items.result.now in
    let i = c.loop-predicate.predicate-index in
    let d = c.predicate-item.result in
    let e = element_of root c.args.item in
    let within = c.loop-predicate-test.true in
    let is = sym (rw c.predicate-item.is at c.in_ok-passes_by.ensures.truth) ∙ c.if-not-branch.false in
    let no-number = rw (← c.as_slice-predicate-items.ensures) at c.requires.no_number in
    record {
      left = passes-next (satisfied root m) (elements (plain root)) items i d within e is ∙ c.loop-predicate.invariant.left;
      numbered = stand-next _ _ _ (predicates-from items i d within) _ _ c.loop-predicate.invariant.numbered _ (rw c.predicate-item.is at c.in_ok-after.ensures);
      cost = cost-next (rw c.predicate-item.is at c.passes_by.ensures.cost) c.loop-predicate.invariant.cost
          (predicates-next root m items i d within (e ∷ []) (e ∷ []) (stays-one (satisfied root m) (elements (plain root)) items i d within e no-number is));
    }

pub passes-returns-then-not-branch-clause-truth : goal.passes-returns-then-not-branch-clause-truth
passes-returns-then-not-branch-clause-truth g t c =
    let root = g.G.Ground.root in
    passes-stop (satisfied root g.G.Ground.meaning) (elements (plain root)) c.as_slice-predicate-items.result.now c.loop-predicate.predicate-index c.predicate-item.result c.loop-predicate-test.true
    (element_of root c.args.item) (sym (rw c.predicate-item.is at c.in_ok-passes_by.ensures.truth) ∙ c.if-not-branch.true)
    ∙ c.loop-predicate.invariant.left

pub passes-returns-then-not-branch-clause-cost : goal.passes-returns-then-not-branch-clause-cost
passes-returns-then-not-branch-clause-cost g t c =
    cost-part _ (rw c.predicate-item.is at c.passes_by.ensures.cost) c.loop-predicate.invariant.cost
    (predicates-next g.G.Ground.root g.G.Ground.meaning c.as_slice-predicate-items.result.now c.loop-predicate.predicate-index c.predicate-item.result c.loop-predicate-test.true
    (element_of g.G.Ground.root c.args.item ∷ []) _ refl)

pub passes-returns-in_err-passes_by-clause-cost : goal.passes-returns-in_err-passes_by-clause-cost
passes-returns-in_err-passes_by-clause-cost g t c =
    cost-part _ (rw c.predicate-item.is at c.passes_by.ensures.cost) c.loop-predicate.invariant.cost
    (predicates-next g.G.Ground.root g.G.Ground.meaning c.as_slice-predicate-items.result.now c.loop-predicate.predicate-index c.predicate-item.result c.loop-predicate-test.true
    (element_of g.G.Ground.root c.args.item ∷ []) _ refl)

pub passes-returns-clause-truth : goal.passes-returns-clause-truth
passes-returns-clause-truth g t c =
    let items = c.as_slice-predicate-items.result.now in
    let past : length items ≤ c.loop-predicate.predicate-index = omega (arith, c.loop-predicate-test.false) in
    rw (drop_all c.loop-predicate.predicate-index items past) at c.loop-predicate.invariant.left

-- ---- passes_by

pub passes_by-is_true-requires : goal.passes_by-is_true-requires
unfolding in_predicate
passes_by-is_true-requires g t c κs within = (search (rules, the_lemmas), (within.0, (within.1, (c.requires.item, rw (c.in-Holds.is, view_holds) at c.requires.numbered))))

pub passes_by-returns-in-Number-clause-truth : goal.passes_by-returns-in-Number-clause-truth
passes_by-returns-in-Number-clause-truth g t c = rw (c.in-Number.is, view_number) refl

pub passes_by-returns-in-Holds : goal.passes_by-returns-in-Holds
passes_by-returns-in-Holds g t c =
    let own_price = one-holds g.G.Ground.root g.G.Ground.meaning (view.condition c.in-Holds.condition) (element_of g.G.Ground.root c.args.item) in
    rw (c.in-Holds.is, view_holds) (record { truth = c.is_true.ensures.truth; cost = at-price c.is_true.ensures.cost own_price })

-- ---- stepped

pub stepped-chosen_in_order-requires : goal.stepped-chosen_in_order-requires
stepped-chosen_in_order-requires g t c κs within =
    (search (rules, the_lemmas), (within.0, (within.1, (rw c.args.self.now.root at c.in_ok-outer.ensures.there, (rw c.args.self.now.root at c.in_ok-outer.ensures.apart, (c.keeps_order.ensures.numbers c.if-keeps_order.true, c.requires.numbered))))))

pub stepped-chosen-requires : goal.stepped-chosen-requires
stepped-chosen-requires g t c κs within =
    let root = g.G.Ground.root in
    let base = element_of root c.args.base in
    let contexts = map (element_of root) c.args.contexts in
    let outer = map (element_of root) c.in_ok-outer.outer in
    let parents = c.in_ok-parents.parents in
    let deep = c.args.step.now.deep in
    let offered = parents-inside base deep contexts c.requires.contexts.inside in
    let members = same-parents deep outer contexts (map (element_of root) parents) (rw c.args.self.now.root at c.in_ok-outer.ensures.members) (rw c.args.self.now.root at c.in_ok-parents.ensures.are) in
    let inside = same-inside base (map (element_of root) parents) (spec.parents deep contexts) members offered in
    (search (rules, the_lemmas), (within.0, (within.1, (c.requires.contexts.base_is, (rw c.args.self.now.root at c.in_ok-parents.ensures.there, (inside, c.requires.numbered))))))

pub stepped-returns-then-keeps_order-clause-elements : goal.stepped-returns-then-keeps_order-clause-elements
stepped-returns-then-keeps_order-clause-elements g t c =
    let root = g.G.Ground.root in
    let s = c.args.step.now in
    let m = g.G.Ground.meaning in
    let contexts = map (element_of root) c.args.contexts in
    let outer = map (element_of root) c.in_ok-outer.outer in
    let whole : s.deep ≡ false → outer ≡ contexts = λ flat. ap (map (element_of root)) (c.in_ok-outer.ensures.whole (c.keeps_order.ensures.apart c.if-keeps_order.true flat)) in
    subst (λ es. IfOk c.chosen_in_order.result (ReferTo root es))
    (same-offered (spec.kept_children root m (view.step s)) (spec.parents s.deep outer) (spec.parents s.deep contexts) (elements (plain root))
    (outer-members s.deep outer contexts whole (rw c.args.self.now.root at c.in_ok-outer.ensures.members))
    ∙ stepped-is root m (view.step s) s.deep s.test (form.predicates (map view.predicate s.predicates)) contexts (step-is s))
    c.chosen_in_order.ensures.elements

pub stepped-returns-then-keeps_order-clause-cost : goal.stepped-returns-then-keeps_order-clause-cost
stepped-returns-then-keeps_order-clause-cost g t c =
    let root = g.G.Ground.root in
    let m = g.G.Ground.meaning in
    let s = c.args.step.now in
    let contexts = map (element_of root) c.args.contexts in
    let outer = map (element_of root) c.in_ok-outer.outer in
    let whole : s.deep ≡ false → outer ≡ contexts = λ flat. ap (map (element_of root)) (c.in_ok-outer.ensures.whole (c.keeps_order.ensures.apart c.if-keeps_order.true flat)) in
    at-most c.chosen_in_order.ensures.cost (outer-once s.deep outer contexts whole (rw c.args.self.now.root at c.in_ok-outer.ensures.once) (price.children_price root m (view.step s)))
    (step-price root m (view.step s) s.deep s.test (form.predicates (map view.predicate s.predicates)) contexts (step-is s))

pub stepped-returns-clause-elements : goal.stepped-returns-clause-elements
stepped-returns-clause-elements g t c =
    let root = g.G.Ground.root in
    let s = c.args.step.now in
    let m = g.G.Ground.meaning in
    let contexts = map (element_of root) c.args.contexts in
    let outer = map (element_of root) c.in_ok-outer.outer in
    let parents = map (element_of root) c.in_ok-parents.parents in
    subst (λ es. IfOk c.chosen.result (ReferTo root es))
    (same-offered (spec.kept_children root m (view.step s)) parents (spec.parents s.deep contexts) (elements (plain root))
    (same-parents s.deep outer contexts parents (rw c.args.self.now.root at c.in_ok-outer.ensures.members) (rw c.args.self.now.root at c.in_ok-parents.ensures.are))
    ∙ stepped-is root m (view.step s) s.deep s.test (form.predicates (map view.predicate s.predicates)) contexts (step-is s))
    c.chosen.ensures.elements

pub stepped-returns-clause-cost : goal.stepped-returns-clause-cost
stepped-returns-clause-cost g t c =
    let root = g.G.Ground.root in
    let m = g.G.Ground.meaning in
    let s = c.args.step.now in
    let contexts = map (element_of root) c.args.contexts in
    let outer = map (element_of root) c.in_ok-outer.outer in
    let parents = map (element_of root) c.in_ok-parents.parents in
    at-most c.chosen.ensures.cost
    (few-parents s.deep outer contexts parents (rw c.args.self.now.root at c.in_ok-outer.ensures.once) (rw c.args.self.now.root at c.in_ok-parents.ensures.are) (price.children_price root m (view.step s)))
    (step-price root m (view.step s) s.deep s.test (form.predicates (map view.predicate s.predicates)) contexts (step-is s))

-- ---- led

pub led-stepped-requires : goal.led-stepped-requires
led-stepped-requires g t c κs within =
    let first = stand-first _ _ _ (steps-from c.args.steps.now c.loop-step.step-index c.step-item.result c.loop-step-test.true) g.G.Ground.conditions c.loop-step.first c.loop-step.invariant.numbered in
    (search (rules, the_lemmas), (within.0, (within.1, (c.loop-step.invariant.items, rw c.step-item.is first))))

pub led-loop-step-preserved : goal.led-loop-step-preserved
led-loop-step-preserved g t c =
    let root = g.G.Ground.root in
    let m = g.G.Ground.meaning in
    let items = c.args.steps.now in
    let i = c.loop-step.step-index in
    let d = c.step-item.result in
    let before = map (element_of root) c.loop-step.items in
    let after = map (element_of root) c.in_ok-items.items in
    let now = rw c.step-item.is at c.in_ok-items.ensures.elements.are in
    record {
      left = led-next (satisfied root m) (elements (plain root)) items i d c.loop-step-test.true before after now ∙ c.loop-step.invariant.left;
      items = record {
        base_is = c.requires.from.base_is;
        there = c.in_ok-items.ensures.elements.there;
        inside = subst (All (AtOrBelow (element_of root c.args.base))) (sym now)
            (stepped-inside root m c.args.base c.requires.from.base_is (view.step (get_or items i d)) before c.loop-step.invariant.items.inside);
        ordered = subst (AllPairs Before) (sym now) (stepped-ordered (satisfied root m) (plain root) (view.step (get_or items i d)) (map meaning.item before));
      };
      numbered = stand-next _ _ _ (steps-from items i d c.loop-step-test.true) _ _ c.loop-step.invariant.numbered _ (rw c.step-item.is at c.in_ok-after.ensures);
      cost = cost-next (rw c.step-item.is at c.stepped.ensures.cost) c.loop-step.invariant.cost (steps-next root m items i d c.loop-step-test.true before after now);
    }

pub led-returns-clause-elements : goal.led-returns-clause-elements
unfolding meaning.led
led-returns-clause-elements g t c =
    let past : length c.args.steps.now ≤ c.loop-step.step-index = omega (arith, c.loop-step-test.false) in
    record { there = c.loop-step.invariant.items.there; are = rw (drop_all c.loop-step.step-index c.args.steps.now past) at c.loop-step.invariant.left }

pub led-returns-in_err-items-clause-cost : goal.led-returns-in_err-items-clause-cost
led-returns-in_err-items-clause-cost g t c =
    cost-part _ (rw c.step-item.is at c.stepped.ensures.cost) c.loop-step.invariant.cost
    (steps-next g.G.Ground.root g.G.Ground.meaning c.args.steps.now c.loop-step.step-index c.step-item.result c.loop-step-test.true (map (element_of g.G.Ground.root) c.loop-step.items) _ refl)

-- ---- passed

pub passed-filtered-requires : goal.passed-filtered-requires
passed-filtered-requires g t c κs within =
    let first = stand-first _ _ _ (predicates-from c.as_slice-predicate-items.result.now c.loop-predicate.predicate-index c.predicate-item.result c.loop-predicate-test.true) g.G.Ground.conditions c.loop-predicate.first c.loop-predicate.invariant.numbered in
    (search (rules, the_lemmas), (within.0, (within.1, (c.loop-predicate.invariant.there, rw c.predicate-item.is first))))

pub passed-loop-predicate-preserved : goal.passed-loop-predicate-preserved
passed-loop-predicate-preserved g t c =
    let root = g.G.Ground.root in
    let m = g.G.Ground.meaning in
    let items = c.as_slice-predicate-items.result.now in
    let i = c.loop-predicate.predicate-index in
    let d = c.predicate-item.result in
    let before = map (element_of root) c.loop-predicate.kept in
    let after = map (element_of root) c.in_ok-kept.kept in
    let now = rw c.predicate-item.is at c.in_ok-kept.ensures.elements.are in
    record {
      left = filtered-next (satisfied root m) (elements (plain root)) items i d c.loop-predicate-test.true before after now ∙ c.loop-predicate.invariant.left;
      there = c.in_ok-kept.ensures.elements.there;
      numbered = stand-next _ _ _ (predicates-from items i d c.loop-predicate-test.true) _ _ c.loop-predicate.invariant.numbered _ (rw c.predicate-item.is at c.in_ok-after.ensures);
      cost = cost-next (rw c.predicate-item.is at c.filtered.ensures.cost) c.loop-predicate.invariant.cost (predicates-next root m items i d c.loop-predicate-test.true before after now);
    }

pub passed-returns-clause-elements : goal.passed-returns-clause-elements
unfolding meaning.filtered
passed-returns-clause-elements g t c =
    let items = c.as_slice-predicate-items.result.now in
    let past : length items ≤ c.loop-predicate.predicate-index = omega (arith, c.loop-predicate-test.false) in
    record { there = c.loop-predicate.invariant.there; are = rw (drop_all c.loop-predicate.predicate-index items past) at c.loop-predicate.invariant.left }

pub passed-returns-in_err-kept-clause-cost : goal.passed-returns-in_err-kept-clause-cost
passed-returns-in_err-kept-clause-cost g t c =
    cost-part _ (rw c.predicate-item.is at c.filtered.ensures.cost) c.loop-predicate.invariant.cost
    (predicates-next g.G.Ground.root g.G.Ground.meaning c.as_slice-predicate-items.result.now c.loop-predicate.predicate-index c.predicate-item.result c.loop-predicate-test.true
    (map (element_of g.G.Ground.root) c.loop-predicate.kept) _ refl)

-- ---- kept, also of children

pub kept-passed-requires : goal.kept-passed-requires
kept-passed-requires g t c κs within =
    (search (rules, the_lemmas), (within.0, (within.1, ((rw c.args.self.now.root at c.in_ok-named.ensures).there, rw (in-step c.args.step.now) at c.requires.numbered))))

pub kept-returns-clause-elements : goal.kept-returns-clause-elements
kept-returns-clause-elements g t c =
    let root = g.G.Ground.root in
    let m = g.G.Ground.meaning in
    let s = c.args.step.now in
    subst (λ es. IfOk c.passed.result (ReferTo root es))
    (ap (meaning.filtered (satisfied root m) (elements (plain root)) (form.predicates (map view.predicate s.predicates))) (rw (c.args.self.now.root, c.of-name.ensures) at c.in_ok-named.ensures).are
    ∙ sym (ap (λ t. spec.kept root m t (map (element_of root) c.args.items.now)) (step-is s)))
    c.passed.ensures.elements

pub kept-returns-clause-cost : goal.kept-returns-clause-cost
kept-returns-clause-cost g t c =
    let root = g.G.Ground.root in
    let m = g.G.Ground.meaning in
    let s = c.args.step.now in
    at-price c.passed.ensures.cost
    (ap (price.predicates_price root m (form.predicates (map view.predicate s.predicates))) (rw (c.args.self.now.root, c.of-name.ensures) at c.in_ok-named.ensures).are
    ∙ sym (ap (λ t. price.list_price root m t (map (element_of root) c.args.items.now)) (step-is s)))

pub kept_children-returns-clause-elements : goal.kept_children-returns-clause-elements
kept_children-returns-clause-elements g t c =
    let root = g.G.Ground.root in
    subst (λ l. IfOk c.kept.result (ReferTo root (spec.kept root g.G.Ground.meaning (view.step c.args.step.now) l))) (rw c.args.self.now.root at c.in_ok-children.ensures.are) c.kept.ensures.elements

pub kept_children-returns-clause-cost : goal.kept_children-returns-clause-cost
kept_children-returns-clause-cost g t c =
    at-price c.kept.ensures.cost (ap (price.list_price g.G.Ground.root g.G.Ground.meaning (view.step c.args.step.now)) (rw c.args.self.now.root at c.in_ok-children.ensures.are))

-- ---- satisfying

pub satisfying-loop-item-preserved : goal.satisfying-loop-item-preserved
satisfying-loop-item-preserved g t c =
    let root = g.G.Ground.root in
    let m = g.G.Ground.meaning in
    let items = c.as_slice-item-items.result.now in
    let i = c.loop-item.item-index in
    let q = get_or items i (of_number 0) in
    let true-of = meaning.is_true (satisfied root m) (elements (plain root)) (view.condition c.args.condition.now) in
    let all : All (IsElement root) items = subst (All (IsElement root)) (sym c.as_slice-item-items.ensures) c.requires.items in
    record {
      done = filter-more (element_of root) true-of items i (of_number 0) c.loop-item-test.true c.loop-item.kept c.push_if.new.nodes c.in_ok-wanted.wanted c.loop-item.invariant.done c.in_ok-push_if.ensures c.in_ok-wanted.ensures.truth;
      there = more-there (IsElement root) c.loop-item.kept c.push_if.new.nodes q c.in_ok-wanted.wanted c.in_ok-push_if.ensures (All-get_or (IsElement root) items i (of_number 0) c.loop-item-test.true all) c.loop-item.invariant.there;
      cost = cost-next c.is_true.ensures.cost c.loop-item.invariant.cost
          (sum-next (price.condition_price root m (view.condition c.args.condition.now)) (element_of root) items i (of_number 0) c.loop-item-test.true);
    }

pub satisfying-returns-in_err-wanted-clause-cost : goal.satisfying-returns-in_err-wanted-clause-cost
satisfying-returns-in_err-wanted-clause-cost g t c =
    cost-part _ c.is_true.ensures.cost c.loop-item.invariant.cost
    (sum-next (price.condition_price g.G.Ground.root g.G.Ground.meaning (view.condition c.args.condition.now)) (element_of g.G.Ground.root) c.as_slice-item-items.result.now c.loop-item.item-index (of_number 0) c.loop-item-test.true)

pub satisfying-returns-in_err-push_if-clause-cost : goal.satisfying-returns-in_err-push_if-clause-cost
satisfying-returns-in_err-push_if-clause-cost g t c =
    cost-part _ c.is_true.ensures.cost c.loop-item.invariant.cost
    (sum-next (price.condition_price g.G.Ground.root g.G.Ground.meaning (view.condition c.args.condition.now)) (element_of g.G.Ground.root) c.as_slice-item-items.result.now c.loop-item.item-index (of_number 0) c.loop-item-test.true)

-- ---- chosen

pub chosen-kept_children-requires : goal.chosen-kept_children-requires
chosen-kept_children-requires g t c κs within =
    let root = g.G.Ground.root in
    let items = c.as_slice-parent-items.result.now in
    let all : All (IsElement root) items = subst (All (IsElement root)) (sym c.as_slice-parent-items.ensures) c.requires.parents in
    let y = All-get_or (IsElement root) items c.loop-parent.parent-index (of_number 0) c.loop-parent-test.true all in
    (search (rules, the_lemmas), (within.0, (within.1, (y, c.requires.numbered))))

pub chosen-loop-parent-preserved : goal.chosen-loop-parent-preserved
chosen-loop-parent-preserved g t c =
    let root = g.G.Ground.root in
    let m = g.G.Ground.meaning in
    let s = view.step c.args.step.now in
    let items = c.as_slice-parent-items.result.now in
    let i = c.loop-parent.parent-index in
    let q = get_or items i (of_number 0) in
    let keeps = spec.kept_children root m s in
    let kept = c.in_ok-kept.ensures.elements.are in
    let all : All (IsElement root) items = subst (All (IsElement root)) (sym c.as_slice-parent-items.ensures) c.requires.parents in
    let y : IsElement root q = All-get_or (IsElement root) items i (of_number 0) c.loop-parent-test.true all in
    let marked = rw c.kept_children.new.self.root at c.in_ok-mark_kept.ensures.marks in
    let ways = rw c.kept_children.new.self.root at c.in_ok-mark_kept.ensures.ways in
    record {
      marks = λ r x.
          let p = list_any (is_same (element_of root r)) in
          marked r x
          ∙ ap (λ l. p l || is_marked c.loop-parent.marks r) kept
          ∙ ap (λ b. p (keeps (element_of root q)) || b) (c.loop-parent.invariant.marks r x)
          ∙ sym (any-more-of (element_of root) keeps p items i (of_number 0) c.loop-parent-test.true);
      ways = ways;
      lead = λ r x e h is.
          or-cases (list_any (is_same e) (keeps (element_of root q))) (is_in (map keeps (map (element_of root) (take i items))) e) (is_marked c.mark_kept.new.ways r)
          (sym (any-more-of (element_of root) keeps (list_any (is_same e)) items i (of_number 0) c.loop-parent-test.true) ∙ is)
          (lead-kept root m s q y c.mark_kept.new.ways ways c.in_ok-kept.kept kept c.in_ok-mark_kept.ensures.there r x e h)
          (λ before. c.in_ok-mark_kept.ensures.more r (c.loop-parent.invariant.lead r x e h before));
      cost = cost-next c.kept_children.ensures.cost c.loop-parent.invariant.cost (sum-next (price.children_price root m s) (element_of root) items i (of_number 0) c.loop-parent-test.true);
    }

pub chosen-returns-clause-elements : goal.chosen-returns-clause-elements
chosen-returns-clause-elements g t c =
    let root = g.G.Ground.root in
    let m = g.G.Ground.meaning in
    let s = view.step c.args.step.now in
    let base = element_of root c.args.base in
    let ps = map (element_of root) c.args.parents.now in
    let test = is_in (map (spec.kept_children root m s) ps) in
    let items = c.as_slice-parent-items.result.now in
    let past : length items ≤ c.loop-parent.parent-index = omega (arith, c.loop-parent-test.false) in
    let every = take_all c.loop-parent.parent-index items past ∙ c.as_slice-parent-items.ensures in
    record {
      there = rw c.loop-parent.self.root at c.in_ok-add_marked.ensures.there;
      are = (rw c.loop-parent.self.root at c.in_ok-add_marked.ensures.elements) test (rw every at c.loop-parent.invariant.marks) (rw every at c.loop-parent.invariant.lead)
          ∙ ap (λ l. map (element_of root) l ++ filter test (below base)) c.new-found.ensures
          ∙ within-base root m s c.args.base c.requires.base ps c.requires.inside;
    }

pub chosen-returns-in_err-kept-clause-cost : goal.chosen-returns-in_err-kept-clause-cost
chosen-returns-in_err-kept-clause-cost g t c =
    cost-part _ c.kept_children.ensures.cost c.loop-parent.invariant.cost
    (sum-next (price.children_price g.G.Ground.root g.G.Ground.meaning (view.step c.args.step.now)) (element_of g.G.Ground.root) c.as_slice-parent-items.result.now c.loop-parent.parent-index (of_number 0) c.loop-parent-test.true)

pub chosen-returns-in_err-mark_kept-clause-cost : goal.chosen-returns-in_err-mark_kept-clause-cost
chosen-returns-in_err-mark_kept-clause-cost g t c =
    cost-part _ c.kept_children.ensures.cost c.loop-parent.invariant.cost
    (sum-next (price.children_price g.G.Ground.root g.G.Ground.meaning (view.step c.args.step.now)) (element_of g.G.Ground.root) c.as_slice-parent-items.result.now c.loop-parent.parent-index (of_number 0) c.loop-parent-test.true)
