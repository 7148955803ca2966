-- The farthest place up to which a part is ruled out, or the nearest up to which all are.
use Rattle.std.proofs.Common.{◌≤◌, ℕ, map, take, length, get_or, min, arith, rules}
use Rattle.std.proofs.lemmas.List.{take_all, take_more}
use Rattle.std.proofs.lemmas.List.Elements.{All-push, All-weaker}
use Rattle.path_grammar.specs.Form as form
use Rattle.path_grammar.specs.View as view
use Rattle.path_grammar.specs.declared.path.Condition.{Condition, the_lemmas}
use Rattle.path_grammar.proofs.Views.{view_holds, view_or, view_and, view_exists, view_contains}
use Rattle.path_nodes.specs.Asked.{OfPredicate, OfCondition, MayAsk}
use Rattle.path_nodes.specs.steps.RuledOut.{IsFalse, KeepNothing, LeadNowhere}
use Rattle.path_nodes.proofs.AskedLemmas.{of-step, nth-step, nth-predicate, nth-condition}
use Rattle.path_nodes.proofs.RulingOutLemmas.{at-greater, nothing-led, nothing-kept, nothing-kept-by, shorter-false, contains-none, contains-nowhere, exists-nowhere, or-all, and-one, keeps-nothing, keep-one, steps-one}
use Rattle.path_nodes.proofs.ruling_out.+rule_out.Goals as goal

-- ---- steps

pub skip_steps-loop-step-init : goal.skip_steps-loop-step-init
skip_steps-loop-step-init g t c = nothing-led c.args.tree.now.root (g.T.TextTest.meaning c.args.test.now) c.args.from _

pub skip_steps-skip_predicates-requires : goal.skip_steps-skip_predicates-requires
skip_steps-skip_predicates-requires g t c κs within =
    let P = MayAsk c.args.tree.now.root (g.T.TextTest.meaning c.args.test.now) in
    let asked = rw (← c.as_slice-step-items.ensures) at c.requires in
    let items = c.as_slice-step-items.result.now in
    let i = c.loop-step.step-index in
    let d = c.step-item.result in
    let one = of-step P (get_or items i d) (nth-step P items i d c.loop-step-test.true asked) in
    (search (rules, the_lemmas), (within, rw c.step-item.is one))

pub skip_steps-loop-step-preserved : goal.skip_steps-loop-step-preserved
skip_steps-loop-step-preserved g t c =
    let root = c.args.tree.now.root in
    let m = g.T.TextTest.meaning c.args.test.now in
    let from = c.args.from in
    let items = c.as_slice-step-items.result.now in
    let P : ℕ → Type 0 = λ n. LeadNowhere root m from n (form.steps (map view.step c.args.steps.now)) in
    let nothing = rw c.step-item.is at c.skip_predicates.ensures in
    let one : P c.skip_predicates.result = rw (← c.as_slice-step-items.ensures)
    (steps-one root m from c.skip_predicates.result items c.loop-step.step-index c.step-item.result c.loop-step-test.true nothing) in
    rw c.max-place.ensures (at-greater P c.skip_predicates.result c.loop-step.place one c.loop-step.invariant)

-- ---- predicates

pub skip_predicates-loop-predicate-init : goal.skip_predicates-loop-predicate-init
skip_predicates-loop-predicate-init g t c = nothing-kept c.args.tree.now.root (g.T.TextTest.meaning c.args.test.now) c.args.from _

pub skip_predicates-skip_predicate-requires : goal.skip_predicates-skip_predicate-requires
skip_predicates-skip_predicate-requires g t c κs within =
    let P = MayAsk c.args.tree.now.root (g.T.TextTest.meaning c.args.test.now) in
    let asked = rw (← c.as_slice-predicate-items.ensures) at c.requires in
    let one = nth-predicate P c.as_slice-predicate-items.result.now c.loop-predicate.predicate-index c.predicate-item.result c.loop-predicate-test.true asked in
    (search (rules, the_lemmas), (within, rw c.predicate-item.is one))

pub skip_predicates-loop-predicate-preserved : goal.skip_predicates-loop-predicate-preserved
skip_predicates-loop-predicate-preserved g t c =
    let root = c.args.tree.now.root in
    let m = g.T.TextTest.meaning c.args.test.now in
    let from = c.args.from in
    let items = c.as_slice-predicate-items.result.now in
    let P : ℕ → Type 0 = λ n. KeepNothing root m from n (form.predicates (map view.predicate c.args.predicates.now)) in
    let nothing = rw c.predicate-item.is at c.skip_predicate.ensures in
    let one : P c.skip_predicate.result = rw (← c.as_slice-predicate-items.ensures)
    (keep-one root m from c.skip_predicate.result items c.loop-predicate.predicate-index c.predicate-item.result c.loop-predicate-test.true nothing) in
    rw c.max-place.ensures (at-greater P c.skip_predicate.result c.loop-predicate.place one c.loop-predicate.invariant)

pub skip_predicate-skip_condition-requires : goal.skip_predicate-skip_condition-requires
unfolding OfPredicate
skip_predicate-skip_condition-requires g t c κs within = (search (rules, the_lemmas), (within, rw (c.in-Holds.is, view_holds) at c.requires))

pub skip_predicate-returns-in-Number : goal.skip_predicate-returns-in-Number
skip_predicate-returns-in-Number g t c = nothing-kept-by c.args.tree.now.root (g.T.TextTest.meaning c.args.test.now) c.args.from _

pub skip_predicate-returns-in-Holds : goal.skip_predicate-returns-in-Holds
skip_predicate-returns-in-Holds g t c =
    rw (c.in-Holds.is, view_holds) (keeps-nothing c.args.tree.now.root (g.T.TextTest.meaning c.args.test.now) c.args.from c.skip_condition.result _ c.skip_condition.ensures)

-- ---- a condition

pub skip_condition-skip_all-requires : goal.skip_condition-skip_all-requires
unfolding OfCondition
skip_condition-skip_all-requires g t c κs within = (search (rules, the_lemmas), (within, rw (c.in-Or.is, view_or) at c.requires))

pub skip_condition-skip_one-requires : goal.skip_condition-skip_one-requires
unfolding OfCondition
skip_condition-skip_one-requires g t c κs within = (search (rules, the_lemmas), (within, rw (c.in-And.is, view_and) at c.requires))

pub skip_condition-skip_steps-requires : goal.skip_condition-skip_steps-requires
unfolding OfCondition
skip_condition-skip_steps-requires g t c κs within = (search (rules, the_lemmas), (within, rw (c.in-Exists.is, view_exists) at c.requires))

pub skip_condition-skip_text-requires : goal.skip_condition-skip_text-requires
unfolding OfCondition
skip_condition-skip_text-requires g t c κs within = let all = rw (c.in-Contains.is, view_contains) at c.requires in (search (rules, the_lemmas), (within, (all.0, all.1)))

pub skip_condition-returns-in-Exists : goal.skip_condition-returns-in-Exists
skip_condition-returns-in-Exists g t c =
    rw (c.in-Exists.is, view_exists) (exists-nowhere c.args.tree.now.root (g.T.TextTest.meaning c.args.test.now) c.args.from c.skip_steps.result _ c.skip_steps.ensures)

pub skip_condition-returns-in-Contains : goal.skip_condition-returns-in-Contains
skip_condition-returns-in-Contains g t c = rw (c.in-Contains.is, view_contains) c.skip_text.ensures

-- ---- text

pub skip_text-returns-then-not-is_empty : goal.skip_text-returns-then-not-is_empty
skip_text-returns-then-not-is_empty g t c =
    contains-nowhere c.args.tree.now.root (g.T.TextTest.meaning c.args.test.now) c.args.from c.skip_steps-place.result _ _ _ c.skip_steps-place.ensures

pub skip_text-returns : goal.skip_text-returns
skip_text-returns g t c =
    let root = c.args.tree.now.root in
    let m = g.T.TextTest.meaning c.args.test.now in
    let from = c.args.from in
    let s = form.steps (map view.step c.args.steps.now) in
    let k = c.args.selection in
    let empty = c.is_empty.ensures.0 c.if-not-is_empty.false in
    let none = contains-none root m from c.skip_selection.result s k c.skip_selection.ensures in
    let nowhere = contains-nowhere root m from c.skip_steps-place.result s k form.no_paths c.skip_steps-place.ensures in
    rw (c.max.ensures, empty) (at-greater (λ n. IsFalse root m from n (form.contains s k form.no_paths)) c.skip_selection.result c.skip_steps-place.result none nowhere)

-- ---- conditions joined by `or`, by `and`

pub skip_all-skip_condition-requires : goal.skip_all-skip_condition-requires
skip_all-skip_condition-requires g t c κs within =
    let P = MayAsk c.args.tree.now.root (g.T.TextTest.meaning c.args.test.now) in
    let asked = rw (← c.as_slice-condition-items.ensures) at c.requires in
    let one = nth-condition P c.as_slice-condition-items.result.now c.loop-condition.condition-index c.condition-item.result c.loop-condition-test.true asked in
    (search (rules, the_lemmas), (within, rw c.condition-item.is one))

pub skip_all-loop-condition-preserved : goal.skip_all-loop-condition-preserved
skip_all-loop-condition-preserved g t c =
    let root = c.args.tree.now.root in
    let m = g.T.TextTest.meaning c.args.test.now in
    let from = c.args.from in
    let items = c.as_slice-condition-items.result.now in
    let i = c.loop-condition.condition-index in
    let d = c.condition-item.result in
    let a = c.skip_condition.result in
    let b = c.loop-condition.place in
    let left : min a b ≤ a = omega arith in
    let right : min a b ≤ b = omega arith in
    let Q : Condition → Type 0 = λ x. IsFalse root m from (min a b) (view.condition x) in
    let last = rw c.condition-item.is at c.skip_condition.ensures in
    rw (c.min-place.ensures, take_more items i d c.loop-condition-test.true)
    (All-push Q (take i items) (get_or items i d)
    (All-weaker (λ x. IsFalse root m from b (view.condition x)) Q (λ x h. shorter-false root m from (min a b) b (view.condition x) right h) (take i items) c.loop-condition.invariant)
    (shorter-false root m from (min a b) a (view.condition (get_or items i d)) left last))

pub skip_all-returns : goal.skip_all-returns
skip_all-returns g t c =
    let root = c.args.tree.now.root in
    let m = g.T.TextTest.meaning c.args.test.now in
    let items = c.as_slice-condition-items.result.now in
    let past : length items ≤ c.loop-condition.condition-index = omega (arith, c.loop-condition-test.false) in
    let every = rw (take_all c.loop-condition.condition-index items past) at c.loop-condition.invariant in
    rw (← c.as_slice-condition-items.ensures) (or-all root m c.args.from c.loop-condition.place items every)

pub skip_one-skip_condition-requires : goal.skip_one-skip_condition-requires
skip_one-skip_condition-requires g t c κs within =
    let P = MayAsk c.args.tree.now.root (g.T.TextTest.meaning c.args.test.now) in
    let asked = rw (← c.as_slice-condition-items.ensures) at c.requires in
    let one = nth-condition P c.as_slice-condition-items.result.now c.loop-condition.condition-index c.condition-item.result c.loop-condition-test.true asked in
    (search (rules, the_lemmas), (within, rw c.condition-item.is one))

pub skip_one-loop-condition-preserved : goal.skip_one-loop-condition-preserved
skip_one-loop-condition-preserved g t c =
    let root = c.args.tree.now.root in
    let m = g.T.TextTest.meaning c.args.test.now in
    let from = c.args.from in
    let items = c.as_slice-condition-items.result.now in
    let P : ℕ → Type 0 = λ n. IsFalse root m from n (form.and_of (form.conditions (map view.condition c.args.conditions.now))) in
    let first = rw c.condition-item.is at c.skip_condition.ensures in
    let one : P c.skip_condition.result = rw (← c.as_slice-condition-items.ensures)
    (and-one root m from c.skip_condition.result items c.loop-condition.condition-index c.condition-item.result c.loop-condition-test.true first) in
    rw c.max-place.ensures (at-greater P c.skip_condition.result c.loop-condition.place one c.loop-condition.invariant)
