-- Each kind is opened by its parts.
use Rattle.std.proofs.Common.{IfOk, subst, sym}
use Rattle.plan_compiler.specs.declared.shown_plan.ShownNode.{ShownNode}
use Rattle.match_marks.specs.declared.shown.Shown.{Shown}
use Rattle.match_marks.specs.steps.ShownRuns.{IsShown, showing}
use Rattle.match_marks.proofs.OpeningLemmas.{choice_opened, each_opened, nothing_opened, part_opened, parts_more, shown_more}
use Rattle.match_marks.proofs.opening.+open.Goals as goal

pub open_each-loop-node-preserved : goal.open_each-loop-node-preserved
open_each-loop-node-preserved t c =
    shown_more c.args.opening.now.looks c.args.opening.now.lists.now.stems c.args.opening.now.version.now c.loop-node.runs.items c.push.new.self.items c.in_ok-open_shown.field-0
    c.as_slice-node-items.result.now c.loop-node.node-index c.node-item.result c.loop-node-test.true c.node-item.is c.in_ok-push.ensures.items c.in_ok-open_shown.ensures c.loop-node.invariant

pub open_parts-loop-part-preserved : goal.open_parts-loop-part-preserved
open_parts-loop-part-preserved t c =
    parts_more c.args.opening.now.looks c.args.opening.now.lists.now.stems c.args.opening.now.version.now c.loop-part.runs.items c.push.new.self.items c.in_ok-open_part.field-0
    c.as_slice-part-items.result.now c.loop-part.part-index c.part-item.result c.loop-part-test.true c.part-item.is c.in_ok-push.ensures.items c.in_ok-open_part.ensures c.loop-part.invariant

pub open_shown-returns-in-First : goal.open_shown-returns-in-First
open_shown-returns-in-First t c =
    let opening = c.args.opening.now in
    subst (λ (node : ShownNode). IfOk c.open_first.result (λ (run : Shown). IsShown opening.looks opening.lists.now.stems opening.version.now (showing run) node))
    (sym c.in-First.is) c.open_first.ensures

pub open_shown-returns-in-Least : goal.open_shown-returns-in-Least
open_shown-returns-in-Least t c =
    let opening = c.args.opening.now in
    subst (λ (node : ShownNode). IfOk c.open_least.result (λ (run : Shown). IsShown opening.looks opening.lists.now.stems opening.version.now (showing run) node))
    (sym c.in-Least.is) c.open_least.ensures

pub open_shown-returns-in_ok-open_parts-in-Or : goal.open_shown-returns-in_ok-open_parts-in-Or
open_shown-returns-in_ok-open_parts-in-Or t c =
    choice_opened c.args.opening.now.looks c.args.opening.now.lists.now.stems c.args.opening.now.version.now c.in_ok-open_parts-in-Or.field-0 c.in-Or.parts c.args.node.now c.in-Or.is c.in_ok-open_parts-in-Or.ensures

pub open_shown-returns-in_ok-open_each-in-And : goal.open_shown-returns-in_ok-open_each-in-And
open_shown-returns-in_ok-open_each-in-And t c =
    each_opened c.args.opening.now.looks c.args.opening.now.lists.now.stems c.args.opening.now.version.now c.in_ok-open_each-in-And.field-0 c.in-And.nodes c.args.node.now c.in-And.is c.in_ok-open_each-in-And.ensures

pub open_shown-returns-in-Nothing : goal.open_shown-returns-in-Nothing
open_shown-returns-in-Nothing t c = nothing_opened c.args.opening.now.looks c.args.opening.now.lists.now.stems c.args.opening.now.version.now c.args.node.now c.in-Nothing.is
