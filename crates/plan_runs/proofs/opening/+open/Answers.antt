-- Each kind is opened by its parts.
use Rattle.std.proofs.Common.{IfOk, subst, sym}
use Rattle.plan_compiler.specs.declared.node.Node.{Node}
use Rattle.plan_runs.specs.declared.run_node.RunNode.{RunNode}
use Rattle.plan_runs.specs.steps.OpenedWords.{IsOpened}
use Rattle.plan_runs.specs.steps.RunShapes.{shape}
use Rattle.plan_runs.proofs.OpenedCounts.{counts_opened}
use Rattle.plan_runs.proofs.OpenedLemmas.{and_opened, not_opened, opened_more, or_opened, words_opened}
use Rattle.plan_runs.proofs.opening.+open.Goals as goal

pub open_all-loop-part-preserved : goal.open_all-loop-part-preserved
open_all-loop-part-preserved t c =
    opened_more c.args.opening.now.looks c.args.opening.now.lists.now.stems c.args.opening.now.version.now c.loop-part.runs.items c.push.new.self.items c.in_ok-open_node.field-0
    c.as_slice-part-items.result.now c.loop-part.part-index c.part-item.result c.loop-part-test.true c.part-item.is c.in_ok-push.ensures.items c.in_ok-open_node.ensures c.loop-part.invariant

pub open_node-returns-in_ok-open_words-in-Words : goal.open_node-returns-in_ok-open_words-in-Words
open_node-returns-in_ok-open_words-in-Words t c =
    words_opened c.args.opening.now.looks c.args.opening.now.lists.now.stems c.args.opening.now.version.now c.in_ok-open_words-in-Words.field-0 c.in-Words.plan c.args.node.now c.in-Words.is c.in_ok-open_words-in-Words.ensures

pub open_node-returns-in_ok-open_all-in-Or : goal.open_node-returns-in_ok-open_all-in-Or
open_node-returns-in_ok-open_all-in-Or t c =
    or_opened c.args.opening.now.looks c.args.opening.now.lists.now.stems c.args.opening.now.version.now c.in_ok-open_all-in-Or.field-0 c.in-Or.parts c.args.node.now c.in-Or.is c.in_ok-open_all-in-Or.ensures

pub open_node-returns-in_ok-open_all-in-And : goal.open_node-returns-in_ok-open_all-in-And
open_node-returns-in_ok-open_all-in-And t c =
    and_opened c.args.opening.now.looks c.args.opening.now.lists.now.stems c.args.opening.now.version.now c.in_ok-open_all-in-And.field-0 c.in-And.parts c.args.node.now c.in-And.is c.in_ok-open_all-in-And.ensures

pub open_node-returns-in_ok-open_boxed-in-Not : goal.open_node-returns-in_ok-open_boxed-in-Not
open_node-returns-in_ok-open_boxed-in-Not t c =
    not_opened c.args.opening.now.looks c.args.opening.now.lists.now.stems c.args.opening.now.version.now c.in_ok-open_boxed-in-Not.field-0 c.in-Not.part c.args.node.now c.in-Not.is c.in_ok-open_boxed-in-Not.ensures

pub open_node-returns-in-Ways : goal.open_node-returns-in-Ways
open_node-returns-in-Ways t c =
    let opening = c.args.opening.now in
    subst (λ (node : Node). IfOk c.open_filtered.result (λ (run : RunNode). IsOpened opening.looks opening.lists.now.stems opening.version.now (shape run) node))
    (sym c.in-Ways.is) c.open_filtered.ensures

pub open_node-returns-in_ok-open_counts-in-Counted : goal.open_node-returns-in_ok-open_counts-in-Counted
open_node-returns-in_ok-open_counts-in-Counted t c =
    counts_opened c.args.opening.now.looks c.args.opening.now.lists.now.stems c.args.opening.now.version.now c.in_ok-open_counts-in-Counted.field-0 c.in-Counted.plan c.args.node.now c.in-Counted.is c.in_ok-open_counts-in-Counted.ensures
