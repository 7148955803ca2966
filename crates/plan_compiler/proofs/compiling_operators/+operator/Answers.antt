-- Each kind is compiled by its operands.
use Rattle.std.proofs.Common.{subst}
use Rattle.ft_base.specs.declared.options.Options.{Options}
use Rattle.ft_syntax.specs.View.{form}
use Rattle.ft_syntax.specs.declared.selection.Selection.{Selection}
use Rattle.plan_compiler.specs.ChosenOptions.{options_of}
use Rattle.plan_compiler.specs.CompiledOperators.{CompilesTo}
use Rattle.plan_compiler.proofs.OperatorLemmas.{and_to, each_more, each_none, filtered_to, mild_not_to, not_to, or_to, with_to}
use Rattle.plan_compiler.proofs.compiling_operators.+operator.Goals as goal

pub compile_operands-loop-part-init : goal.compile_operands-loop-part-init
compile_operands-loop-part-init t c = each_none c.args.lists.now (options_of c.args.chosen.now) c.args.next.now c.new-plans.result c.new-plans.ensures

pub compile_operands-loop-part-preserved : goal.compile_operands-loop-part-preserved
compile_operands-loop-part-preserved t c =
    each_more c.args.lists.now (options_of c.args.chosen.now) c.args.next.now c.loop-part.next c.compile_operator.new.next c.loop-part.plans c.push.new.self c.in_ok-compile_operator.field-0
    c.as_slice-part-items.result.now c.loop-part.part-index c.part-item.result c.loop-part-test.true c.part-item.is c.in_ok-push.ensures.ok c.loop-part.invariant c.in_ok-compile_operator.ensures

pub compile_operator-returns-in_ok-plan-in-Or : goal.compile_operator-returns-in_ok-plan-in-Or
compile_operator-returns-in_ok-plan-in-Or t c =
    or_to c.args.lists.now (options_of c.args.chosen.now) c.args.next.now c.compile_operands.new.next c.in_ok-plan-in-Or.plan c.args.selection.now c.in-Or.parts c.in-Or.is
    c.in_ok-operands-in-Or.operands c.in_ok-operands-in-Or.ensures c.in_ok-plan-in-Or.ensures.same c.in_ok-plan-in-Or.ensures.cost

pub compile_operator-returns-in_ok-plan-in-And : goal.compile_operator-returns-in_ok-plan-in-And
compile_operator-returns-in_ok-plan-in-And t c =
    and_to c.args.lists.now (options_of c.args.chosen.now) c.args.next.now c.compile_operands-in-And.new.next c.in_ok-plan-in-And.plan c.args.selection.now c.in-And.parts c.in-And.is
    c.in_ok-operands-in-And.operands c.in_ok-operands-in-And.ensures c.in_ok-plan-in-And.ensures.same c.in_ok-plan-in-And.ensures.cost c.in_ok-plan-in-And.ensures.words

pub compile_operator-returns-in_ok-plan-in-Ok : goal.compile_operator-returns-in_ok-plan-in-Ok
compile_operator-returns-in_ok-plan-in-Ok t c =
    let lists = c.args.lists.now in
    let options = options_of c.args.chosen.now in
    let middle = c.compile_operator.new.next in
    let next = c.compile_operator-in-MildNot.new.next in
    mild_not_to lists options c.args.next.now next c.in_ok-plan-in-Ok.plan c.args.selection.now c.in-MildNot.left c.in-MildNot.right c.in-MildNot.is middle c.in_ok-left-in-MildNot.left c.in-Ok.right
    (subst (λ (s : Selection). CompilesTo lists options c.args.next.now middle c.in_ok-left-in-MildNot.left (form s)) c.deref.ensures c.in_ok-left-in-MildNot.ensures)
    (subst (λ (s : Selection). CompilesTo lists options middle next c.in-Ok.right (form s)) c.deref-in-MildNot.ensures c.in-Ok.ensures)
    c.in_ok-plan-in-Ok.ensures.same c.in_ok-plan-in-Ok.ensures.cost

pub compile_operator-returns-in_ok-plan-in-Not : goal.compile_operator-returns-in_ok-plan-in-Not
compile_operator-returns-in_ok-plan-in-Not t c =
    let lists = c.args.lists.now in
    let options = options_of c.args.chosen.now in
    let next = c.compile_operator-in-Not.new.next in
    not_to lists options c.args.next.now next c.in_ok-plan-in-Not.plan c.args.selection.now c.in-Not.operand c.in-Not.is c.in_ok-operand-in-Not.operand
    (subst (λ (s : Selection). CompilesTo lists options c.args.next.now next c.in_ok-operand-in-Not.operand (form s)) c.deref-in-Not.ensures c.in_ok-operand-in-Not.ensures)
    c.in_ok-plan-in-Not.ensures.same c.in_ok-plan-in-Not.ensures.cost

pub compile_operator-returns-in_ok-plan-in-Filtered : goal.compile_operator-returns-in_ok-plan-in-Filtered
compile_operator-returns-in_ok-plan-in-Filtered t c =
    let lists = c.args.lists.now in
    let options = options_of c.args.chosen.now in
    let next = c.compile_operator-in-Filtered.new.next in
    filtered_to lists options c.args.next.now next c.in_ok-plan-in-Filtered.plan c.args.selection.now c.in-Filtered.operand c.in-Filtered.filter c.in-Filtered.is c.in_ok-operand-in-Filtered.operand
    (subst (λ (s : Selection). CompilesTo lists options c.args.next.now next c.in_ok-operand-in-Filtered.operand (form s)) c.deref-in-Filtered.ensures c.in_ok-operand-in-Filtered.ensures)
    c.in_ok-plan-in-Filtered.ensures.same c.in_ok-plan-in-Filtered.ensures.cost c.in_ok-plan-in-Filtered.ensures.cheap

pub compile_operator-returns-in_ok-plan-in-With : goal.compile_operator-returns-in_ok-plan-in-With
compile_operator-returns-in_ok-plan-in-With t c =
    let lists = c.args.lists.now in
    let first = c.args.next.now in
    let next = c.compile_operator-in-With.new.next in
    let plan = c.in_ok-plan-in-With.plan in
    with_to lists (options_of c.args.chosen.now) first next plan c.args.selection.now c.in-With.operand c.in-With.options c.in-With.is
    (subst (λ (o : Options). CompilesTo lists o first next plan (form c.in-With.operand.value)) c.inside-inner.ensures
    (subst (λ (s : Selection). CompilesTo lists (options_of c.inside-inner.result) first next plan (form s)) c.deref-in-With.ensures c.in_ok-plan-in-With.ensures))
