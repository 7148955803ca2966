-- Words are compiled under the options that hold for them.
use Rattle.std.proofs.Common.{subst}
use Rattle.std.proofs.lemmas.Result.{IfOk-weaker}
use Rattle.ft_base.specs.Selection.{words}
use Rattle.ft_base.specs.declared.options.Options.{Options}
use Rattle.plan_compiler.specs.ChosenOptions.{options_of}
use Rattle.plan_compiler.specs.CompiledOperators.{CompilesTo, ValueCompilesTo}
use Rattle.plan_compiler.specs.declared.operator_plan.OperatorPlan.{OperatorPlan}
use Rattle.plan_compiler.proofs.OperatorLemmas.{words_to}
use Rattle.plan_compiler.proofs.compiling_operators.words_operator.Goals as goal

pub returns : goal.returns
returns c =
    let lists = c.args.lists.now in
    let first = c.args.next.now in
    let next = c.value_operator.new.next in
    IfOk-weaker c.value_operator.result (λ (plan : OperatorPlan). ValueCompilesTo lists (options_of c.inside-chosen.result) first next plan c.args.value.now)
    (λ (plan : OperatorPlan). CompilesTo lists (options_of c.args.chosen.now) first next plan (words c.args.value.now))
    (λ plan one.
    words_to lists (options_of c.args.chosen.now) first next plan c.args.value.now
    (subst (λ (options : Options). ValueCompilesTo lists options first next plan c.args.value.now) c.inside-chosen.ensures one))
    c.value_operator.ensures
