-- Opened walks are what their compiled operators are.
use Rattle.std.proofs.Common.{List}
use Rattle.index_meaning.specs.Documents.{Numbered}
use Rattle.word_lists.specs.Stems.{Stem}
use Rattle.plan_compiler.specs.declared.looks.Looks.{Looks}
use Rattle.plan_compiler.specs.declared.operator_plan.OperatorPlan.{OperatorPlan}
use Rattle.plan_runs.specs.OpenedParts.{IsWalk}
use Rattle.plan_runs.specs.steps.OpenedOperators.{opened_aims}
use Rattle.plan_runs.proofs.OpenedWays.{aims_law, may_law, own_text}

pub opened_is_walk : (looks : Looks) (stems : List Stem) (version : List Numbered) (plan : OperatorPlan) → IsWalk looks stems version (opened_aims looks stems version plan) plan
opened_is_walk looks stems version plan = record {
  may = λ asked there. may_law looks stems version asked.doc asked.span there.there plan;
  operators = λ asked there. aims_law looks stems version asked there plan;
  item = λ asked there. own_text looks stems version asked there;
}
