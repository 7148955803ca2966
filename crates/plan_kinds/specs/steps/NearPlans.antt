-- Plans of windows and scopes over phrases that are joined by `ftor` and `ftand`, at any depth.
use Rattle.std.specs.Prelude.{Bool, true, false, ◌&&◌}
use Rattle.phrase_merges.specs.Near.{is_field}
use Rattle.plan_compiler.specs.declared.operator_plan.OperatorPlan.{OperatorPlan, Phrase, Choice', Both', MildNot', Negated', Filtered'}

-- whether a plan is nothing else
unfoldable pub is_near : OperatorPlan → Bool
is_near (Phrase found) = true
is_near (Choice' p left right) = is_near left && is_near right
is_near (Both' p left right) = is_near left && is_near right
is_near (MildNot' p left right) = false
is_near (Negated' p operand) = false
is_near (Filtered' p operand kind) = is_field kind && is_near operand
