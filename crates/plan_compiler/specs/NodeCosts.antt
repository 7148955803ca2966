-- What the tests of a compiled selection cost together, whatever each of them costs.
use Rattle.std.specs.Prelude.{ℕ, ◌+◌, sum}
use Rattle.std.specs.List.{sum_by}
use Rattle.plan_compiler.specs.CountedPlans.{counted_cost}
use Rattle.plan_compiler.specs.declared.item_matching.ItemTest.{ItemTest}
use Rattle.plan_compiler.specs.declared.node.Node.{Node, fold-Node}
use Rattle.plan_compiler.specs.declared.node.Node.TheOpen.{Node-F}
use Rattle.plan_compiler.specs.declared.operator_plan.OperatorPlan.{OperatorPlan, Phrase, Choice', Both', MildNot', Negated', Filtered'}
use Rattle.plan_compiler.specs.declared.phrase_plan.PhrasePlan.{PhrasePlan}
use Rattle.plan_compiler.specs.declared.words_plan.WordsPlan.{WordsPlan}

module _ (cost : ItemTest → ℕ) where
  abbrev pub phrase_cost : PhrasePlan → ℕ
  phrase_cost plan = sum_by (sum_by (sum_by cost)) plan.groups

  abbrev pub words_cost : WordsPlan → ℕ
  words_cost plan = sum_by phrase_cost plan.phrases

  -- of a selection with filters or `not in`: of its phrases, whatever operators stand round them
  unfoldable pub operator_cost : OperatorPlan → ℕ
  operator_cost (Phrase found) = sum_by (sum_by cost) found.variants
  operator_cost (Choice' p left right) = operator_cost left + operator_cost right
  operator_cost (Both' p left right) = operator_cost left + operator_cost right
  operator_cost (MildNot' p left right) = operator_cost left + operator_cost right
  operator_cost (Negated' p operand) = operator_cost operand
  operator_cost (Filtered' p operand kind) = operator_cost operand

  -- one level, with the cost of each part
  abbrev pub layer : Node-F ℕ → ℕ
  layer (Node-F.Words plan) = words_cost plan
  layer (Node-F.Or parts) = sum parts
  layer (Node-F.And parts) = sum parts
  layer (Node-F.Not part) = part.value
  layer (Node-F.Ways plan) = operator_cost plan.operator
  layer (Node-F.Counted plan) = counted_cost cost plan

  unfoldable pub node_cost : Node → ℕ
  node_cost = fold-Node ℕ layer
