-- What a compiled selection says of a text, by what is looked at of its words.
use Rattle.std.specs.Prelude.{Bool, not}
use Rattle.std.specs.List.{list_any, list_all}
use Rattle.plan_compiler.specs.CountedPlans.{counted_truth}
use Rattle.plan_compiler.specs.declared.node.Node.{Node, fold-Node}
use Rattle.plan_compiler.specs.declared.node.Node.TheOpen.{Node-F}
use Rattle.plan_compiler.specs.Operators.{LookedText, operator_at, satisfied_over}
use Rattle.plan_compiler.specs.TextWords.{words_of_tokens}
use Rattle.plan_compiler.specs.WordsMeaning.{words_truth}

-- one level, where what each part says is known
abbrev pub layer : Node-F (LookedText → Bool) → LookedText → Bool
layer (Node-F.Words plan) text = words_truth plan (words_of_tokens text.looks text.stems text.tokens)
layer (Node-F.Or parts) text = list_any (λ part. part text) parts
layer (Node-F.And parts) text = list_all (λ part. part text) parts
layer (Node-F.Not part) text = not (part.value text)
layer (Node-F.Ways plan) text = satisfied_over text.tokens (operator_at text plan.operator)
layer (Node-F.Counted plan) text = counted_truth plan text

unfoldable pub truth : Node → LookedText → Bool
truth = fold-Node (LookedText → Bool) layer
