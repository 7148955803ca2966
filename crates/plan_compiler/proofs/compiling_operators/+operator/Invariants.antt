-- The first operands were compiled.
use Rattle.std.proofs.Common.{take}
use Rattle.plan_compiler.specs.ChosenOptions.{options_of}
use Rattle.plan_compiler.specs.CompiledOperators.{EachCompilesTo}
use Rattle.plan_compiler.proofs.compiling_operators.+operator.Given as goal

abbrev pub invariant-compile_operands-loop-part : goal.invariant-compile_operands-loop-part
invariant-compile_operands-loop-part l = EachCompilesTo l.lists (options_of l.chosen) l.fn.next l.next l.plans (take l.part-index l.part-items)
