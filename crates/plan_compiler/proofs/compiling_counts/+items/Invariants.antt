-- The items of the first operands were compiled.
use Rattle.std.proofs.Common.{take}
use Rattle.plan_compiler.specs.ChosenOptions.{options_of}
use Rattle.plan_compiler.specs.CompiledCounts.{EachItemCompilesTo}
use Rattle.plan_compiler.proofs.compiling_counts.+items.Given as goal

abbrev pub invariant-push_parts-loop-part : goal.invariant-push_parts-loop-part
invariant-push_parts-loop-part l = EachItemCompilesTo l.lists (options_of l.chosen) l.fn.items l.items (take l.part-index l.part-items)
