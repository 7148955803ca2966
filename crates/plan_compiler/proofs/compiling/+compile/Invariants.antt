-- The first parts were compiled.
use Rattle.std.proofs.Common.{take}
use Rattle.plan_compiler.specs.ChosenOptions.{options_of}
use Rattle.plan_compiler.specs.CompiledSelection.{CompileAll}
use Rattle.plan_compiler.proofs.compiling.+compile.Given as goal

abbrev pub invariant-compile_all-loop-part : goal.invariant-compile_all-loop-part
invariant-compile_all-loop-part l = CompileAll l.looks l.lists (options_of l.chosen) l.nodes (take l.part-index l.part-items)
