-- The first parts were compiled.
use Rattle.std.proofs.Common.{take}
use Rattle.plan_compiler.specs.ChosenOptions.{options_of}
use Rattle.plan_compiler.specs.CompiledShown.{ShowAll, ShowParts}
use Rattle.plan_compiler.proofs.compiling_shown.+show.Given as goal

abbrev pub invariant-shown_nodes-loop-part : goal.invariant-shown_nodes-loop-part
invariant-shown_nodes-loop-part l = ShowAll l.looks l.lists (options_of l.chosen) l.nodes (take l.part-index l.part-items)

abbrev pub invariant-shown_parts-loop-part : goal.invariant-shown_parts-loop-part
invariant-shown_parts-loop-part l = ShowParts l.looks l.lists (options_of l.chosen) l.shown (take l.part-index l.part-items)
