-- The first phrases were compiled.
use Rattle.std.proofs.Common.{map, take}
use Rattle.match_options.specs.Items.{item}
use Rattle.plan_compiler.specs.CompiledOperators.{PhrasesCompileTo}
use Rattle.plan_compiler.specs.declared.operator_plan.OperatorPlan as O
use Rattle.plan_compiler.proofs.compiling_counts.numbered_phrases.Given as goal

abbrev pub invariant-loop-phrase : goal.invariant-loop-phrase
invariant-loop-phrase l = PhrasesCompileTo l.reading l.fn.next l.next (map O.Phrase l.found) (map (map item) (take l.phrase-index l.phrases))
