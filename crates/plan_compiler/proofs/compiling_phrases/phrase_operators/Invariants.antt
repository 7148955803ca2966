-- The first phrases were compiled.
use Rattle.std.proofs.Common.{map, take}
use Rattle.match_options.specs.Items.{item}
use Rattle.plan_compiler.specs.CompiledOperators.{PhrasesCompileTo}
use Rattle.plan_compiler.proofs.compiling_phrases.phrase_operators.Given as goal

abbrev pub invariant-loop-phrase : goal.invariant-loop-phrase
invariant-loop-phrase l = PhrasesCompileTo l.reading l.fn.next l.next l.plans (map (map item) (take l.phrase-index l.phrases))
