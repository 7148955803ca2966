-- The first phrases are empty.
use Rattle.std.proofs.Common.{◌≡◌, drop}
use Rattle.std.specs.List.{list_all}
use Rattle.ft_base.specs.Lists.{is_empty}
use Rattle.plan_compiler.proofs.compiling_phrases.all_empty.Given as goal

abbrev pub invariant-loop-phrase : goal.invariant-loop-phrase
invariant-loop-phrase l = list_all is_empty (drop l.phrase-index l.phrases) ≡ list_all is_empty l.phrases
