-- What is reached, with what is left of the level, is all.
use Rattle.std.proofs.Common.{◌≡◌, ◌++◌}
use Rattle.thesaurus_file.proofs.thesaurus.push_level.Given as goal

abbrev pub invariant-loop-phrase : goal.invariant-loop-phrase
invariant-loop-phrase l = l.reached.items ++ l.phrase-iterator ≡ l.fn.reached.items ++ l.fn.level.keys
