-- The texts so far.
use Rattle.std.proofs.Common.{◌≡◌}
use Rattle.selection_grammar.specs.Grammar.{texts_of}
use Rattle.selection_faults.proofs.given.texts_of.Given as goal

abbrev pub invariant-loop-string : goal.invariant-loop-string
invariant-loop-string l = l.texts ≡ texts_of l.yielded
