-- The texts so far are those of the first strings.
use Rattle.std.proofs.Common.{◌≡◌, ◌++◌, drop}
use Rattle.selection_grammar.specs.Grammar.{texts_of}
use Rattle.ft_parser.proofs.stop_turns.texts.Given as goal

abbrev pub invariant-loop-string : goal.invariant-loop-string
invariant-loop-string l = l.texts ++ texts_of (drop l.string-index l.string-items) ≡ texts_of l.string-items
