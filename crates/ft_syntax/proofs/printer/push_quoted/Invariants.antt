-- What is written and what is left make the whole string.
use Rattle.std.proofs.Common.{◌≡◌, ◌++◌, string_bytes}
use Rattle.std.specs.Prelude.{flat_map}
use Rattle.ft_syntax.specs.OptionSymbols.{in_quotes}
use Rattle.ft_syntax.proofs.printer.push_quoted.Given as goal

abbrev pub invariant-loop-letter : goal.invariant-loop-letter
invariant-loop-letter l = string_bytes l.out ++ flat_map in_quotes l.letter-iterator.rest.now ≡ string_bytes l.initial.out ++ flat_map in_quotes l.text
