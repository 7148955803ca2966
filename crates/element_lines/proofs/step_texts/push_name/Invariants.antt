-- What is written and what is left make the whole string.
use Rattle.std.proofs.Common.{◌≡◌, ◌++◌, string_bytes}
use Rattle.std.specs.Prelude.{flat_map}
use Rattle.element_lines.specs.Lines.{name_byte}
use Rattle.element_lines.proofs.step_texts.push_name.Given as goal

abbrev pub invariant-loop-letter : goal.invariant-loop-letter
invariant-loop-letter l = string_bytes l.text ++ flat_map name_byte l.letter-iterator.rest.now ≡ string_bytes l.initial.text ++ flat_map name_byte l.document
