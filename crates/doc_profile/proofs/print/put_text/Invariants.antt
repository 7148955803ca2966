-- What is written and what is left make the whole.
use Rattle.std.proofs.Common.{◌++◌, string_bytes}
use Rattle.std.specs.Prelude.{encode_utf8_all}
use Rattle.doc_grammar.specs.Printed.{escaped_in_text, printed_text}
use Rattle.doc_profile.proofs.Printing.{Escapes}
use Rattle.doc_profile.proofs.print.put_text.Given as goal

abbrev pub invariant-loop-c : goal.invariant-loop-c
invariant-loop-c l = Escapes escaped_in_text (string_bytes l.out) l.c-iterator.rest.now (string_bytes l.initial.out ++ encode_utf8_all (printed_text l.text))
