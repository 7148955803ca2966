-- What is written and what is left make the whole.
use Rattle.std.proofs.Common.{◌≡◌, ◌++◌, codes, drop, string_bytes}
use Rattle.std.specs.Prelude.{encode_utf8_all}
use Rattle.std.specs.Str.{chars}
use Rattle.doc_grammar.specs.Printed.{printed_attributes}
use Rattle.doc_profile.proofs.print.put_start.Given as goal

abbrev pub invariant-loop-attr : goal.invariant-loop-attr
invariant-loop-attr l = string_bytes l.out ++ encode_utf8_all (printed_attributes (drop l.attr-index l.attrs)) ≡ string_bytes l.fn.out ++ encode_utf8_all ((codes "<" ++ chars l.name) ++ printed_attributes l.attrs)
