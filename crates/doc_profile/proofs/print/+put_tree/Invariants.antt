-- What is written and what is left make the whole.
use Rattle.std.proofs.Common.{◌≡◌, ◌++◌, drop, string_bytes}
use Rattle.std.specs.Prelude.{encode_utf8_all}
use Rattle.std.specs.List.{flat_map}
use Rattle.plain_tree.specs.View.{node}
use Rattle.doc_grammar.specs.Printed.{printed}
use Rattle.doc_profile.proofs.print.+put_tree.Given as goal

abbrev pub invariant-put_kids-loop-kid : goal.invariant-put_kids-loop-kid
invariant-put_kids-loop-kid l = string_bytes l.out ++ encode_utf8_all (flat_map (λ t. printed (node t)) (drop l.kid-index l.kids)) ≡ string_bytes l.initial.out ++ encode_utf8_all (flat_map (λ t. printed (node t)) l.kids)
