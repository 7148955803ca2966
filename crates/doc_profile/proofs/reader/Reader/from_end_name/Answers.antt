-- A character of an end tag, in its name and after it.
use Rattle.std.proofs.Common.{sym, subst, ◌∙◌, ap, drop, ◌+◌, arith}
use Rattle.std.specs.Prelude.{nat_eq, encode_utf8}
use Rattle.std.specs.List.{starts_with}
use Rattle.doc_grammar.specs.steps.Machine as m
use Rattle.doc_profile.specs.steps.View.{Goes, name_of, place_of, state_of}
use Rattle.doc_profile.proofs.Readers.{end_name_over, end_name_further, end_name_differs}
use Rattle.doc_profile.proofs.reader.Reader.from_end_name.Goals as goal

pub returns-then-read-len : goal.returns-then-read-len
returns-then-read-len c =
    subst (λ z. Goes c.from_end_spaced.result z (state_of c.from_end_spaced.new.self)) (sym (end_name_over (place_of c.args.self.now) (name_of c.args.self.now) c.args.read c.args.c (omega arith))) c.from_end_spaced.ensures

pub returns-then-stands_at : goal.returns-then-stands_at
returns-then-stands_at c =
    end_name_further (place_of c.args.self.now) (name_of c.args.self.now) c.args.read c.args.c (omega arith) (ap (λ z. starts_with nat_eq (drop c.args.read z) (encode_utf8 c.args.c)) (sym c.as_bytes.ensures.value) ∙ sym c.stands_at.ensures ∙ c.if-stands_at.true)
    ∙ ap (λ n. m.at (place_of c.args.self.now) (m.end_name (drop (c.args.read + n) (name_of c.args.self.now)))) (sym c.len_utf8.ensures.value)

pub returns-else-stands_at : goal.returns-else-stands_at
returns-else-stands_at c =
    end_name_differs (place_of c.args.self.now) (name_of c.args.self.now) c.args.read c.args.c (omega arith) (ap (λ z. starts_with nat_eq (drop c.args.read z) (encode_utf8 c.args.c)) (sym c.as_bytes.ensures.value) ∙ sym c.stands_at.ensures ∙ c.if-stands_at.false)
