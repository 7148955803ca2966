-- A character of what is left is written.
use Rattle.std.proofs.Common.{◌++◌, sym, ◌∙◌, ap, subst, string_bytes}
use Rattle.std.specs.Prelude.{encode_utf8_all}
use Rattle.doc_grammar.specs.Printed.{escaped_in_text, printed_text}
use Rattle.doc_profile.proofs.Printing.{Escapes, escapes_all, escapes_further, escapes_end}
use Rattle.doc_profile.proofs.print.put_text.Goals as goal

pub loop-c-init : goal.loop-c-init
loop-c-init c =
    let rest = ap (λ z. z.rest.now) c.into_iter-c-iterator.ensures.into_iter_gives ∙ c.chars-c-items.ensures.rest in
    subst (λ z. Escapes escaped_in_text (string_bytes c.args.out.now) z (string_bytes c.args.out.now ++ encode_utf8_all (printed_text c.args.text.now))) (sym rest)
    (escapes_all escaped_in_text (string_bytes c.args.out.now) c.args.text.now c.utf8.text)

pub loop-c-preserved : goal.loop-c-preserved
loop-c-preserved c =
    escapes_further escaped_in_text (string_bytes c.loop-c.out) (string_bytes c.put_text_char.new.out) c.loop-c.c-iterator.rest.now c.next.new.self.rest.now (string_bytes c.args.out.now ++ encode_utf8_all (printed_text c.args.text.now)) c.in-Some.c
    c.loop-c.invariant c.in-Some.ensures.steps.0 c.in_ok-put_text_char.ensures

pub returns : goal.returns
returns c = escapes_end escaped_in_text (string_bytes c.loop-c.out) c.loop-c.c-iterator.rest.now (string_bytes c.args.out.now ++ encode_utf8_all (printed_text c.args.text.now)) c.loop-c.invariant c.in-None.ensures.steps.0.0
