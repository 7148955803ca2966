-- After the mark.
use Rattle.std.proofs.Common.{◌≡◌, ◌++◌, ℕ, length, sym, ◌∙◌, ap, arith}
use Rattle.std.specs.Prelude.{encode_utf8}
use Rattle.std.specs.Str.{chars}
use Rattle.std.specs.Str.Iter.{chars_rest}
use Rattle.std.proofs.lemmas.List.{length-append}
use Rattle.std.proofs.lemmas.Str.{chars_past_char, length-encode}
use Rattle.doc_grammar.specs.Texts.{without_mark}
use Rattle.doc_profile.proofs.read.after_mark.Goals as goal

pub returns-in-Some-eq65279-clause-rest : goal.returns-in-Some-eq65279-clause-rest
returns-in-Some-eq65279-clause-rest c =
    let whole : c.args.text.now ≡ encode_utf8 65279 ++ chars_rest c.next.new.self = sym c.chars-walk.ensures.rest ∙ c.in-Some-eq65279.ensures.steps.0 ∙ ap (λ (x : ℕ). encode_utf8 x ++ chars_rest c.next.new.self) c.in-Some-eq65279.field-0-test in
    ap chars c.as_str.ensures ∙ sym (ap without_mark (chars_past_char c.args.text.now (chars_rest c.next.new.self) 65279 c.utf8.text whole))

pub returns-in-Some-eq65279-clause-room : goal.returns-in-Some-eq65279-clause-room
returns-in-Some-eq65279-clause-room c =
    let whole : c.args.text.now ≡ encode_utf8 65279 ++ chars_rest c.next.new.self = sym c.chars-walk.ensures.rest ∙ c.in-Some-eq65279.ensures.steps.0 ∙ ap (λ (x : ℕ). encode_utf8 x ++ chars_rest c.next.new.self) c.in-Some-eq65279.field-0-test in
    omega (arith, ap length whole, length-append (encode_utf8 65279) (chars_rest c.next.new.self), length-encode 65279, ap length c.as_str.ensures)
