-- Each piece of the attribute is written.
use Rattle.std.proofs.Common.{◌≡◌, ◌++◌, List, ℕ, codes, refl, ◌∙◌, ap, subst, append_assoc, string_bytes}
use Rattle.std.specs.Prelude.{encode_utf8_all}
use Rattle.std.specs.Str.{chars, IsUtf8}
use Rattle.doc_grammar.specs.Printed.{printed_attribute, printed_value}
use Rattle.doc_profile.proofs.Printing.{put_none, put_more, put_char, put_word, put_name, put_as}
use Rattle.doc_profile.proofs.print.put_attribute.Goals as goal

-- the pieces as the printed attribute groups them
grouped : (name value : List ℕ) → ((((codes " " ++ name) ++ codes "=\"") ++ value) ++ codes "\"") ≡ ((codes " " ++ name) ++ codes "=\"") ++ value ++ codes "\""
grouped name value = simp append_assoc refl

pub returns : goal.returns
returns c =
    let space = put_char (string_bytes c.push.new.self) 32 (put_none (string_bytes c.args.out.now)) c.in_ok-push.ensures.bytes in
    let name = put_name (string_bytes c.push_str.new.self) c.args.attr.now.name (subst IsUtf8 c.as_str.ensures c.as_str.utf8) space (c.in_ok-push_str.ensures.bytes ∙ ap (λ z. string_bytes c.push.new.self ++ z) c.as_str.ensures) in
    let equals = put_word (string_bytes c.push_str-2.new.self) (codes "=\"") refl name c.in_ok-push_str-2.ensures.bytes in
    let value = put_more (string_bytes c.put_value.new.out) (printed_value c.args.attr.now.value) equals (c.in_ok-put_value.ensures ∙ ap (λ z. string_bytes c.push_str-2.new.self ++ encode_utf8_all (printed_value z)) c.as_str-2.ensures) in
    put_as (printed_attribute c.args.attr.now) (put_char (string_bytes c.push-2.new.self) 34 value c.in_ok-push-2.ensures.bytes) (grouped (chars c.args.attr.now.name) (printed_value c.args.attr.now.value))
