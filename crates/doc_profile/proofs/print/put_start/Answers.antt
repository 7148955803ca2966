-- The next attribute is written.
use Rattle.std.proofs.Common.{◌++◌, codes, refl, string_bytes}
use Rattle.std.specs.Prelude.{encode_utf8_all}
use Rattle.std.specs.Str.{chars}
use Rattle.doc_grammar.specs.Printed.{printed_attribute, printed_attributes}
use Rattle.doc_profile.proofs.Printing.{put_none, put_more, put_char, put_name, next_written}
use Rattle.doc_profile.proofs.print.put_start.Goals as goal

pub loop-attr-init : goal.loop-attr-init
loop-attr-init c =
    let less = put_char (string_bytes c.push.new.self) 60 (put_none (string_bytes c.args.out.now)) c.in_ok-push.ensures.bytes in
    let name = put_name (string_bytes c.push_str.new.self) c.args.name.now c.utf8.name less c.in_ok-push_str.ensures.bytes in
    (put_more _ (printed_attributes c.args.attrs.now) name refl).is

pub loop-attr-preserved : goal.loop-attr-preserved
loop-attr-preserved c =
    next_written printed_attribute c.args.attrs.now c.loop-attr.attr-index c.attr-item.result (string_bytes c.loop-attr.out) (string_bytes c.put_attribute.new.out)
    (string_bytes c.args.out.now ++ encode_utf8_all ((codes "<" ++ chars c.args.name.now) ++ printed_attributes c.args.attrs.now)) c.loop-attr-test.true c.attr-item.is c.loop-attr.invariant c.in_ok-put_attribute.ensures
