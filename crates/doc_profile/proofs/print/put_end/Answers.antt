-- Each piece of the tag is written.
use Rattle.std.proofs.Common.{codes, refl, string_bytes}
use Rattle.doc_profile.proofs.Printing.{put_none, put_char, put_word, put_name}
use Rattle.doc_profile.proofs.print.put_end.Goals as goal

pub returns : goal.returns
returns c =
    let slash = put_word (string_bytes c.push_str.new.self) (codes "</") refl (put_none (string_bytes c.args.out.now)) c.in_ok-push_str.ensures.bytes in
    let name = put_name (string_bytes c.push_str-2.new.self) c.args.name.now c.utf8.name slash c.in_ok-push_str-2.ensures.bytes in
    (put_char (string_bytes c.push.new.self) 62 name c.in_ok-push.ensures.bytes).is
