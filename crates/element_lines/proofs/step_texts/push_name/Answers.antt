-- A letter of what is left was written.
use Rattle.std.proofs.Common.{◌++◌, string_bytes}
use Rattle.std.specs.Prelude.{flat_map, encode_utf8}
use Rattle.element_lines.specs.Lines.{name_byte}
use Rattle.element_lines.proofs.NameLemmas.{one_more_letter}
use Rattle.element_lines.proofs.step_texts.push_name.Goals as goal

pub loop-letter-preserved : goal.loop-letter-preserved
loop-letter-preserved c =
    one_more_letter (string_bytes c.loop-letter.text) (string_bytes c.push_letter.new.text) (string_bytes c.args.text.now ++ flat_map name_byte c.args.document.now)
    (encode_utf8 c.in-Some.letter) c.loop-letter.letter-iterator.rest.now c.next.new.self.rest.now
    c.loop-letter.invariant c.in-Some.ensures.steps.0 c.in_ok-push_letter.ensures
