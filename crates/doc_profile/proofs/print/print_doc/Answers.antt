-- The line is read back.
use Rattle.std.proofs.Common.{◌∙◌, ap}
use Rattle.std.specs.Prelude.{encode_utf8_all}
use Rattle.doc_grammar.specs.Printed.{printed}
use Rattle.doc_profile.proofs.ReadBack.{line_spells, line_only, line_read}
use Rattle.doc_profile.proofs.print.print_doc.Goals as goal

pub returns : goal.returns
returns c =
    let doc = c.args.doc.now in
    let line = c.in_ok-line.line in
    let document = c.root.ensures.document in
    let is_line = c.in_ok-line.ensures.line ∙ ap (λ n. encode_utf8_all (printed n)) c.root.ensures.tree in
    let utf8 = c.in_ok-line.ensures.utf8 in
    record {
      line = is_line;
      spelled = λ p. (utf8, line_spells doc line document utf8 is_line p);
      only = λ p other x. line_only doc other line document utf8 is_line p x;
      read_back = λ p within. line_read doc line document utf8 is_line p within;
    }
