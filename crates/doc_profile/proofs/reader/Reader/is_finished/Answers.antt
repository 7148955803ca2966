-- A text may not end in an open element.
use Rattle.std.proofs.Common.{◌≡◌, false, length, string_bytes, sym, ◌∙◌, arith}
use Rattle.std.specs.Prelude.{◌==◌}
use Rattle.std.proofs.lemmas.Bool.Decides.{nat_tests}
use Rattle.doc_profile.specs.steps.View.{phase_of}
use Rattle.doc_profile.proofs.Readers.{level_open}
use Rattle.doc_profile.proofs.reader.Reader.is_finished.Goals as goal

pub returns-else-is_empty : goal.returns-else-is_empty
returns-else-is_empty c =
    let some : (length c.args.self.now.levels.items == 0) ≡ false = grind (arith, nat_tests) in
    c.if-is_empty.false ∙ sym (level_open c.args.self.now.fragment c.args.self.now.levels.items c.args.self.now.kids.items (string_bytes c.args.self.now.text) (phase_of c.args.self.now) some)
