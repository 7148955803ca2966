-- The command of the line stands after those before. It is readable, and its block was held or read.
use Rattle.std.proofs.Common.{◌+◌, ap, length, take, arith, length-take, length-drop}
use Rattle.std.proofs.lemmas.List.{take_rest}
use Rattle.session_text.proofs.GivenLemmas.{added_readable, added_blocks}
use Rattle.session_text.proofs.PlaceLemmas.{line_added}
use Rattle.session_text.proofs.unfinished.Unfinished.take_line.Goals as goal

pub returns-clause-commands : goal.returns-clause-commands
returns-clause-commands c = λ at_end more.
    line_added at_end c.args.self.now c.end_rest.new.self c.args.bytes.now _ more c.args.end c.args.found.now _ c.in_ok-command.command
    c.requires.unended c.requires.feed c.requires.within c.in_ok-command.ensures.command c.in_ok-command.ensures.place (take_rest c.args.bytes.now (c.args.end + 1)) c.in_ok-add.ensures

pub returns-clause-readable : goal.returns-clause-readable
returns-clause-readable c = λ readable.
    added_readable c.args.self.now _ c.args.found.now _ c.in_ok-command.command c.in_ok-command.ensures.command c.in_ok-add.ensures readable

pub returns-clause-blocks : goal.returns-clause-blocks
returns-clause-blocks c =
    let bytes = c.args.bytes.now in
    let n = c.args.end in
    omega (
      arith,
      c.requires.within,
      length-take n bytes,
      ap length (take_rest bytes (n + 1)),
      length-drop (n + 1) bytes,
      added_blocks c.args.self.now c.end_rest.new.self (take n bytes) c.args.found.now c.add.new.found c.in_ok-command.command c.in_ok-command.ensures.command c.in_ok-command.ensures.place c.in_ok-add.ensures,
    )
