-- A text that was read as UTF-8 is UTF-8, and one that wasn't isn't.
use Rattle.std.proofs.Common.{◌≤◌, ◌∙◌, ap, length, arith}
use Rattle.ft_base.specs.Limits.{max_line_bytes}
use Rattle.text_lines.specs.Lines.{without_return}
use Rattle.session_text.proofs.WordLemmas.{command_line_read, command_line_refused}
use Rattle.session_text.proofs.parse.command_text_of.Goals as goal

pub returns-in-Ok-clause-text : goal.returns-in-Ok-clause-text
returns-in-Ok-clause-text c =
    let line = c.args.line.now in
    let read = c.in-Ok.ensures.cases in
    let short : length (without_return line) ≤ max_line_bytes = omega (arith, ap length c.drop_return.ensures) in
    (command_line_read line c.trim_line.result.now c.trim_line.ensures short read.1, read.0 ∙ c.trim_line.ensures)

pub returns-in-Err-clause-none : goal.returns-in-Err-clause-none
returns-in-Err-clause-none c = command_line_refused c.args.line.now c.trim_line.result.now c.trim_line.ensures c.in-Err.ensures.cases.0
