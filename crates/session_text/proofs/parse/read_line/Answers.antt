-- What the words of a command line say.
use Rattle.std.proofs.Common.{◌≡◌, ◌∙◌, sym, ap, subst, cond}
use Rattle.std.specs.Prelude.{IfOk}
use Rattle.reply_lines.specs.declared.command.Command.{Command}
use Rattle.reply_lines.specs.declared.command.Command.TheVariants.{BadCommand}
use Rattle.session_text.specs.LineCommands.{command_of_line, line_command}
use Rattle.text_lines.specs.Lines.{trimmed_line, first_word, after_first_word}
use Rattle.session_text.proofs.parse.read_line.Goals as goal

pub returns-in-Some : goal.returns-in-Some
returns-in-Some c =
    let line = c.args.line.now in
    let number = c.args.number in
    let second = c.args.second in
    let text = c.in-Some.ensures.text in
    let said : line_command second number c.split_word.result.0.now c.split_word.result.1.now ≡ command_of_line second number line =
    ap (λ w. line_command second number w c.split_word.result.1.now) (c.split_word.ensures.word ∙ ap first_word text.1)
    ∙ (ap (line_command second number (first_word (trimmed_line line))) (c.split_word.ensures.rest ∙ ap after_first_word text.1)
    ∙ sym (ap (λ t. cond t (line_command second number (first_word (trimmed_line line)) (after_first_word (trimmed_line line))) (BadCommand number)) text.0)) in
    subst (λ (said : Command). IfOk c.read_line_command.result (λ command. command ≡ said)) said c.read_line_command.ensures
