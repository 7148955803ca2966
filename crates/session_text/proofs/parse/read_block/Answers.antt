-- What the words of a command line say, with the block after it.
use Rattle.std.proofs.Common.{◌≡◌, ◌∙◌, sym, ap, subst, cond}
use Rattle.std.specs.Prelude.{IfOk, false}
use Rattle.reply_lines.specs.declared.command.Command.{Command}
use Rattle.reply_lines.specs.declared.command.Command.TheVariants.{BadCommand}
use Rattle.session_text.specs.LineCommands.{command_of_block, block_command}
use Rattle.text_lines.specs.Lines.{trimmed_line, first_word, after_first_word}
use Rattle.session_text.proofs.parse.read_block.Goals as goal

pub returns-in-Some : goal.returns-in-Some
returns-in-Some c =
    let line = c.args.line.now in
    let number = c.args.number in
    let block = c.args.block in
    let text = c.in-Some.ensures.text in
    let said : block_command false number c.split_word.result.0.now c.split_word.result.1.now block ≡ command_of_block number line block =
    ap (λ w. block_command false number w c.split_word.result.1.now block) (c.split_word.ensures.word ∙ ap first_word text.1)
    ∙ (ap (λ r. block_command false number (first_word (trimmed_line line)) r block) (c.split_word.ensures.rest ∙ ap after_first_word text.1)
    ∙ sym (ap (λ t. cond t (block_command false number (first_word (trimmed_line line)) (after_first_word (trimmed_line line)) block) (BadCommand number)) text.0)) in
    subst (λ (said : Command). IfOk c.read_block_command.result (λ command. command ≡ said)) said c.read_block_command.ensures
