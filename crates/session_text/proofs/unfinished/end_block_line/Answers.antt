-- The line closes the block, or is the block's next.
use Rattle.std.proofs.Common.{◌∙◌, sym, ap, ◌++◌, ◌∷◌, []}
use Rattle.std.specs.Prelude.{Option, Some, None}
use Rattle.reply_lines.specs.declared.command.Command.{Command}
use Rattle.session_text.specs.steps.Blocks.{without_last}
use Rattle.session_text.specs.LineCommands.{command_of_block}
use Rattle.session_text.specs.steps.PeriodReading.{OpenLines, open_lines}
use Rattle.session_text.proofs.HeldLemmas.{closed, goes_on, whole_block}
use Rattle.session_text.proofs.unfinished.end_block_line.Goals as goal

pub returns-then-closes : goal.returns-then-closes
returns-then-closes c =
    let o = c.args.pending.opened in
    let block = whole_block c.pending.inside.line.items c.pending.inside.number c.pending.inside.held c.pending.inside.block.items c.args.pending c.pending.view_is c.requires in
    let head = ap (λ (p : OpenLines). p.opened.line) c.pending.view_is in
    let number = ap (λ (p : OpenLines). p.opened.number) c.pending.view_is in
    closed o c.args.line.now c.in_ok-command.command (sym c.closes.ensures ∙ c.if-closes.true)
    (c.in_ok-command.ensures ∙ (λ i. command_of_block (number i) ((c.deref.ensures.value ∙ head) i) ((c.close.ensures ∙ ap without_last (sym block)) i)))

pub returns : goal.returns
returns c =
    let o = c.args.pending.opened in
    let block = whole_block c.pending.inside.line.items c.pending.inside.number c.pending.inside.held c.pending.inside.block.items c.args.pending c.pending.view_is c.requires in
    ap (λ (p : OpenLines). (λ (e : Option Command × Option OpenLines). e) (None, Some p)) c.in_ok-pending.ensures
    ∙ (ap (λ (p : OpenLines). (λ (e : Option Command × Option OpenLines). e) (None, Some (open_lines p.opened.line p.opened.number 0 (c.extend_from_slice.new.self.items ++ 10 ∷ [])))) c.pending.view_is
    ∙ goes_on o c.args.line.now c.unquote.result.now c.extend_from_slice.new.self.items (sym c.closes.ensures ∙ c.if-closes.false) c.unquote.ensures
    (c.in_ok-extend_from_slice.ensures.items ∙ ap (λ b. b ++ c.unquote.result.now) (sym block)))
