-- A line of which nothing was held.
use Rattle.std.proofs.Common.{◌≡◌, ◌∙◌, sym, ap, subst, ◌+◌, ◌++◌, [], length, rules}
use Rattle.std.specs.Prelude.{Option, None, IfOk}
use Rattle.reply_lines.specs.declared.command.Command.{Command}
use Rattle.session_text.specs.steps.PeriodReading.{OpenLines, after_lines, between_lines, ended_at, line_ended}
use Rattle.session_text.proofs.HeldLemmas.{no_bytes, outside_rest}
use Rattle.session_text.proofs.unfinished.Unfinished.end_outside.Goals as goal

pub returns-then-is_empty-clause-ended : goal.returns-then-is_empty-clause-ended
returns-then-is_empty-clause-ended c =
    let self = c.args.self.now in
    let part = c.args.part.now in
    let zero_long : length c.self.inside.rest.items ≡ 0 = search (rules, c.is_empty.ensures, c.if-is_empty.true) in
    let empty : c.self.inside.rest.items ≡ [] = no_bytes c.self.inside.rest.items zero_long in
    let rest : self.rest ≡ [] = outside_rest c.self.inside.lines c.self.inside.rest.items c.self.inside.opened self c.self.view_is c.requires.outside empty in
    let number : c.self.inside.lines ≡ self.lines = ap (λ p. p.lines) c.self.view_is in
    let same : between_lines (line_ended (c.self.inside.lines + 1) None c.skip_mark_at_start.result.now) ≡ between_lines (ended_at self part) =
    (λ i. between_lines (line_ended (number i + 1) (sym c.requires.outside i) ((c.skip_mark_at_start.ensures ∙ (λ j. after_lines (number j) (sym (ap (λ r. r ++ part) rest) j))) i))) in
    subst (λ (e : Option Command × Option OpenLines). IfOk c.end_command_line.result (λ ended. ended ≡ e)) same c.end_command_line.ensures
