-- A command that is whole with the last line is all that is left.
use Rattle.std.proofs.Common.{◌≡◌, ◌∙◌, sym, ap}
use Rattle.session_text.specs.steps.PeriodReading.{Place, after_lines}
use Rattle.session_text.proofs.EndLemmas.{ends_whole}
use Rattle.session_text.proofs.GivenLemmas.{last_readable, last_blocks}
use Rattle.session_text.proofs.unfinished.Unfinished.finish.Goals as goal

pub returns-in-Some-clause-command : goal.returns-in-Some-clause-command
returns-in-Some-clause-command c =
    let place = c.args.self.now in
    let line = c.skip_mark_at_start.result.now in
    let is : line ≡ after_lines place.lines place.rest =
    c.skip_mark_at_start.ensures
    ∙ (ap (after_lines c.self.inside.lines) c.held.ensures
    ∙ ap (λ n. after_lines n place.rest) (ap (λ (p : Place). p.lines) c.self.view_is)) in
    ends_whole place line c.in-Some.command c.requires.unended is (sym c.is_empty.ensures ∙ c.if-is_empty.false) (sym c.in-Some.is ∙ c.in_ok-command.ensures.command)

pub returns-in-Some-clause-readable : goal.returns-in-Some-clause-readable
returns-in-Some-clause-readable c = last_readable c.args.self.now c.in-Some.command (sym c.in-Some.is ∙ c.in_ok-command.ensures.command)

pub returns-in-Some-clause-blocks : goal.returns-in-Some-clause-blocks
returns-in-Some-clause-blocks c = last_blocks c.args.self.now c.in-Some.command (sym c.in-Some.is ∙ c.in_ok-command.ensures.command)
