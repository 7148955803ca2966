-- A first line that says the format is no command.
use Rattle.std.proofs.Common.{◌∙◌, sym, ap, [], true}
use Rattle.std.proofs.lemmas.Result.{IfOk-weaker}
use Rattle.session_text.specs.Commands.{says_second}
use Rattle.session_text.specs.Lines.{without_mark}
use Rattle.session_text.specs.steps.PeriodReading.{commands_from}
use Rattle.session_text.specs.steps.Reached.{Reached}
use Rattle.session_text.proofs.ReachedLemmas.{last_period, last_second}
use Rattle.session_text.proofs.reached.Reached.finish_first.Goals as goal

pub returns-then-says_second-clause-command : goal.returns-then-says_second-clause-command
returns-then-says_second-clause-command c =
    last_second c.args.self.now c.args.taken c.requires.first c.requires.place
    (ap (λ (r : Reached). says_second (without_mark r.lines.rest)) (sym c.self.view_is) ∙ (ap (λ w. says_second (without_mark w)) (sym c.held.ensures) ∙ (ap says_second (sym c.skip_mark.ensures) ∙ sym c.if-says_second.ensures)))

pub returns-clause-command : goal.returns-clause-command
returns-clause-command c =
    let first = last_period c.args.self.now c.args.taken c.requires.first c.requires.place
    (ap (λ (r : Reached). says_second (without_mark r.lines.rest)) (sym c.self.view_is) ∙ (ap (λ w. says_second (without_mark w)) (sym c.held.ensures) ∙ (ap says_second (sym c.skip_mark.ensures) ∙ sym c.if-says_second.ensures))) in
    IfOk-weaker c.finish.result _ _ (λ last says. first ∙ (ap (λ (r : Reached). commands_from true r.lines []) (sym c.self.view_is) ∙ says)) c.finish.ensures.command
