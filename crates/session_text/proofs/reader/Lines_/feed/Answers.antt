-- The commands of what is left stay the same, whole or with the session's end after them.
use Rattle.std.proofs.Common.{◌∙◌, sym, ap, ◌++◌, true, false}
use Rattle.session_text.specs.Reading.{Reading, commands_left, whole_left}
use Rattle.session_text.proofs.ReachedLemmas.{none_whole}
use Rattle.session_text.proofs.reader.Lines_.feed.Goals as goal

pub returns-clause-commands : goal.returns-clause-commands
returns-clause-commands c = λ more.
    sym (ap (λ (reading : Reading). commands_left reading (c.args.piece.now ++ more)) c.self.view_is) ∙ c.in_ok-given.ensures.commands true more

pub returns-clause-whole : goal.returns-clause-whole
returns-clause-whole c = λ more.
    sym (ap (λ (reading : Reading). whole_left reading (c.args.piece.now ++ more)) c.self.view_is) ∙ c.in_ok-given.ensures.commands false more

pub returns-clause-none_held : goal.returns-clause-none_held
returns-clause-none_held c = none_whole c.take_piece.new.self _ c.in_ok-given.ensures.place
