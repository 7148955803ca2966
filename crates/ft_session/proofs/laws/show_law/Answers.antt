-- The reply of that number is the one to what is to be shown.
use Rattle.std.proofs.Common.{◌∙◌, ap, Some}
use Rattle.reply_lines.specs.declared.command.Command.TheVariants.{Show}
use Rattle.ft_session.specs.Queries.{state_before}
use Rattle.ft_session.proofs.QueryLemmas.{reply-there}
use Rattle.ft_session.proofs.laws.show_law.Goals as goal

pub returns : goal.returns
returns c = λ says session number text p form there read all is.
    reply-there says session number (Show text) there ∙ ap Some (c.show_law.ensures.elements says (state_before says session number) text p form read all is)
