-- The reply of that number is the one to the query.
use Rattle.std.proofs.Common.{◌∙◌, ap, Some}
use Rattle.reply_lines.specs.declared.command.Command.TheVariants.{Query}
use Rattle.ft_session.specs.Queries.{state_before}
use Rattle.ft_session.proofs.QueryLemmas.{reply-there}
use Rattle.ft_session.proofs.laws.query_law.Goals as goal

pub returns : goal.returns
returns c = λ says session number text p there read all.
    reply-there says session number (Query text) there ∙ ap Some (c.query_law.ensures says (state_before says session number) text p read all)
