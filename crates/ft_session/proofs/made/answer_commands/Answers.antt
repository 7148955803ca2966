-- A prefix of what is written of the replies is one of the made session's output.
use Rattle.std.proofs.Common.{◌∙◌, ap, subst}
use Rattle.std.specs.Prelude.{OnErr}
use Rattle.session_state.specs.State.{opening}
use Rattle.session_state.specs.Step.{replies}
use Rattle.ft_session.specs.Output.{portions_of, replies_to}
use Rattle.ft_session.specs.Run.{TookPrefix}
use Rattle.ft_session.specs.declared.portion.Portion.TheVariants.{Short}
use Rattle.ft_session.proofs.made.answer_commands.Goals as goal

pub returns-clause-prefix : goal.returns-clause-prefix
unfolding replies_to
returns-clause-prefix g c =
    let says = g.J.Judge.says in
    let before = g.K.Sink.written c.args.sink.now in
    let after = g.K.Sink.written c.answer_all-answered.new.sink in
    subst (λ rs. OnErr c.answer_all-answered.result (TookPrefix before after (portions_of Short rs)))
    (ap (λ s. replies says s c.as_slice.result.now) c.requires.opening ∙ ap (replies says opening) (c.as_slice.ensures ∙ c.in_ok-commands.ensures))
    c.answer_all-answered.ensures.prefix
