-- Without an unfinished line the commands that became whole are all.
use Rattle.std.proofs.Common.{◌∙◌, sym, ap, append-nil, ◌++◌, []}
use Rattle.std.specs.Option.{option_to_list}
use Rattle.session_text.specs.Reading.{commands_left, new_reading}
use Rattle.ft_session.proofs.made.read_commands.Goals as goal

pub returns-in-Ok-None : goal.returns-in-Ok-None
returns-in-Ok-None c =
    let session = c.args.session.now in
    let given = c.in_ok-given.given in
    sym (ap (commands_left new_reading) (sym (append-nil session))
    ∙ (ap (λ reader. commands_left reader (session ++ [])) (sym c.requires)
    ∙ (c.in_ok-given.ensures.commands []
    ∙ (ap (λ left. given ++ left) (c.in-Ok-None.ensures.commands ∙ ap option_to_list c.in-Ok-None.field-0-is) ∙ append-nil given))))
