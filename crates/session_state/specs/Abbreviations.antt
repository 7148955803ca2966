-- What the command does that says where sentences end.
use Rattle.std.specs.Prelude.{ℕ, List, Result, Ok, Err}
use Rattle.reply_lines.specs.declared.reply.Refusal.TheVariants as refusal
use Rattle.reply_lines.specs.declared.reply.Reply.{Reply}
use Rattle.reply_lines.specs.declared.reply.Reply.TheVariants.{Done, Refused}
use Rattle.session_state.specs.State.{State}

-- abbreviations take the place of those that were there, unless the block is no list of them: then the first line that is bad
abbrev pub abbreviations_put : State → Result (List (List ℕ)) ℕ → State × Reply
abbreviations_put state (Err line) = (state, Refused (refusal.List line))
abbreviations_put state (Ok keys) = (record state { abbreviations = keys }, Done)
