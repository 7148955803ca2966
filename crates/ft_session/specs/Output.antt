-- The output of a session, by what is said of selections.
use Rattle.std.specs.Prelude.{ℕ, Bool, List}
use Rattle.std.specs.List.{flat_map, list_any}
use Rattle.made_sessions.specs.Asked.{short}
use Rattle.plan_runs.specs.Judgement.{Judgement}
use Rattle.reply_lines.specs.declared.reply.Reply.{Reply}
use Rattle.session_text.specs.Commands.{commands, whole}
use Rattle.reply_lines.specs.Replies.{reply_text, is_refusal}
use Rattle.session_state.specs.State.{opening}
use Rattle.session_state.specs.Step.{replies}
use Rattle.ft_session.specs.declared.portion.Portion.{Portion}
use Rattle.ft_session.specs.declared.portion.Portion.TheVariants.{Whole, Short}

-- what is written of the text of a reply
abbrev pub portion_of : Portion → List ℕ → List ℕ
portion_of Whole text = text
portion_of Short text = short text

-- the same of replies, one after the other
abbrev pub portions_of : Portion → List Reply → List ℕ
portions_of portion replies = flat_map (λ reply. portion_of portion (reply_text reply)) replies

-- the texts of replies, one after the other
abbrev pub texts_of : List Reply → List ℕ
texts_of replies = flat_map reply_text replies

-- the replies to a session's commands, from the opening state
unfoldable pub replies_to : Judgement → List ℕ → List Reply
replies_to says session = replies says opening (commands session)

abbrev pub output : Judgement → List ℕ → List ℕ
output says session = texts_of (replies_to says session)

-- what is written of the replies to a made session
abbrev pub short_output : Judgement → List ℕ → List ℕ
short_output says session = portions_of Short (replies_to says session)

-- whether some reply to a session is a refusal
abbrev pub has_refusal : Judgement → List ℕ → Bool
has_refusal says session = list_any is_refusal (replies_to says session)

-- the replies to the commands that are whole in the bytes at a session's start
unfoldable pub replies_to_whole : Judgement → List ℕ → List Reply
replies_to_whole says taken = replies says opening (whole taken)

abbrev pub output_of_whole : Judgement → List ℕ → List ℕ
output_of_whole says taken = texts_of (replies_to_whole says taken)
