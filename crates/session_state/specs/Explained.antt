-- The reply to a selection that is to be explained: how it is printed once it is rewritten. No list is looked at.
use Rattle.std.specs.Prelude.{ℕ, List, Result, Ok, Err}
use Rattle.ft_base.specs.Selection.{Form}
use Rattle.ft_base.specs.declared.fault.QueryFault.{QueryFault}
use Rattle.ft_parser.specs.Answer.{selection_read}
use Rattle.ft_rewriter.specs.Rewriting.{rewritten}
use Rattle.ft_syntax.specs.Symbols.{printed}
use Rattle.reply_lines.specs.declared.reply.Refusal.TheVariants as refusal
use Rattle.reply_lines.specs.declared.reply.Reply.{Reply}
use Rattle.reply_lines.specs.declared.reply.Reply.TheVariants as reply

abbrev pub explained_read : Result Form QueryFault → Reply
explained_read (Err fault) = reply.Refused (refusal.Query fault)
explained_read (Ok form) = reply.Explained (printed (rewritten form))

-- the reply to the text of a selection
abbrev pub explained : List ℕ → Reply
explained text = explained_read (selection_read text)
