-- What a command does to the lists that selections name.
use Rattle.std.specs.Prelude.{◌≡◌, ℕ, Bool, not, ◌&&◌, nat_le, if◌then◌else◌, List, length, Result, Ok, Err}
use Rattle.std.specs.Option.{is_some}
use Rattle.ft_base.specs.declared.fault.ListFault.{ListFault}
use Rattle.ft_base.specs.declared.fault.ListFault.TheVariants.{BadLine, Memory}
use Rattle.plan_compiler.specs.NamedLists.{NamedLists, list_named, with_stems, with_stop_list, with_thesaurus}
use Rattle.reply_lines.specs.declared.reply.FullOf.TheVariants as full
use Rattle.reply_lines.specs.declared.reply.Refusal.TheVariants as refusal
use Rattle.reply_lines.specs.declared.reply.Reply.{Reply}
use Rattle.reply_lines.specs.declared.reply.Reply.TheVariants.{Done, Refused}
use Rattle.kept_plans.specs.Preparation.{Preparation, with_new_lists}
use Rattle.reply_lines.specs.Replies.{is_refusal}
use Rattle.thesaurus_file.specs.Links.{Links}
use Rattle.word_lists.specs.Stems.{Stem}
use Rattle.ft_base.specs.Limits.{max_lists}

-- whether there is no room for a list of that name: it would be a new one, and there are as many as there may be
abbrev pub is_full_for : {L : Type 0} → List ℕ → List (List ℕ × L) → Bool
is_full_for name lists = not (is_some (list_named name lists)) && nat_le max_lists (length lists)

-- the lists with the one that a block is, unless it is none: then the first line that is bad
abbrev pub read_into : {L : Type 0} → NamedLists → (L → NamedLists) → Result L ℕ → NamedLists × Reply
read_into lists put (Err line) = (lists, Refused (refusal.List line))
read_into lists put (Ok list) = (put list, Done)

-- a stop list comes under a name, in the place of the one that has it
abbrev pub stop_list_put : NamedLists → List ℕ → Result (List (List ℕ)) ℕ → NamedLists × Reply
stop_list_put lists name keys =
    if is_full_for name lists.stops then (lists, Refused (refusal.Full full.StopLists))
    else read_into lists (λ keys. with_stop_list name keys lists) keys

-- and a thesaurus
abbrev pub thesaurus_put : NamedLists → List ℕ → Result Links ℕ → NamedLists × Reply
thesaurus_put lists name links =
    if is_full_for name lists.thesauri then (lists, Refused (refusal.Full full.Thesauri))
    else read_into lists (λ links. with_thesaurus name links lists) links

-- a dictionary takes the place of the one that was there
abbrev pub stems_put : NamedLists → Result (List Stem) ℕ → NamedLists × Reply
stems_put lists stems = read_into lists (λ stems. with_stems stems lists) stems

-- a bad line is answered; want of memory isn't
abbrev pub Answers : ListFault → Reply → Type 0
Answers (BadLine line) reply = reply ≡ Refused (refusal.List line)
Answers Memory reply = ⊥

-- what is prepared with other lists, and the reply. No plan is kept where a list came.
abbrev pub with_prepared : Preparation → NamedLists × Reply → Preparation × Reply
with_prepared prepared (lists, reply) = ((if is_refusal reply then prepared else with_new_lists lists prepared), reply)
