-- Watches: paths with the lines that were told last, and what came and what went since.
use Rattle.std.specs.Prelude.{ℕ, Bool, nat_le, if◌then◌else◌, List, [], ◌∷◌, ◌++◌, length, find, Option, Some, None}
use Rattle.std.specs.List.{list_any}
use Rattle.std.specs.Str.{bytes_eq}
use Rattle.plan_runs.specs.Judgement.{Judgement}
use Rattle.reply_lines.specs.Limits.{max_watches}
use Rattle.reply_lines.specs.declared.reply.FullOf.TheVariants as full
use Rattle.reply_lines.specs.declared.reply.Refusal.{Refusal}
use Rattle.reply_lines.specs.declared.reply.Refusal.TheVariants as refusal
use Rattle.reply_lines.specs.declared.reply.Reply.{Reply}
use Rattle.reply_lines.specs.declared.reply.Reply.TheVariants as reply
use Rattle.reply_lines.specs.declared.reply.Reply.TheVariants.{Done, Refused}
use Rattle.standing_queries.specs.Changes.{changes}
use Rattle.session_state.specs.declared.shown.Shown.TheVariants.{Names}
use Rattle.session_state.specs.KeptTexts.{keep_plans}
use Rattle.session_state.specs.Paths.{answer}
use Rattle.session_state.specs.State.{State, Watch}

abbrev pub has_watch : List ℕ → List Watch → Bool
has_watch name watches = list_any (λ w. bytes_eq name w.name) watches

abbrev pub watch_named : List ℕ → List Watch → Option Watch
watch_named name watches = find (λ w. bytes_eq name w.name) watches

-- the watches without the one of that name
abbrev pub without_watch : List ℕ → List Watch → List Watch
without_watch name [] = []
without_watch name (w ∷ ws) = if bytes_eq name w.name then ws else w ∷ without_watch name ws

-- the watches, where the one of that name keeps these lines
abbrev pub with_lines : List ℕ → List (List ℕ) → List Watch → List Watch
with_lines name lines [] = []
with_lines name lines (w ∷ ws) = if bytes_eq name w.name then record w { lines = lines } ∷ ws else w ∷ with_lines name lines ws

abbrev pub with_watches : List Watch → State → State
with_watches watches state = record state { watches = watches }

-- ---- a path is watched

-- why no watch is set under a name, if none is: there is one of that name, or there are as many as there may be
abbrev pub watch_refusal : List ℕ → List Watch → Option Refusal
watch_refusal name watches =
    if has_watch name watches then Some (refusal.NameTaken name)
    else if nat_le max_watches (length watches) then Some (refusal.Full full.Watches)
    else None

-- a watch comes after the others, by the reply to a query of its path: it keeps the lines of the nodes, unless the query is refused
abbrev pub watch_answered : State → List ℕ → List ℕ → Reply → State × Reply
watch_answered state name path (reply.Nodes lines) = (with_watches (state.watches ++ record { name = name; path = path; lines = lines } ∷ []) state, Done)
watch_answered state name path other = (state, other)

abbrev pub watch_set : Judgement → State → List ℕ → List ℕ → Option Refusal → State × Reply
watch_set says state name path (Some why) = (state, Refused why)
watch_set says state name path None = keep_plans path (watch_answered state name path (answer says Names state path))

abbrev pub watched : Judgement → State → List ℕ → List ℕ → State × Reply
watched says state name path = watch_set says state name path (watch_refusal name state.watches)

-- ---- what changed

-- by the reply to a query of the watch's path: what went and what came, and the lines of now are kept, unless the query is refused
abbrev pub change_answered : State → List ℕ → Watch → Reply → State × Reply
change_answered state name w (reply.Nodes lines) = (with_watches (with_lines name lines state.watches) state, reply.Changed (changes w.lines lines))
change_answered state name w other = (state, other)

abbrev pub change_found : Judgement → State → List ℕ → Option Watch → State × Reply
change_found says state name None = (state, Refused (refusal.NoSuchName name))
change_found says state name (Some w) = change_answered state name w (answer says Names state w.path)

abbrev pub changed : Judgement → State → List ℕ → State × Reply
changed says state name = change_found says state name (watch_named name state.watches)

-- ---- a watch is given up

abbrev pub watch_taken : List Watch → List ℕ → List Watch × Reply
watch_taken watches name = if has_watch name watches then (without_watch name watches, Done) else (watches, Refused (refusal.NoSuchName name))

abbrev pub with_watch_reply : State → List Watch × Reply → State × Reply
with_watch_reply state (watches, reply) = (with_watches watches state, reply)

abbrev pub unwatched : State → List ℕ → State × Reply
unwatched state name = with_watch_reply state (watch_taken state.watches name)
