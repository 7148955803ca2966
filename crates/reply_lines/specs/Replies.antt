-- The text of a reply.
use Rattle.std.specs.Prelude.{ℕ, ◌/◌, Bool, true, false, List, [], ◌∷◌, ◌++◌, length, codes}
use Rattle.std.specs.List.{flat_map}
use Rattle.std.specs.Fmt.{decimal}
use Rattle.doc_profile.specs.declared.fault.DocFault.{DocFault}
use Rattle.doc_profile.specs.declared.fault.DocFault.TheVariants as fault
use Rattle.ft_base.specs.Limits.{max_documents, max_lists, max_marks}
use Rattle.ft_base.specs.declared.fault.QueryFault.{QueryFault}
use Rattle.ft_base.specs.declared.fault.QueryFault.TheVariants as query
use Rattle.reply_lines.specs.Limits.{max_watches}
use Rattle.reply_lines.specs.declared.reply.Counts.{Counts}
use Rattle.reply_lines.specs.declared.reply.FullOf.{FullOf}
use Rattle.reply_lines.specs.declared.reply.FullOf.TheVariants as full
use Rattle.reply_lines.specs.declared.reply.LimitOf.{LimitOf}
use Rattle.reply_lines.specs.declared.reply.LimitOf.TheVariants as limit
use Rattle.reply_lines.specs.declared.reply.Refusal.{Refusal}
use Rattle.reply_lines.specs.declared.reply.Refusal.TheVariants as refusal
use Rattle.reply_lines.specs.declared.reply.Reply.{Reply}
use Rattle.reply_lines.specs.declared.reply.Reply.TheVariants as reply

-- a line, and the line feed that ends it
abbrev pub ended_line : List ℕ → List ℕ
ended_line line = line ++ 10 ∷ []

-- how many there may be, and of what
abbrev pub full_words : FullOf → List ℕ
full_words full.Documents = decimal max_documents ++ codes " documents"
full_words full.Marks = decimal max_marks ++ codes " marks"
full_words full.StopLists = decimal max_lists ++ codes " stop lists"
full_words full.Thesauri = decimal max_lists ++ codes " thesauri"
full_words full.Watches = decimal max_watches ++ codes " watches"

abbrev pub limit_words : LimitOf → List ℕ
limit_words limit.Depth = codes "depth"
limit_words limit.Nodes = codes "nodes"
limit_words limit.Tokens = codes "tokens"

-- a fault of a document and its place. Want of memory is no refusal and has no text.
abbrev pub document_words : DocFault → List ℕ
document_words (fault.NotUtf8 at) = codes "not utf-8 at " ++ decimal at
document_words (fault.Syntax at) = codes "syntax at " ++ decimal at
document_words (fault.Depth at) = codes "depth at " ++ decimal at
document_words (fault.Nodes at) = codes "nodes at " ++ decimal at
document_words fault.Memory = []

-- a fault of a path or a selection and its place, the same for want of memory
abbrev pub query_words : QueryFault → List ℕ
query_words (query.Syntax at) = codes "syntax at " ++ decimal at
query_words (query.Deep at) = codes "deep at " ++ decimal at
query_words (query.Number at) = codes "number at " ++ decimal at
query_words (query.Phrases at) = codes "phrases at " ++ decimal at
query_words (query.OptionTwice at) = codes "option twice at " ++ decimal at
query_words (query.BadWildcard at) = codes "bad wildcard at " ++ decimal at
query_words (query.MildNotExclude at) = codes "mild not exclude at " ++ decimal at
query_words (query.InsideFilter at) = codes "inside filter at " ++ decimal at
query_words query.Memory = []

-- the line of a refusal
abbrev pub refusal_line : Refusal → List ℕ
refusal_line (refusal.BadCommand line) = codes "! 1 bad command at line " ++ decimal line
refusal_line (refusal.BadName line) = codes "! 2 bad name at line " ++ decimal line
refusal_line (refusal.NameTaken name) = codes "! 3 name taken: " ++ name
refusal_line (refusal.NoSuchName name) = codes "! 4 no such name: " ++ name
refusal_line (refusal.Full what) = codes "! 5 full at " ++ full_words what
refusal_line (refusal.Document why) = codes "! 6 document: " ++ document_words why
refusal_line refusal.TooManyTokens = codes "! 6 document: tokens"
refusal_line (refusal.List line) = codes "! 6 list: bad line " ++ decimal line
refusal_line (refusal.Query why) = codes "! 7 query: " ++ query_words why
refusal_line (refusal.NoSuchDoc name) = codes "! 8 no such document: " ++ name
refusal_line (refusal.NoSuchList name) = codes "! 9 no such list: " ++ name
refusal_line refusal.NoTarget = codes "! 10 no target"
refusal_line (refusal.ManyTargets count) = codes "! 11 many targets: " ++ decimal count
refusal_line refusal.RootTarget = codes "! 12 root target"
refusal_line (refusal.Limit what) = codes "! 13 limit: " ++ limit_words what
refusal_line refusal.NothingToShow = codes "! 15 nothing to show"

-- a number, and lines
abbrev pub numbered_lines : ℕ → List (List ℕ) → List ℕ
numbered_lines number lines = ended_line (codes "= " ++ decimal number) ++ flat_map ended_line lines

-- how many lines follow, and these lines
abbrev pub counted_lines : List (List ℕ) → List ℕ
counted_lines lines = numbered_lines (length lines) lines

-- how many pairs of lines follow, and these lines
abbrev pub counted_pairs : List (List ℕ) → List ℕ
counted_pairs lines = numbered_lines (length lines / 2) lines

abbrev pub counts_line : Counts → List ℕ
counts_line counts =
    codes "= documents " ++ decimal counts.documents ++ codes " tokens " ++ decimal counts.tokens ++ codes " terms " ++ decimal counts.terms
    ++ codes " marks " ++ decimal counts.marks ++ codes " plans " ++ decimal counts.plans ++ codes " hits " ++ decimal counts.hits

-- the lines of a reply, each ended by a line feed
abbrev pub reply_text : Reply → List ℕ
reply_text reply.Done = ended_line (codes "ok")
reply_text (reply.Nodes lines) = counted_lines lines
reply_text (reply.Texts lines) = counted_lines lines
reply_text (reply.Shown lines) = counted_pairs lines
reply_text (reply.Changed lines) = counted_lines lines
reply_text (reply.Explained text) = ended_line (codes "= " ++ text)
reply_text (reply.Counts counts) = ended_line (counts_line counts)
reply_text (reply.Refused why) = ended_line (refusal_line why)

abbrev pub is_refusal : Reply → Bool
is_refusal (reply.Refused why) = true
is_refusal _ = false
