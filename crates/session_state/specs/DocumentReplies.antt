-- The replies to commands that change documents, by what the collection answers.
use Rattle.std.specs.Prelude.{ℕ, List, Result, Ok, Err, ⊤}
use Rattle.document_store.specs.declared.fault.NotEdited.{NotEdited}
use Rattle.document_store.specs.declared.fault.NotEdited.TheVariants as unedited
use Rattle.document_store.specs.declared.fault.NotLoaded.{NotLoaded}
use Rattle.document_store.specs.declared.fault.NotLoaded.TheVariants as unloaded
use Rattle.document_store.specs.declared.fault.NotRemoved.{NotRemoved}
use Rattle.document_store.specs.declared.fault.NotRemoved.TheVariants as unremoved
use Rattle.path_meaning.specs.Collection.{Named}
use Rattle.reply_lines.specs.declared.reply.FullOf.TheVariants as full
use Rattle.reply_lines.specs.declared.reply.LimitOf.{LimitOf}
use Rattle.reply_lines.specs.declared.reply.LimitOf.TheVariants as limit
use Rattle.reply_lines.specs.declared.reply.Refusal.{Refusal}
use Rattle.reply_lines.specs.declared.reply.Refusal.TheVariants as refusal
use Rattle.reply_lines.specs.declared.reply.Reply.{Reply}
use Rattle.reply_lines.specs.declared.reply.Reply.TheVariants.{Done, Refused}

-- why no document is loaded under that name
abbrev pub load_refusal : List ℕ → NotLoaded → Refusal
load_refusal name unloaded.NameTaken = refusal.NameTaken name
load_refusal name unloaded.Full = refusal.Full full.Documents
load_refusal name (unloaded.Document why) = refusal.Document why
load_refusal name unloaded.TooManyTokens = refusal.TooManyTokens

-- why none of that name is taken out
abbrev pub removal_refusal : List ℕ → NotRemoved → Refusal
removal_refusal name unremoved.NoSuchName = refusal.NoSuchName name

-- what a document would have too much of after an edit
abbrev pub exceeded : NotEdited → LimitOf
exceeded unedited.TooDeep = limit.Depth
exceeded unedited.TooManyNodes = limit.Nodes
exceeded unedited.TooManyTokens = limit.Tokens

abbrev pub edit_refusal : NotEdited → Refusal
edit_refusal why = refusal.Limit (exceeded why)

-- documents with the reply, where each reason against is refused like this
abbrev pub replied_by : {E : Type 0} → (E → Refusal) → List Named × Result ⊤ E → List Named × Reply
replied_by refuse (documents, Ok done) = (documents, Done)
replied_by refuse (documents, Err why) = (documents, Refused (refuse why))
