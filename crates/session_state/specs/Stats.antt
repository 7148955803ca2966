-- How much a session holds.
use Rattle.std.specs.Prelude.{length}
use Rattle.document_store.specs.Documents.{key_total, token_total}
use Rattle.reply_lines.specs.declared.reply.Reply.{Reply}
use Rattle.reply_lines.specs.declared.reply.Reply.TheVariants as reply
use Rattle.session_state.specs.State.{State}

-- the reply with the counts of documents, of their tokens and of the different keys of these, of marks, of kept plans, and of hits
abbrev pub counts : State → Reply
counts state = reply.Counts (record {
  documents = length state.documents;
  tokens = token_total state.documents;
  terms = key_total state.documents;
  marks = length state.marks;
  plans = length state.kept.texts;
  hits = state.kept.hits;
})
