-- The state after a command that changes what is prepared: lists that come, and plans that are kept after the reply to a path.
use Rattle.std.proofs.Common.{◌≡◌, ◌∙◌, sym, ap, refl, subst, ℕ, true, false, cond, List}
use Rattle.std.specs.Prelude.{Option, Some, None, Result, Ok, Err, IfOk}
use Rattle.std.specs.Map.{lookup}
use Rattle.std.specs.Str.{bytes_eq}
use Rattle.document_store.specs.Indexed.{Indexed}
use Rattle.ft_base.specs.declared.fault.QueryFault.{QueryFault}
use Rattle.ft_base.specs.declared.memory.Memory.{Memory}
use Rattle.kept_plans.specs.Preparation.{Preparation, with_kept}
use Rattle.path_subset.specs.Answer.{path_read}
use Rattle.path_subset.specs.Paths.{PathForm}
use Rattle.plan_runs.specs.Judgement.{Judgement}
use Rattle.reply_lines.specs.Replies.{is_refusal}
use Rattle.reply_lines.specs.declared.reply.Refusal.TheVariants as refusal
use Rattle.reply_lines.specs.declared.reply.Reply.{Reply}
use Rattle.reply_lines.specs.declared.reply.Reply.TheVariants.{Refused}
use Rattle.session_state.specs.declared.shown.Shown.{Shown}
use Rattle.session_state.specs.declared.shown.Shown.TheVariants.{Names}
use Rattle.session_state.specs.Held.{Held}
use Rattle.session_state.specs.KeptMarks.{marks_of, versions_of}
use Rattle.session_state.specs.KeptTexts.{keep_plans, kept_after}
use Rattle.session_state.specs.KeptWatches.{standings_of, watches_of}
use Rattle.session_state.specs.Marks.{at_mark, mark_named, version_of_mark}
use Rattle.session_state.specs.PathPrices.{held_at, price_at, read_price}
use Rattle.session_state.specs.Paths.{answer, answer_read}
use Rattle.session_state.specs.ReadyPaths.{kept_for}
use Rattle.session_state.specs.State.{Mark, State}
use Rattle.session_state.specs.StateView.{held_of, prepared_of, state_of}
use Rattle.session_state.specs.Step.{shown_at}
use Rattle.session_state.proofs.EditLemmas.{replied, with_prepared_in}
use Rattle.session_state.proofs.MarkLemmas.{found-mark, Entry, IsFound}
use Rattle.session_state.proofs.WatchLemmas as watched
use Rattle.stamped_documents.specs.Stamped.{StampedDocuments}

-- what a session holds, by its parts
abbrev pub held_as : StampedDocuments → Preparation → List Entry → List watched.Entry → Held
held_as stamped q entries watches = record {
  state = record {
    documents = stamped.indexed.documents;
    abbreviations = stamped.indexed.abbreviations;
    lists = q.lists;
    marks = marks_of entries;
    watches = watches_of watches;
    kept = q.kept;
  };
  version = stamped.indexed.version;
  mark_versions = versions_of entries;
  stamps = stamped.stamps;
  standings = standings_of watches;
}

-- a path is answered by the documents, the abbreviations and the lists alone
module _ (says : Judgement) (what : Shown) (a b : State) (documents : a.documents ≡ b.documents) (abbreviations : a.abbreviations ≡ b.abbreviations) (lists : a.lists ≡ b.lists) where
  pub same-answer : (read : Result PathForm QueryFault) → answer_read says what a read ≡ answer_read says what b read
  same-answer (Err fault) = refl
  same-answer (Ok p) = λ i. answer_read says what (record { documents = documents i; abbreviations = abbreviations i; lists = lists i; marks = a.marks; watches = a.watches; kept = a.kept }) (Ok p)

pub same-price : (says : Judgement) (a b : Held) (read : Result PathForm QueryFault) → a.state.documents ≡ b.state.documents → a.state.abbreviations ≡ b.state.abbreviations
    → a.state.lists ≡ b.state.lists → a.version ≡ b.version → read_price says a read ≡ read_price says b read
same-price says a b (Err fault) documents abbreviations lists version = refl
same-price says a b (Ok p) documents abbreviations lists version =
    λ i. read_price says (record { state = record { documents = documents i; abbreviations = abbreviations i; lists = lists i; marks = a.state.marks; watches = a.state.watches; kept = a.state.kept }; version = version i; mark_versions = a.mark_versions; stamps = a.stamps; standings = a.standings }) (Ok p)

-- the plans of a path are kept where its reply isn't refused
pub kept-by-reply : (state : State) (q : Preparation) (text : List ℕ) (reply : Reply) → q ≡ kept_for text reply (prepared_of state)
    → replied (with_prepared_in state q) reply ≡ keep_plans text (state, reply)
kept-by-reply state q text reply is =
    ap (λ (x : Preparation). replied (with_prepared_in state x) reply) is
    ∙ elim (is_refusal reply) as (λ b. replied (with_prepared_in state (cond b (prepared_of state) (with_kept (kept_after text (path_read text) state.kept) (prepared_of state)))) reply
    ≡ replied (cond b state (record state { kept = kept_after text (path_read text) state.kept })) reply) [ true ↦ refl | false ↦ refl ]

-- a path that goes along a collection is answered as in a state of its documents and its abbreviations
module _ (says : Judgement) (what : Shown) (collection : Indexed) (state at : State) (text : List ℕ) (documents : collection.documents ≡ at.documents)
    (abbreviations : collection.abbreviations ≡ at.abbreviations) (lists : state.lists ≡ at.lists) where
  pub shown-along : (result : Result Reply Memory) (q : Preparation) → IfOk result (λ reply. reply ≡ answer says what (state_of collection state.lists) text)
      → IfOk result (λ reply. q ≡ kept_for text reply (prepared_of state))
      → IfOk result (λ reply. replied (with_prepared_in state q) reply ≡ keep_plans text (state, answer says what at text))
  shown-along (Ok reply) q is kept =
      kept-by-reply state q text reply kept
      ∙ ap (λ r. keep_plans text (state, r)) (is ∙ same-answer says what (state_of collection state.lists) at documents abbreviations lists (path_read text))
  shown-along (Err e) q is kept = tt

-- the same along the collection of a mark
module _ (says : Judgement) (held : Held) (entries : List Entry) (marks : held.state.marks ≡ marks_of entries) (versions : held.mark_versions ≡ versions_of entries)
    (name text : List ℕ) (collection : Indexed) (found : lookup (bytes_eq name) entries ≡ Some collection) where
  there : IsFound name entries collection
  there = found-mark name entries collection found

  named : mark_named name held.state.marks ≡ Some there.mark
  named = ap (mark_named name) marks ∙ there.named

  pub shown-at-mark : (result : Result Reply Memory) (q : Preparation) → IfOk result (λ reply. reply ≡ answer says Names (state_of collection held.state.lists) text)
      → IfOk result (λ reply. q ≡ kept_for text reply (prepared_of held.state))
      → IfOk result (λ reply. replied (with_prepared_in held.state q) reply ≡ shown_at says held.state name text (mark_named name held.state.marks))
  shown-at-mark result q is kept =
      subst (λ (o : Option Mark). IfOk result (λ reply. replied (with_prepared_in held.state q) reply ≡ shown_at says held.state name text o)) (sym named)
      (shown-along says Names collection held.state (at_mark held.state there.mark) text (sym there.documents) (sym there.abbreviations) refl result q is kept)

  pub price-at-mark : read_price says (held_of collection held.state.lists) (path_read text) ≡ price_at says held name text (mark_named name held.state.marks)
  price-at-mark =
      same-price says (held_of collection held.state.lists) (held_at held name there.mark) (path_read text) (sym there.documents) (sym there.abbreviations) refl
      (sym ((λ i. version_of_mark name (marks i) (versions i)) ∙ there.version))
      ∙ sym (ap (price_at says held name text) named)

-- there is no mark of that name
pub none-at : (says : Judgement) (state : State) (name text : List ℕ) → mark_named name state.marks ≡ None
    → (result : Result Reply Memory) → IfOk result (λ reply. reply ≡ Refused (refusal.NoSuchName name))
    → IfOk result (λ reply. replied state reply ≡ shown_at says state name text (mark_named name state.marks))
none-at says state name text none (Ok reply) is = ap (replied state) is ∙ sym (ap (shown_at says state name text) none)
none-at says state name text none (Err e) is = tt
