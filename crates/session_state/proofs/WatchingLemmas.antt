-- What the commands of watches leave and reply, once their path is read and all that it names is there, or is refused.
use Rattle.std.proofs.Common.{◌≡◌, ◌∙◌, sym, ap, refl, subst, ℕ, false, List, [], ◌∷◌, ◌++◌, length}
use Rattle.std.specs.Prelude.{Some, None, Result, Ok, Err, IfOk, OnOk}
use Rattle.std.specs.List.{flat_map}
use Rattle.std.specs.Map.{lookup}
use Rattle.std.specs.Str.{bytes_eq}
use Rattle.std.proofs.lemmas.List.{map_push}
use Rattle.indexmap.specs.IndexMap.{insert_entry}
use Rattle.ft_base.specs.declared.fault.QueryFault.{QueryFault}
use Rattle.ft_base.specs.declared.memory.Memory.{Memory}
use Rattle.kept_plans.specs.Kept.{all_used}
use Rattle.kept_plans.specs.Preparation.{Preparation}
use Rattle.path_meaning.specs.Collection.{Named}
use Rattle.path_subset.specs.Answer.{path_read}
use Rattle.path_subset.specs.Paths.{PathForm}
use Rattle.plan_compiler.specs.NamedLists.{NamedLists}
use Rattle.plan_runs.specs.Judgement.{Judgement}
use Rattle.stamped_documents.specs.Stamped.{StampedDocuments}
use Rattle.stamped_documents.specs.Stamps.{AreStamps}
use Rattle.reply_lines.specs.declared.reply.Refusal.{Refusal}
use Rattle.reply_lines.specs.declared.reply.Refusal.TheVariants as refusal
use Rattle.reply_lines.specs.declared.reply.Reply.{Reply}
use Rattle.reply_lines.specs.declared.reply.Reply.TheVariants as reply
use Rattle.reply_lines.specs.declared.reply.Reply.TheVariants.{Done, Refused}
use Rattle.standing_queries.specs.Answers.{all_lines, Answers}
use Rattle.standing_queries.specs.Changes.{changes}
use Rattle.session_state.specs.declared.shown.Shown.TheVariants.{Names}
use Rattle.session_state.specs.declared.watches.KeptWatch.{KeptWatch}
use Rattle.session_state.specs.declared.watching.Again.{Again}
use Rattle.session_state.specs.declared.watching.Again.TheVariants as again
use Rattle.session_state.specs.Held.{Held}
use Rattle.session_state.specs.KeptTexts.{keep_plans, kept_after, kept_by}
use Rattle.session_state.specs.KeptWatches.{kept_watch, standings_of, to_watch, watches_of}
use Rattle.session_state.specs.PathPrices.{is_cheap_path, is_cheap_watch, price_of_changes, price_of_unknown}
use Rattle.session_state.specs.Paths.{answer, answer_read, lines_for, unless_refused}
use Rattle.session_state.specs.ReadyPaths.{path_refusal}
use Rattle.session_state.specs.Standings.{answers_now, answers_to, lines_read, standing_of, standings_changed, with_standing, IsCurrent}
use Rattle.session_state.specs.State.{State}
use Rattle.session_state.specs.StateView.{prepared_of}
use Rattle.session_state.specs.Watches.{change_answered, change_found, changed, has_watch, watch_answered, watch_named, watch_refusal, watch_set, watched, with_lines, with_watches}
use Rattle.session_state.specs.steps.Again.{held_with, watch_again, AreAnswers, IsAgain}
use Rattle.session_state.proofs.EditLemmas.{kept-state, replied, with_prepared_in}
use Rattle.session_state.proofs.KnownLemmas.{lines-now}
use Rattle.session_state.proofs.PathLemmas.{refused-answer}
use Rattle.session_state.proofs.MarkLemmas as marked
use Rattle.session_state.proofs.StandingLemmas.{lines-of-all, now-current}
use Rattle.session_state.proofs.StateLemmas.{held_as}
use Rattle.session_state.proofs.WatchLemmas.{found-watch, none-refused, put-lines, put-new, put-standing, Entry, IsFound}

-- a path that isn't refused is answered by the lines of all documents
pub answer-found : (says : Judgement) (state : State) (read : Result PathForm QueryFault) → path_refusal state.documents state.lists read ≡ None
    → answer_read says Names state read ≡ reply.Nodes (flat_map (lines_read says state.abbreviations state.lists read) state.documents)
answer-found says state (Err fault) h = let no : ⊥ = cc in absurd no
answer-found says state (Ok p) h = ap (λ o. unless_refused o (reply.Nodes (lines_for says Names state p))) h ∙ ap reply.Nodes (sym (lines-of-all says state p))

-- these are the lines of what it answers now
pub answer-now : (says : Judgement) (held : Held) (path : List ℕ) → length held.stamps ≡ length held.state.documents → path_refusal held.state.documents held.state.lists (path_read path) ≡ None
    → answer says Names held.state path ≡ reply.Nodes (all_lines (answers_to says held path))
answer-now says held path many found =
    answer-found says held.state (path_read path) found
    ∙ ap reply.Nodes (sym (lines-now (lines_read says held.state.abbreviations held.state.lists (path_read path)) held.stamps held.state.documents many))

-- ---- a watch is asked again

module _ (says : Judgement) (held : Held) (old : KeptWatch) (found : path_refusal held.state.documents held.state.lists (path_read old.path) ≡ None) (lines : Named → List (List ℕ))
    (same : lines ≡ lines_read says held.state.abbreviations held.state.lists (path_read old.path)) where
  pub again-answers : (result : Result Again Memory)
      → IfOk result (λ a. a ≡ again.Answers (kept_watch old.path (answers_now lines held.stamps held.state.documents)) (changes (all_lines old.standing) (all_lines (answers_now lines held.stamps held.state.documents))))
      → IfOk result (IsAgain says held old)
  again-answers (Ok a) is =
      subst (IsAgain says held old) (sym is)
      (record {
        found = found;
        watch = ap (λ ls. kept_watch old.path (answers_now ls held.stamps held.state.documents)) same;
        lines = ap (λ ls. changes (all_lines old.standing) (all_lines (answers_now ls held.stamps held.state.documents))) same;
      })
  again-answers (Err e) is = tt

module _ (says : Judgement) (held : Held) (entries : List Entry) (watches : held.state.watches ≡ watches_of entries) (standings : held.standings ≡ standings_of entries)
    (many : length held.stamps ≡ length held.state.documents) (name : List ℕ) where
  -- ---- a watch is set

  module _ (path : List ℕ) (new : watch_refusal name held.state.watches ≡ None) (found : path_refusal held.state.documents held.state.lists (path_read path) ≡ None) where
    absent : has_watch name (watches_of entries) ≡ false
    absent = none-refused entries name (ap (watch_refusal name) (sym watches) ∙ new)

    abbrev set : KeptWatch
    set = kept_watch path (answers_to says held path)

    pub put-watches : watches_of (insert_entry bytes_eq entries name (kept_watch path (answers_to says held path)))
        ≡ held.state.watches ++ record { name = name; path = path; lines = all_lines (answers_to says held path) } ∷ []
    put-watches =
        ap watches_of (put-new name set entries absent)
        ∙ (map_push to_watch entries (name, set) ∙ ap (λ ws. ws ++ to_watch (name, set) ∷ []) (sym watches))

    pub put-standings : standings_of (insert_entry bytes_eq entries name (kept_watch path (answers_to says held path))) ≡ held.standings ++ answers_to says held path ∷ []
    put-standings =
        ap standings_of (put-new name set entries absent)
        ∙ (map_push (λ (e : Entry). e.1.standing) entries (name, set) ∙ ap (λ ss. ss ++ answers_to says held path ∷ []) (sym standings))

    set-by : watched says held.state name path
        ≡ keep_plans path (with_watches (held.state.watches ++ record { name = name; path = path; lines = all_lines (answers_to says held path) } ∷ []) held.state, Done)
    set-by =
        ap (watch_set says held.state name path) new
        ∙ ap (λ r. keep_plans path (watch_answered held.state name path r)) (answer-now says held path many found)

    pub watch-replied : (result : Result Reply Memory) (after : List Entry) (q : Preparation) (texts : List (List ℕ))
        → kept_after path (path_read path) held.state.kept ≡ all_used texts held.state.kept
        → IfOk result (λ r. r ≡ Done) → OnOk result (after ≡ insert_entry bytes_eq entries name (kept_watch path (answers_to says held path)))
        → IfOk result (λ r. q ≡ kept_by texts r (prepared_of held.state))
        → IfOk result (λ r. replied (with_prepared_in (with_watches (watches_of after) held.state) q) r ≡ watched says held.state name path)
    watch-replied (Ok r) after q texts used done put kept =
        kept-state (with_watches (watches_of after) held.state) q path texts r used kept
        ∙ (ap (λ ws. keep_plans path (with_watches ws held.state, r)) (ap watches_of put ∙ put-watches)
        ∙ (ap (λ x. keep_plans path (with_watches (held.state.watches ++ record { name = name; path = path; lines = all_lines (answers_to says held path) } ∷ []) held.state, x)) done
        ∙ sym set-by))
    watch-replied (Err e) after q texts used done put kept = tt

  -- ---- its changes are told

  module _ (old : KeptWatch) (is : lookup (bytes_eq name) entries ≡ Some old) where
    pub there : IsFound name entries old
    there = found-watch name entries old is

    pub watch-there : watch_named name held.state.watches ≡ Some there.watch
    watch-there = ap (watch_named name) watches ∙ there.named

    asked : answer says Names held.state there.watch.path ≡ answer says Names held.state old.path
    asked = ap (answer says Names held.state) there.path

    told : (r : Reply) → answer says Names held.state old.path ≡ r → changed says held.state name ≡ change_answered held.state name there.watch r
    told r answered =
        ap (change_found says held.state name) watch-there
        ∙ ap (change_answered held.state name there.watch) (asked ∙ answered)

    module _ (new : KeptWatch) (lines : List (List ℕ)) (answers : AreAnswers says held old new lines) where
      pub changed-standings : standings_of (insert_entry bytes_eq entries name new) ≡ standings_changed says held name (watch_named name held.state.watches)
      changed-standings =
          put-standing name new entries old is
          ∙ ((λ i. with_standing name (ap (λ (w : KeptWatch). w.standing) answers.watch i) (sym watches i) (sym standings i))
          ∙ (ap (λ p. with_standing name (answers_to says held p) held.state.watches held.standings) (sym there.path)
          ∙ sym (ap (standings_changed says held name) watch-there)))

      pub changed-replied : replied (with_watches (watches_of (insert_entry bytes_eq entries name new)) held.state) (reply.Changed lines) ≡ changed says held.state name
      changed-replied =
          let now = all_lines (answers_to says held old.path) in
          let kept : watches_of (insert_entry bytes_eq entries name new) ≡ with_lines name now held.state.watches =
          put-lines name new entries old is (ap (λ (w : KeptWatch). w.path) answers.watch)
          ∙ (λ i. with_lines name (ap (λ (w : KeptWatch). all_lines w.standing) answers.watch i) (sym watches i)) in
          let since : lines ≡ changes there.watch.lines now = answers.lines ∙ ap (λ ls. changes ls now) (sym there.lines) in
          (λ i. replied (with_watches (kept i) held.state) (reply.Changed (since i)))
          ∙ sym (told (reply.Nodes now) (answer-now says held old.path many answers.found))

      pub put-told : (result : Result Reply Memory) (after : List Entry) → IfOk result (λ r. r ≡ reply.Changed lines) → OnOk result (after ≡ insert_entry bytes_eq entries name new)
          → IfOk result (λ r. replied (with_watches (watches_of after) held.state) r ≡ changed says held.state name)
      put-told (Ok r) after is-told put = (λ i. replied (with_watches (watches_of (put i)) held.state) (is-told i)) ∙ changed-replied
      put-told (Err e) after is-told put = tt

    -- what it costs to ask it
    pub changes-price : price_of_unknown says held old.standing (path_read old.path) ≡ price_of_changes says held name (watch_named name held.state.watches)
    changes-price =
        sym (λ i. price_of_unknown says held (((λ j. standing_of name (watches j) (standings j)) ∙ there.standing) i) (path_read (there.path i)))
        ∙ sym (ap (price_of_changes says held name) watch-there)

    pub changes-cheap : is_cheap_watch held.state.lists (watch_named name held.state.watches) ≡ is_cheap_path held.state.lists (path_read old.path)
    changes-cheap = ap (is_cheap_watch held.state.lists) watch-there ∙ ap (λ t. is_cheap_path held.state.lists (path_read t)) there.path

    -- or its path is refused
    pub changed-refused : (why : Refusal) → path_refusal held.state.documents held.state.lists (path_read old.path) ≡ Some why → replied held.state (Refused why) ≡ changed says held.state name
    changed-refused why refused = sym (told (Refused why) (refused-answer says Names held.state why (path_read old.path) refused))

-- what is asked again costs the same in a session with marks and watches
pub unknown-held : (says : Judgement) (stamped : StampedDocuments) (q : Preparation) (marks : List marked.Entry) (watches : List Entry) (kept : Answers) (read : Result PathForm QueryFault)
    → price_of_unknown says (held_with stamped q.lists) kept read ≡ price_of_unknown says (held_as stamped q marks watches) kept read
unknown-held says stamped q marks watches kept (Err fault) = refl
unknown-held says stamped q marks watches kept (Ok p) = refl

-- a watch that keeps what its path answers now is current
pub again-current : (says : Judgement) (stamped : StampedDocuments) (lists : NamedLists) (old new : KeptWatch) (lines : List (List ℕ)) → AreAnswers says (held_with stamped lists) old new lines
    → AreStamps (length stamped.indexed.documents) stamped.next stamped.stamps → IsCurrent says stamped lists new
again-current says stamped lists old new lines answers stamps =
    subst (IsCurrent says stamped lists) (sym answers.watch) (now-current says stamped lists (watch_again says (held_with stamped lists) old) refl stamps)

pub as-held : (says : Judgement) (stamped : StampedDocuments) (q : Preparation) (marks : List marked.Entry) (watches : List Entry) (old new : KeptWatch) (lines : List (List ℕ))
    → AreAnswers says (held_with stamped q.lists) old new lines → AreAnswers says (held_as stamped q marks watches) old new lines
as-held says stamped q marks watches old new lines answers = record { found = answers.found; watch = answers.watch; lines = answers.lines }

-- there is no watch of that name
pub none-changed : (says : Judgement) (state : State) (name : List ℕ) → watch_named name state.watches ≡ None → (result : Result Reply Memory)
    → IfOk result (λ r. r ≡ Refused (refusal.NoSuchName name)) → IfOk result (λ r. replied state r ≡ changed says state name)
none-changed says state name none (Ok r) is = ap (replied state) is ∙ sym (ap (change_found says state name) none)
none-changed says state name none (Err e) is = tt
