-- What a path with its plans answers in documents, and what watches keep of it when a command changes the documents or the lists.
use Rattle.std.proofs.Common.{◌≡◌, ◌∙◌, sym, ap, refl, subst, ℕ, suc, ◌≤◌, ◌<◌, Bool, true, false, cond, List, [], ◌∷◌, ◌++◌, length, map, arith}
use Rattle.std.specs.Prelude.{Option, Some, None, Result, Ok, Err, IfOk, OnOk, OnErr, nat_le, ⊤}
use Rattle.std.specs.List.{flat_map, sum_by, AllByRecursion}
use Rattle.std.specs.Str.{bytes_eq}
use Rattle.std.proofs.lemmas.List.{length-map}
use Rattle.document_store.specs.Documents.{added, dropped, edited_documents, edited_within, changed_roots, has_name, limit_of, loaded, or_limited, without, Edit}
use Rattle.document_store.specs.declared.fault.NotEdited.{NotEdited}
use Rattle.document_store.specs.declared.fault.NotLoaded.{NotLoaded}
use Rattle.document_store.specs.declared.fault.NotLoaded.TheVariants as unloaded
use Rattle.document_store.specs.declared.fault.NotRemoved.{NotRemoved}
use Rattle.document_store.specs.declared.fault.NotRemoved.TheVariants as unremoved
use Rattle.indexmap.specs.IndexMap.{insert_entry}
use Rattle.ft_base.specs.Limits.{max_documents}
use Rattle.ft_base.specs.declared.memory.Memory.{Memory}
use Rattle.kept_plans.specs.Kept.{all_used}
use Rattle.kept_plans.specs.Preparation.{Preparation, with_kept, with_new_lists}
use Rattle.path_grammar.specs.declared.path.PathRoot.{PathRoot}
use Rattle.path_grammar.specs.declared.path.PathRoot.TheVariants.{Collection, Doc}
use Rattle.path_meaning.specs.Collection.{Named, documents}
use Rattle.path_meaning.specs.Meaning.{selected}
use Rattle.path_meaning.specs.Tests.{selected_tests}
use Rattle.path_nodes.specs.Prices.{total_price}
use Rattle.path_subset.specs.Answer.{path_read}
use Rattle.path_subset.specs.Paths.{PathForm}
use Rattle.plain_tree.specs.Document.{Node}
use Rattle.plan_compiler.specs.NamedLists.{NamedLists}
use Rattle.plan_runs.specs.Judgement.{Judgement}
use Rattle.stamped_documents.specs.Stamped.{StampedDocuments}
use Rattle.stamped_documents.specs.Stamps.{renewed, restamped, without_stamp, AreStamps}
use Rattle.standing_queries.specs.Answers.{Answers}
use Rattle.reply_lines.specs.Replies.{is_refusal}
use Rattle.reply_lines.specs.declared.reply.Refusal.{Refusal}
use Rattle.reply_lines.specs.declared.reply.Reply.{Reply}
use Rattle.session_state.specs.declared.planned.PlannedPath.{PlannedPath}
use Rattle.session_state.specs.declared.shown.Shown.TheVariants.{Names}
use Rattle.session_state.specs.declared.watches.KeptWatch.{KeptWatch}
use Rattle.session_state.specs.DocumentReplies.{edit_refusal, replied_by}
use Rattle.session_state.specs.Edits.{edit_placed, leads_through, places_selected}
use Rattle.session_state.specs.Held.{Held}
use Rattle.session_state.specs.KeptTexts.{kept_after, kept_by}
use Rattle.session_state.specs.Lists.{with_prepared}
use Rattle.session_state.specs.ReadyPaths.{kept_for}
use Rattle.session_state.specs.PathPrices.{document_price, element_price, path_price, price_in}
use Rattle.session_state.specs.Paths.{lines_for, lines_of, selected_in, selections_of}
use Rattle.session_state.specs.PlannedPaths.{run_over, IsPlanOf}
use Rattle.session_state.specs.Standings.{answers_now, lines_in, lines_read, AreCurrent, AreKnown, IsCurrent}
use Rattle.session_state.specs.StampsAfter.{KeepOthers, KeepOthersRead}
use Rattle.session_state.specs.State.{State}
use Rattle.session_state.specs.steps.Chosen.{price_through}
use Rattle.session_state.specs.steps.Renewed.{with_renewed}
use Rattle.session_state.specs.steps.Turns.{planned_through}
use Rattle.session_state.proofs.ChosenLemmas.{through}
use Rattle.session_state.proofs.KnownLemmas.{below-more, below-now, known-edited, known-less, known-more, known-new, known-now, renewed-new, AtLeast, Below}
use Rattle.session_state.proofs.PathLemmas.{planned-as, priced-as}
use Rattle.session_state.proofs.WatchLemmas.{each-more, each-put, Entry}

-- ---- the lines of a path in each document

-- of documents through which a path doesn't lead there are no lines
pub through-lines : (root : PathRoot) (f : Named → List (List ℕ)) (ds : List Named) → flat_map (λ d. cond (leads_through root d.name) (f d) []) ds ≡ flat_map f (documents root ds)
through-lines Collection f ds = refl
through-lines (Doc name) f [] = refl
through-lines (Doc name) f (d ∷ ds) =
    let rest = through-lines (Doc name) f ds in
    elim (bytes_eq name d.name) as (λ b. cond b (f d) [] ++ flat_map (λ x. cond (bytes_eq name x.name) (f x) []) ds ≡ flat_map f (cond b (d ∷ documents (Doc name) ds) (documents (Doc name) ds)))
    [ true ↦ ap (λ ls. f d ++ ls) rest | false ↦ rest ]

pub lines-of-all : (says : Judgement) (state : State) (p : PathForm) → flat_map (lines_in says state.abbreviations state.lists p) state.documents ≡ lines_for says Names state p
lines-of-all says state p = through-lines p.path.root (λ d. lines_of Names d.name d.root (selected_in says state.abbreviations state.lists p d.root)) state.documents

pub price-of-all : (says : Judgement) (held : Held) (p : PathForm) → sum_by (document_price says held p) held.state.documents ≡ path_price says held p
price-of-all says held p = through p.path.root (λ d. price_in says held.state.abbreviations held.state.lists held.version p d.root) held.state.documents

-- plans select what the path selects, and cost what it costs
pub planned-through : (says : Judgement) (abbreviations : List (List ℕ)) (lists : NamedLists) (p : PathForm) (planned : PlannedPath) → IsPlanOf lists p planned
    → planned_through says abbreviations planned ≡ lines_in says abbreviations lists p
planned-through says abbreviations lists p planned plan = λ i d. cond (leads_through (plan.root i) d.name)
    (lines_of Names d.name d.root (selected (planned-as says abbreviations lists planned.plans.now (selections_of p) plan.plans i) (plan.steps i) d.root)) []

pub planned-price : (says : Judgement) (held : Held) (p : PathForm) (planned : PlannedPath) → IsPlanOf held.state.lists p planned
    → price_through says held.state.abbreviations planned (map (run_over held.version) planned.plans.now) ≡ document_price says held p
planned-price says held p planned plan =
    let lists = held.state.lists in
    λ i d. cond (leads_through (plan.root i) d.name)
    (total_price (element_price (priced-as lists held.version p planned.plans.now plan.plans i))
    (selected_tests (planned-as says held.state.abbreviations lists planned.plans.now (selections_of p) plan.plans i) (plan.steps i) d.root)) 0

-- what a text is read as answers what the path answers
pub read-lines : (says : Judgement) (abbreviations : List (List ℕ)) (lists : NamedLists) (text : List ℕ) (p : PathForm) → path_read text ≡ Ok p
    → lines_read says abbreviations lists (path_read text) ≡ lines_in says abbreviations lists p
read-lines says abbreviations lists text p read = ap (lines_read says abbreviations lists) read

-- ---- which documents there are after a command

-- a document that was loaded comes after the others
pub record IsLoaded (name : List ℕ) (before after : List Named) : Type 0 where
  pub document : Named
  pub more : after ≡ before ++ document ∷ []

pub load-accepted : (name : List ℕ) (before after : List Named) (document : Result Node NotLoaded) → (after, Ok tt) ≡ loaded before name document → IsLoaded name before after
load-accepted name before after document h = by (has_name name before) refl (nat_le max_documents (length before)) refl document h
  where
    by : (taken : Bool) → has_name name before ≡ taken → (no_room : Bool) → nat_le max_documents (length before) ≡ no_room → (d : Result Node NotLoaded) → (after, Ok tt) ≡ loaded before name d
        → IsLoaded name before after
    by true t no_room r d is =
        let other : loaded before name d ≡ (before, Err unloaded.NameTaken) =
        ap (λ b. cond b (before, Err unloaded.NameTaken) (cond (nat_le max_documents (length before)) (before, Err unloaded.Full) (added before name d))) t in
        let no : Ok tt ≡ Err unloaded.NameTaken = ap (λ (x : List Named × Result ⊤ NotLoaded). x.1) (is ∙ other) in
        let never : ⊥ = cc in absurd never
    by false t true r d is =
        let other : loaded before name d ≡ (before, Err unloaded.Full) =
        ap (λ b. cond b (before, Err unloaded.NameTaken) (cond (nat_le max_documents (length before)) (before, Err unloaded.Full) (added before name d))) t
        ∙ ap (λ b. cond b (before, Err unloaded.Full) (added before name d)) r in
        let no : Ok tt ≡ Err unloaded.Full = ap (λ (x : List Named × Result ⊤ NotLoaded). x.1) (is ∙ other) in
        let never : ⊥ = cc in absurd never
    by false t false r d is =
        last d (is ∙ (ap (λ b. cond b (before, Err unloaded.NameTaken) (cond (nat_le max_documents (length before)) (before, Err unloaded.Full) (added before name d))) t
        ∙ ap (λ b. cond b (before, Err unloaded.Full) (added before name d)) r))
      where
        last : (d : Result Node NotLoaded) → (after, Ok tt) ≡ added before name d → IsLoaded name before after
        last (Err why) eq =
            let no : Ok tt ≡ Err why = ap (λ (x : List Named × Result ⊤ NotLoaded). x.1) eq in
            let never : ⊥ = cc in absurd never
        last (Ok root) eq = record { document = record { name = name; root = root }; more = ap (λ (x : List Named × Result ⊤ NotLoaded). x.0) eq }

-- the document of the name is gone
pub drop-accepted : (name : List ℕ) (before after : List Named) → (after, Ok tt) ≡ dropped before name → after ≡ without name before
drop-accepted name before after h = by (has_name name before) refl
  where
    by : (there : Bool) → has_name name before ≡ there → after ≡ without name before
    by true t = ap (λ (x : List Named × Result ⊤ NotRemoved). x.0) (h ∙ ap (λ b. cond b (without name before, Ok tt) (before, Err unremoved.NoSuchName)) t)
    by false t =
        let no : Ok tt ≡ Err unremoved.NoSuchName = ap (λ (x : List Named × Result ⊤ NotRemoved). x.1) (h ∙ ap (λ b. cond b (without name before, Ok tt) (before, Err unremoved.NoSuchName)) t) in
        let never : ⊥ = cc in absurd never

-- the documents were edited
pub edit-accepted : (edit : Edit) (places : List (List (List ℕ))) (why : Option Refusal) (before after : List Named) (reply : Reply) → is_refusal reply ≡ false
    → (after, reply) ≡ edit_placed before edit places why → after ≡ edited_documents edit places before
unfolding edited_within
edit-accepted edit places (Some why) before after reply accepted h =
    let no : false ≡ true = sym accepted ∙ ap (λ (x : List Named × Reply). is_refusal x.1) h in
    let never : ⊥ = cc in absurd never
edit-accepted edit places None before after reply accepted h = by (limit_of (changed_roots edit places before)) h
  where
    by : (limit : Option NotEdited) → (after, reply) ≡ replied_by edit_refusal (or_limited before limit (edited_documents edit places before)) → after ≡ edited_documents edit places before
    by None is = ap (λ (x : List Named × Reply). x.0) is
    by (Some why) is =
        let no : false ≡ true = sym accepted ∙ ap (λ (x : List Named × Reply). is_refusal x.1) is in
        let never : ⊥ = cc in absurd never

-- ---- what watches keep

-- a watch stays current
module _ (says : Judgement) (lists : NamedLists) where
  -- a document was loaded
  pub current-loaded : (old new : StampedDocuments) (name : List ℕ) → IsLoaded name old.indexed.documents new.indexed.documents → new.indexed.abbreviations ≡ old.indexed.abbreviations
      → new.stamps ≡ old.stamps ++ old.next ∷ [] → old.next ≤ new.next → length old.stamps ≡ length old.indexed.documents
      → (w : KeptWatch) → IsCurrent says old lists w → IsCurrent says new lists w
  current-loaded old new name more abbreviations stamps next many w is =
      let lines : List (List ℕ) → Named → List (List ℕ) = λ ks. lines_read says ks lists (path_read w.path) in
      record {
        known = subst (λ ks. AreKnown w.standing (lines ks) new.stamps new.indexed.documents) (sym abbreviations)
            (subst (λ ss. AreKnown w.standing (lines old.indexed.abbreviations) ss new.indexed.documents) (sym stamps)
            (subst (λ ds. AreKnown w.standing (lines old.indexed.abbreviations) (old.stamps ++ old.next ∷ []) ds) (sym more.more)
            (known-more w.standing (lines old.indexed.abbreviations) old.next old.stamps old.indexed.documents more.document many is.below is.known)));
        below = below-more old.next new.next w.standing next is.below;
      }

  -- one is gone
  pub current-dropped : (old new : StampedDocuments) (name : List ℕ) → new.indexed.documents ≡ without name old.indexed.documents → new.indexed.abbreviations ≡ old.indexed.abbreviations
      → new.stamps ≡ without_stamp name old.indexed.documents old.stamps → new.next ≡ old.next
      → (w : KeptWatch) → IsCurrent says old lists w → IsCurrent says new lists w
  current-dropped old new name fewer abbreviations stamps next w is =
      let lines : List (List ℕ) → Named → List (List ℕ) = λ ks. lines_read says ks lists (path_read w.path) in
      record {
        known = subst (λ ks. AreKnown w.standing (lines ks) new.stamps new.indexed.documents) (sym abbreviations)
            (subst (λ ss. AreKnown w.standing (lines old.indexed.abbreviations) ss new.indexed.documents) (sym stamps)
            (subst (λ ds. AreKnown w.standing (lines old.indexed.abbreviations) (without_stamp name old.indexed.documents old.stamps) ds) (sym fewer)
            (known-less w.standing (lines old.indexed.abbreviations) name old.stamps old.indexed.documents is.known)));
        below = subst (λ n. AllByRecursion (λ a. a.0 < n) w.standing) (sym next) is.below;
      }

  -- some are edited
  pub current-edited : (old new : StampedDocuments) (edit : Edit) (places : List (List (List ℕ))) → new.indexed.documents ≡ edited_documents edit places old.indexed.documents
      → new.indexed.abbreviations ≡ old.indexed.abbreviations → new.stamps ≡ restamped old.next places old.stamps → old.next ≤ new.next
      → (w : KeptWatch) → IsCurrent says old lists w → IsCurrent says new lists w
  current-edited old new edit places edited abbreviations stamps next w is =
      let lines : List (List ℕ) → Named → List (List ℕ) = λ ks. lines_read says ks lists (path_read w.path) in
      record {
        known = subst (λ ks. AreKnown w.standing (lines ks) new.stamps new.indexed.documents) (sym abbreviations)
            (subst (λ ss. AreKnown w.standing (lines old.indexed.abbreviations) ss new.indexed.documents) (sym stamps)
            (subst (λ ds. AreKnown w.standing (lines old.indexed.abbreviations) (restamped old.next places old.stamps) ds) (sym edited)
            (known-edited w.standing (lines old.indexed.abbreviations) old.next old.next edit places old.stamps old.indexed.documents (omega arith) is.below is.known)));
        below = below-more old.next new.next w.standing next is.below;
      }

-- all stamps are new: nothing is known, whatever the documents, the abbreviations and the lists are
pub current-renewed : (says : Judgement) (lists more : NamedLists) (old new : StampedDocuments) → new.stamps ≡ renewed old.next old.stamps → old.next ≤ new.next
    → (w : KeptWatch) → IsCurrent says old lists w → IsCurrent says new more w
current-renewed says lists more old new stamps next w is = record {
  known = known-new w.standing (lines_read says new.indexed.abbreviations more (path_read w.path)) old.next new.stamps new.indexed.documents is.below
      (subst (AtLeast old.next) (sym stamps) (renewed-new old.next old.next old.stamps (omega arith)));
  below = below-more old.next new.next w.standing next is.below;
}

-- ---- after each kind of command

module _ (says : Judgement) (lists : NamedLists) (watches : List Entry) (old new : StampedDocuments) (current : AreCurrent says old lists watches) where
  unchanged : new ≡ old → AreCurrent says new lists watches
  unchanged same = subst (λ s. AreCurrent says s lists watches) (sym same) current

  pub loaded-current : (name : List ℕ) (document : Result Node NotLoaded) → length old.stamps ≡ length old.indexed.documents → (result : Result (Result ⊤ NotLoaded) Memory)
      → IfOk result (λ answer. (new.indexed.documents, answer) ≡ loaded old.indexed.documents name document) → new.indexed.abbreviations ≡ old.indexed.abbreviations
      → IfOk result (λ answer. OnOk answer (new.stamps ≡ old.stamps ++ old.next ∷ [])) → old.next ≤ new.next → OnErr result (new ≡ old) → IfOk result (λ answer. OnErr answer (new ≡ old))
      → AreCurrent says new lists watches
  loaded-current name document many (Ok (Ok done)) answer abbreviations stamps next err refused =
      each-more (IsCurrent says old lists) (IsCurrent says new lists)
      (current-loaded says lists old new name (load-accepted name old.indexed.documents new.indexed.documents document answer) abbreviations stamps next many) watches current
  loaded-current name document many (Ok (Err why)) answer abbreviations stamps next err refused = unchanged refused
  loaded-current name document many (Err e) answer abbreviations stamps next err refused = unchanged err

  pub dropped-current : (name : List ℕ) (result : Result (Result ⊤ NotRemoved) Memory)
      → IfOk result (λ answer. (new.indexed.documents, answer) ≡ dropped old.indexed.documents name) → new.indexed.abbreviations ≡ old.indexed.abbreviations
      → IfOk result (λ answer. OnOk answer (new.stamps ≡ without_stamp name old.indexed.documents old.stamps)) → new.next ≡ old.next → OnErr result (new ≡ old)
      → IfOk result (λ answer. OnErr answer (new ≡ old)) → AreCurrent says new lists watches
  dropped-current name (Ok (Ok done)) answer abbreviations stamps next err refused =
      each-more (IsCurrent says old lists) (IsCurrent says new lists)
      (current-dropped says lists old new name (drop-accepted name old.indexed.documents new.indexed.documents answer) abbreviations stamps next) watches current
  dropped-current name (Ok (Err why)) answer abbreviations stamps next err refused = unchanged refused
  dropped-current name (Err e) answer abbreviations stamps next err refused = unchanged err

  pub edited-current : (edit : Edit) (places : List (List (List ℕ))) (why : Option Refusal) (result : Result Reply Memory)
      → IfOk result (λ reply. (new.indexed.documents, reply) ≡ edit_placed old.indexed.documents edit places why) → new.indexed.abbreviations ≡ old.indexed.abbreviations
      → IfOk result (λ reply. is_refusal reply ≡ false → new.stamps ≡ restamped old.next places old.stamps) → old.next ≤ new.next → OnErr result (new ≡ old)
      → IfOk result (λ reply. is_refusal reply ≡ true → new ≡ old) → AreCurrent says new lists watches
  edited-current edit places why (Ok reply) answer abbreviations stamps next err refused = by (is_refusal reply) refl
    where
      by : (test : Bool) → is_refusal reply ≡ test → AreCurrent says new lists watches
      by true is = unchanged (refused is)
      by false is =
          each-more (IsCurrent says old lists) (IsCurrent says new lists)
          (current-edited says lists old new edit places (edit-accepted edit places why old.indexed.documents new.indexed.documents reply is answer) abbreviations (stamps is) next) watches current
  edited-current edit places why (Err e) answer abbreviations stamps next err refused = unchanged err

  pub abbreviated-current : (result : Result ⊤ Memory) → OnOk result (new.stamps ≡ renewed old.next old.stamps) → old.next ≤ new.next → OnErr result (new ≡ old) → AreCurrent says new lists watches
  abbreviated-current (Ok done) stamps next err =
      each-more (IsCurrent says old lists) (IsCurrent says new lists) (current-renewed says lists lists old new stamps next) watches current
  abbreviated-current (Err e) stamps next err = unchanged err

-- a list came, or it was refused
pub lists-current : (says : Judgement) (watches : List Entry) (old new : StampedDocuments) (before after : Preparation) → AreCurrent says old before.lists watches
    → (result : Result Reply Memory) (put : NamedLists × Reply) → IfOk result (λ reply. (after, reply) ≡ with_prepared before put)
    → IfOk result (λ reply. new ≡ cond (is_refusal reply) old (with_renewed old)) → OnErr result (after ≡ before) → OnErr result (new ≡ old)
    → AreCurrent says new after.lists watches
lists-current says watches old new before after current (Ok reply) (lists, told) answer stamped err same = by (is_refusal reply) refl
  where
    is-told : reply ≡ told
    is-told = ap (λ (x : Preparation × Reply). x.1) answer

    by : (test : Bool) → is_refusal reply ≡ test → AreCurrent says new after.lists watches
    by true is =
        let kept : after ≡ before = ap (λ (x : Preparation × Reply). x.0) answer ∙ ap (λ t. cond t before (with_new_lists lists before)) (ap is_refusal (sym is-told) ∙ is) in
        let stays : new ≡ old = stamped ∙ ap (λ t. cond t old (with_renewed old)) is in
        subst (λ (q : Preparation). AreCurrent says new q.lists watches) (sym kept) (subst (λ s. AreCurrent says s before.lists watches) (sym stays) current)
    by false is =
        let gone : new ≡ with_renewed old = stamped ∙ ap (λ t. cond t old (with_renewed old)) is in
        subst (λ s. AreCurrent says s after.lists watches) (sym gone)
        (each-more (IsCurrent says old before.lists) (IsCurrent says (with_renewed old) after.lists)
        (current-renewed says before.lists after.lists old (with_renewed old) refl (omega arith)) watches current)
lists-current says watches old new before after current (Err e) put answer stamped err same =
    subst (λ (q : Preparation). AreCurrent says new q.lists watches) (sym err) (subst (λ s. AreCurrent says s before.lists watches) (sym same) current)

-- plans that are kept leave the lists
pub kept-lists : (text : List ℕ) (before after : Preparation) (result : Result Reply Memory) → IfOk result (λ reply. after ≡ kept_for text reply before) → OnErr result (after ≡ before)
    → after.lists ≡ before.lists
kept-lists text before after (Ok reply) kept err =
    ap (λ (q : Preparation). q.lists) kept
    ∙ elim (is_refusal reply) as (λ t. (cond t before (with_kept (kept_after text (path_read text) before.kept) before)).lists ≡ before.lists) [ true ↦ refl | false ↦ refl ]
kept-lists text before after (Err e) kept err = ap (λ (q : Preparation). q.lists) err

pub kept-by-lists : (texts : List (List ℕ)) (before after : Preparation) (result : Result Reply Memory) → IfOk result (λ reply. after ≡ kept_by texts reply before) → OnErr result (after ≡ before)
    → after.lists ≡ before.lists
kept-by-lists texts before after (Ok reply) kept err =
    ap (λ (q : Preparation). q.lists) kept
    ∙ elim (is_refusal reply) as (λ t. (cond t before (with_kept (all_used texts before.kept) before)).lists ≡ before.lists) [ true ↦ refl | false ↦ refl ]
kept-by-lists texts before after (Err e) kept err = ap (λ (q : Preparation). q.lists) err

-- a watch that keeps what its path answers now is current
pub now-current : (says : Judgement) (stamped : StampedDocuments) (lists : NamedLists) (w : KeptWatch)
    → w.standing ≡ answers_now (lines_read says stamped.indexed.abbreviations lists (path_read w.path)) stamped.stamps stamped.indexed.documents
    → AreStamps (length stamped.indexed.documents) stamped.next stamped.stamps → IsCurrent says stamped lists w
now-current says stamped lists w is stamps =
    let lines : Named → List (List ℕ) = lines_read says stamped.indexed.abbreviations lists (path_read w.path) in
    record {
      known = subst (λ (a : Answers). AreKnown a lines stamped.stamps stamped.indexed.documents) (sym is) (known-now lines stamped.stamps stamped.indexed.documents stamps.distinct);
      below = subst (Below stamped.next) (sym is) (below-now lines stamped.next stamped.stamps stamped.indexed.documents stamps.below);
    }

-- what holds in any case holds of an accepted command
pub accepted-so : {X : Type 0} (result : Result Reply Memory) → X → IfOk result (λ reply. is_refusal reply ≡ false → X)
accepted-so (Ok reply) x = λ _. x
accepted-so (Err e) x = tt

pub accepted-when : {X Y : Type 0} (result : Result Reply Memory) → (X → Y) → OnOk result X → IfOk result (λ reply. is_refusal reply ≡ false → Y)
accepted-when (Ok reply) so x = λ _. so x
accepted-when (Err e) so x = tt

-- a watch is put among the others, or all stay
pub set-current : (says : Judgement) (stamped : StampedDocuments) (lists : NamedLists) (name : List ℕ) (w : KeptWatch) (before after : List Entry) (result : Result Reply Memory)
    → OnOk result (after ≡ insert_entry bytes_eq before name w) → OnErr result (after ≡ before) → AreCurrent says stamped lists before → IsCurrent says stamped lists w
    → AreCurrent says stamped lists after
set-current says stamped lists name w before after (Ok reply) put same current one =
    subst (λ (es : List Entry). AreCurrent says stamped lists es) (sym put) (each-put (IsCurrent says stamped lists) name w before current one)
set-current says stamped lists name w before after (Err e) put same current one = subst (λ (es : List Entry). AreCurrent says stamped lists es) (sym same) current

-- documents of which nothing is edited keep their stamps
restamped-keeps : (n : ℕ) (places : List (List (List ℕ))) (stamps : List ℕ) → length places ≡ length stamps → KeepOthers places stamps (restamped n places stamps)
restamped-keeps n [] [] same = tt
restamped-keeps n [] (s ∷ stamps) same = absurd (omega (arith, same))
restamped-keeps n (p ∷ places) [] same = absurd (omega (arith, same))
restamped-keeps n (p ∷ places) (s ∷ stamps) same = ((λ none. ap (λ t. cond t s n) none), restamped-keeps (suc n) places stamps (omega (arith, same)))

pub keeps-others : (says : Judgement) (state : State) (text : List ℕ) (p : PathForm) → path_read text ≡ Ok p → {places : List (List (List ℕ))} → places ≡ places_selected says state p
    → (next : ℕ) (before after : List ℕ) → length before ≡ length state.documents → (result : Result Reply Memory) → IfOk result (λ reply. is_refusal reply ≡ false → after ≡ restamped next places before)
    → IfOk result (λ reply. is_refusal reply ≡ false → KeepOthersRead says state (path_read text) before after)
keeps-others says state text p read is next before after many (Ok reply) stamps = λ accepted.
    let selected = places_selected says state p in
    let as_many : length selected ≡ length before = length-map state.documents _ ∙ sym many in
    subst (λ r. KeepOthersRead says state r before after) (sym read)
    (subst (λ (ss : List ℕ). KeepOthers selected before ss) (sym (stamps accepted ∙ ap (λ ps. restamped next ps before) is)) (restamped-keeps next selected before as_many))
keeps-others says state text p read is next before after many (Err e) stamps = tt
