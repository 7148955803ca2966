-- Which elements plans select, and when a path is refused.
use Rattle.std.proofs.Common.{◌≡◌, ◌∙◌, sym, ap, ap₂, refl, ℕ, zero, suc, ◌+◌, ◌<◌, Bool, cond, List, [], ◌∷◌, ◌++◌, ◌^◌, length, map, take, drop, get_or, arith}
use Rattle.std.specs.Prelude.{Option, Some, None, Result, Ok, Err, flat_map, sum_by}
use Rattle.std.specs.Option.{option_or}
use Rattle.std.proofs.lemmas.List.{at_drop_more, get_or-map, length-map, map_more}
use Rattle.std.proofs.lemmas.List.Elements.{All-map}
use Rattle.std.proofs.lemmas.List.Sums.{sum_by-cons}
use Rattle.std.proofs.lemmas.Option.{same_Some}
use Rattle.std.proofs.lemmas.Simd.{map-map}
use Rattle.element_lines.specs.Lines.{element_line, printed_line}
use Rattle.ft_base.specs.Selection.{Form}
use Rattle.index_meaning.specs.Documents as indexed
use Rattle.kept_plans.specs.PlanOf.{PlanOf, plan_of}
use Rattle.kept_plans.specs.Preparation.{CanKeep, Preparation, texts_of}
use Rattle.ordered_tree.specs.Numbered.{Numbered, plain}
use Rattle.ft_base.specs.declared.fault.QueryFault.{QueryFault}
use Rattle.ft_base.specs.declared.ids.NodeRef.{NodeRef}
use Rattle.path_meaning.specs.Collection.{Named, documents}
use Rattle.path_meaning.specs.Elements.{Element}
use Rattle.path_grammar.specs.Form.{Steps, no_steps, step_then, Step, step, Predicates, no_predicates, predicate_then, Predicate, number, holds, Condition, or_of, and_of, not_of, attribute, exists, contains, Conditions, no_conditions, condition_then, Paths, no_paths, path_then}
use Rattle.path_grammar.specs.Form as form
use Rattle.path_grammar.specs.View as view
use Rattle.path_grammar.specs.declared.path.PathRoot.{PathRoot}
use Rattle.path_grammar.specs.declared.path.PathRoot.TheVariants.{Doc}
use Rattle.path_meaning.specs.Meaning.{selected}
use Rattle.path_meaning.specs.Tests.{selected_tests}
use Rattle.path_nodes.specs.Asked.{OfEach, OfStep, OfPredicates, OfPredicate, OfCondition, OfConditions, OfPaths}
use Rattle.path_nodes.specs.Prices.{total_price}
use Rattle.path_nodes.specs.References.{element_of}
use Rattle.path_subset.specs.Paths.{PathForm, PlacedForm, read_form}
use Rattle.path_subset.specs.declared.path.Extent.{Extent}
use Rattle.plan_compiler.specs.Missing as missing
use Rattle.plan_compiler.specs.Missing.{first_missing, missing_among, names, IsMissing}
use Rattle.plan_runs.specs.Judgement.{Judgement}
use Rattle.plan_compiler.specs.Lexicon.{lexicon}
use Rattle.plan_compiler.specs.NamedLists.{NamedLists}
use Rattle.plan_runs.specs.RunPrice.{price}
use Rattle.plan_runs.specs.RunMeaning.{RunMeaning}
use Rattle.plan_compiler.specs.declared.fault.CompileFault.{CompileFault}
use Rattle.plan_compiler.specs.declared.fault.CompileFault.TheVariants as Fault
use Rattle.session_state.specs.Paths.{answer_read, lines_for, lines_of, missing_document, missing_list, missing_refusal, refusal_found, reply_with, satisfies, selections_of, unless_refused}
use Rattle.session_state.specs.PathPrices.{element_price, path_price, selection_prices}
use Rattle.session_state.specs.Held.{Held}
use Rattle.session_state.specs.KeptTexts.{selection_texts, text_at}
use Rattle.session_state.specs.PlannedPaths.{is_meant, meant, plan_under, planned_lines, planned_price, plans_under, prices_in, run_meant, run_over, run_price, under, IsPlanOf}
use Rattle.session_state.specs.ReadyPaths.{path_refusal, IsReadyPath}
use Rattle.session_state.specs.declared.paths.ReadyPath.{ReadyPath}
use Rattle.session_state.specs.State.{State}
use Rattle.document_store.specs.Documents.{has_name}
use Rattle.reply_lines.specs.declared.reply.Refusal.{Refusal}
use Rattle.reply_lines.specs.declared.reply.Refusal.TheVariants as refusal
use Rattle.reply_lines.specs.declared.reply.Reply.TheVariants.{Refused}
use Rattle.session_state.specs.declared.planned.PlannedPath.{PlannedPath}
use Rattle.session_state.specs.declared.shown.Shown.{Shown}
use Rattle.session_state.specs.declared.shown.Shown.TheVariants.{Names, Texts}

-- the document with which a path begins is there or missing
pub missing-document : (root : PathRoot) (name : List ℕ) (documents : List Named) (there : Bool) → root ≡ Doc name → has_name name documents ≡ there → missing_document root documents ≡ cond there None (Some name)
missing-document root name documents there is has = ap (λ r. missing_document r documents) is ∙ ap (λ t. cond t None (Some name)) has

-- what each plan says, its selection says
pub planned-as : (says : Judgement) (abbreviations : List (List ℕ)) (lists : NamedLists) (plans : List PlanOf) (forms : List Form) → map meant plans ≡ map (under lists) forms
    → is_meant says abbreviations (map meant plans) ≡ satisfies says abbreviations lists forms
unfolding is_meant satisfies
planned-as says abbreviations lists plans forms same = ap (is_meant says abbreviations) same ∙ (λ i k ignored e. by forms k ignored e i)
  where
    by : (forms : List Form) (k : ℕ) (ignored : List Element) (e : Element)
        → is_meant says abbreviations (map (under lists) forms) k ignored e ≡ satisfies says abbreviations lists forms k ignored e
    by [] k ignored e = refl
    by (form ∷ forms) zero ignored e = refl
    by (form ∷ forms) (suc k) ignored e = by forms k ignored e

-- the runs of plans
pub runs-meant : (version : List indexed.Numbered) (plans : List PlanOf) → map run_meant (map (run_over version) plans) ≡ map meant plans
runs-meant version plans = map-map run_meant (run_over version) plans

-- what holds of each number for which steps ask, and is more than something else
mutual
  unfolding OfEach OfStep OfPredicates OfPredicate OfCondition OfConditions OfPaths

  pub asked-weaker : (P R : ℕ → Type 0) → ((k : ℕ) → P k → R k) → (s : Steps) → OfEach P s → OfEach R s
  asked-weaker P R w no_steps h = tt
  asked-weaker P R w (step_then s rest) h = (step-weaker P R w s h.0, asked-weaker P R w rest h.1)

  step-weaker : (P R : ℕ → Type 0) → ((k : ℕ) → P k → R k) → (s : Step) → OfStep P s → OfStep R s
  step-weaker P R w (step deep test ps) h = predicates-weaker P R w ps h

  predicates-weaker : (P R : ℕ → Type 0) → ((k : ℕ) → P k → R k) → (ps : Predicates) → OfPredicates P ps → OfPredicates R ps
  predicates-weaker P R w no_predicates h = tt
  predicates-weaker P R w (predicate_then p rest) h = (predicate-weaker P R w p h.0, predicates-weaker P R w rest h.1)

  predicate-weaker : (P R : ℕ → Type 0) → ((k : ℕ) → P k → R k) → (p : Predicate) → OfPredicate P p → OfPredicate R p
  predicate-weaker P R w (number k) h = tt
  predicate-weaker P R w (holds c) h = condition-weaker P R w c h

  condition-weaker : (P R : ℕ → Type 0) → ((k : ℕ) → P k → R k) → (c : Condition) → OfCondition P c → OfCondition R c
  condition-weaker P R w (or_of cs) h = conditions-weaker P R w cs h
  condition-weaker P R w (and_of cs) h = conditions-weaker P R w cs h
  condition-weaker P R w (not_of c) h = condition-weaker P R w c h
  condition-weaker P R w (attribute name value) h = tt
  condition-weaker P R w (exists s) h = asked-weaker P R w s h
  condition-weaker P R w (contains s k paths) h = (asked-weaker P R w s h.0, w k h.1, paths-weaker P R w paths h.2)

  conditions-weaker : (P R : ℕ → Type 0) → ((k : ℕ) → P k → R k) → (cs : Conditions) → OfConditions P cs → OfConditions R cs
  conditions-weaker P R w no_conditions h = tt
  conditions-weaker P R w (condition_then c rest) h = (condition-weaker P R w c h.0, conditions-weaker P R w rest h.1)

  paths-weaker : (P R : ℕ → Type 0) → ((k : ℕ) → P k → R k) → (paths : Paths) → OfPaths P paths → OfPaths R paths
  paths-weaker P R w no_paths h = tt
  paths-weaker P R w (path_then path rest) h = (asked-weaker P R w path h.0, paths-weaker P R w rest h.1)

-- a selection among others, and the lists that it names
module _ (forms : List Form) (k : ℕ) (form : Form) (within : k < length forms) (is : form ≡ get_or forms k form) where
  pub missing-more : (lists : NamedLists)
      → ((all others : List missing.Named) → missing_among lists (all ++ others) ≡ option_or (missing_among lists all) (missing_among lists others))
      → missing_list lists (drop k forms) ≡ option_or (first_missing lists form) (missing_list lists (drop (k + 1) forms))
  missing-more lists among =
      at_drop_more (missing_list lists) forms k form within
      ∙ (ap (λ f. missing_list lists (f ∷ drop (k + 1) forms)) (sym is) ∙ among (names form) (flat_map names (drop (k + 1) forms)))

-- the plan of one selection more
module _ (lists : NamedLists) (text : List ℕ) (all : List PlacedForm) (k : ℕ) (form : Form) (extent : Extent) (within : k < length all)
    (form_is : form ≡ get_or (map (λ s. s.form) all) k form) (extent_is : extent ≡ get_or (map (λ s. s.extent) all) k extent) where
  abbrev placed : PlacedForm
  placed = record { form = form; extent = extent }

  is_placed : get_or all k placed ≡ placed
  is_placed =
      let f : (get_or all k placed).form ≡ form = sym (get_or-map (λ (s : PlacedForm). s.form) all k placed form within) ∙ sym form_is in
      let e : (get_or all k placed).extent ≡ extent = sym (get_or-map (λ (s : PlacedForm). s.extent) all k placed extent within) ∙ sym extent_is in
      λ i. record { form = f i; extent = e i }

  pub planned-more : (plans : List PlanOf) (plan : PlanOf) → plans ≡ map (plan_under lists text) (take k all) → plan ≡ plan_of (text_at text extent) form lists
      → plans ++ plan ∷ [] ≡ map (plan_under lists text) (take (k + 1) all)
  planned-more plans plan so_far one =
      (λ i. so_far i ++ one i ∷ [])
      ∙ (ap (λ (s : PlacedForm). map (plan_under lists text) (take k all) ++ plan_under lists text s ∷ []) (sym is_placed)
      ∙ sym (map_more (plan_under lists text) all k placed within))

-- the fault of a selection, where lists that others after it name may be missing too
pub missing-first : (fault : CompileFault) (a b all : Option (List ℕ)) → all ≡ option_or a b → IsMissing fault a → IsMissing fault all
missing-first (Fault.NoSuchList name) a b all is found = is ∙ ap (λ o. option_or o b) found
missing-first Fault.Memory a b all is found = tt

-- the lines of elements, by their references
module _ (document : List ℕ) (root : Numbered) (found : List NodeRef) (elements : List Element) (is : map (element_of root) found ≡ elements) where
  pub lines-of-names : map (λ r. element_line document (plain root) (element_of root r)) found ≡ lines_of Names document (plain root) elements
  lines-of-names = sym (map-map (element_line document (plain root)) (element_of root) found) ∙ ap (map (element_line document (plain root))) is

  pub lines-of-texts : map (λ r. printed_line (element_of root r).node) found ≡ lines_of Texts document (plain root) elements
  lines-of-texts = sym (map-map (λ (e : Element). printed_line e.node) (element_of root) found) ∙ ap (map (λ (e : Element). printed_line e.node)) is

-- what plans select is what the path selects
pub planned-lines : (says : Judgement) (state : State) (p : PathForm) (planned : PlannedPath) (shown : Shown) → IsPlanOf state.lists p planned
    → flat_map (planned_lines says state.abbreviations shown planned) (documents planned.root.now state.documents) ≡ lines_for says shown state p
planned-lines says state p planned shown plan =
    (λ i. flat_map (λ d. lines_of shown d.name d.root (selected (planned-as says state.abbreviations state.lists planned.plans.now (selections_of p) plan.plans i) (plan.steps i) d.root))
    (documents (plan.root i) state.documents))

-- the prices in one document
pub prices-one : (says : Judgement) (abbreviations : List (List ℕ)) (path : PlannedPath) (runs : List RunMeaning) (d : Named)
    → prices_in says abbreviations path runs (d ∷ []) ≡ planned_price says abbreviations path runs d.root
prices-one says abbreviations path runs d = omega (arith, sum_by-cons (λ (x : Named). planned_price says abbreviations path runs x.root) d [])

-- what the runs of plans cost, their selections cost
pub priced-as : (lists : NamedLists) (version : List indexed.Numbered) (p : PathForm) (plans : List PlanOf) → map meant plans ≡ map (under lists) (selections_of p)
    → map run_price (map (run_over version) plans) ≡ selection_prices lists version p
priced-as lists version p plans same =
    let cost : NamedLists × Form → List (List ℕ) → ℕ = λ m text. price (lexicon m.0) m.1 version text in
    map-map run_price (run_over version) plans
    ∙ (sym (map-map cost meant plans) ∙ (ap (map cost) same ∙ map-map cost (under lists) (selections_of p)))

-- what the tests cost for which plans ask, those cost for which the path asks
pub planned-prices : (says : Judgement) (held : Held) (p : PathForm) (planned : PlannedPath) → IsPlanOf held.state.lists p planned
    → prices_in says held.state.abbreviations planned (map (run_over held.version) planned.plans.now) (documents planned.root.now held.state.documents) ≡ path_price says held p
planned-prices says held p planned plan =
    let lists = held.state.lists in
    (λ i. sum_by (λ d. total_price (element_price (priced-as lists held.version p planned.plans.now plan.plans i))
    (selected_tests (planned-as says held.state.abbreviations lists planned.plans.now (selections_of p) plan.plans i) (plan.steps i) d.root)) (documents (plan.root i) held.state.documents))

-- what the plans of a path's selections are of, their texts, and that they may be kept
module _ (lists : NamedLists) (text : List ℕ) (p : PathForm) where
  pub meant-under : map meant (plans_under lists text p) ≡ map (under lists) (selections_of p)
  meant-under = map-map meant (plan_under lists text) p.selections ∙ sym (map-map (under lists) (λ (s : PlacedForm). s.form) p.selections)

  pub texts-under : texts_of (plans_under lists text p) ≡ selection_texts text p
  texts-under = map-map (λ (plan : PlanOf). plan.text) (plan_under lists text) p.selections

  pub as-many-under : length (plans_under lists text p) ≡ length p.selections
  as-many-under = length-map p.selections (plan_under lists text)

  pub can-keep-under : (prepared : Preparation) → prepared.lists ≡ lists → prepared.kept.hits + length p.selections < 2 ^ 64 → CanKeep prepared (plans_under lists text p)
  can-keep-under prepared same few = record {
    lists = All-map (λ (plan : PlanOf). plan.lists ≡ prepared.lists) (plan_under lists text) p.selections (λ k d less. sym same);
    counted = omega (arith, few, as-many-under);
  }

-- a path that may be gone along has a plan for each of its selections
pub ready-plan : (documents : List Named) (prepared : Preparation) (text : List ℕ) (ready : ReadyPath) → IsReadyPath documents prepared text ready
    → (planned : PlannedPath) → planned.root.now ≡ (read_form ready.path).path.root
    → form.steps (map view.step planned.steps.now) ≡ (read_form ready.path).path.steps → planned.plans.now ≡ ready.plans.items
    → IsPlanOf prepared.lists (read_form ready.path) planned
ready-plan documents prepared text ready is planned root leads plans = record {
  root = root;
  steps = leads;
  plans = ap (map meant) (plans ∙ is.plans) ∙ meant-under prepared.lists text (read_form ready.path);
}

-- a path that is refused is answered by its refusal
module _ (says : Judgement) (shown : Shown) (state : State) (why : Refusal) where
  pub refused-answer : (read : Result PathForm QueryFault) → path_refusal state.documents state.lists read ≡ Some why → answer_read says shown state read ≡ Refused why
  refused-answer (Err fault) is = ap Refused (same_Some (refusal.Query fault) why is)
  refused-answer (Ok p) is = ap (λ o. unless_refused o (reply_with shown (lines_for says shown state p))) is

-- a path is not refused where all that it names is there
pub all-found : (state : State) (p : PathForm) → missing_document p.path.root state.documents ≡ None → missing_list state.lists (selections_of p) ≡ None
    → missing_refusal state.documents state.lists p ≡ None
all-found state p document lists = ap₂ refusal_found document lists

-- a path that may be gone along is answered by its lines
pub ready-answer : (says : Judgement) (shown : Shown) (state : State) (p : PathForm) → missing_document p.path.root state.documents ≡ None
    → missing_list state.lists (selections_of p) ≡ None → answer_read says shown state (Ok p) ≡ reply_with shown (lines_for says shown state p)
ready-answer says shown state p document lists =
    ap (λ o. unless_refused o (reply_with shown (lines_for says shown state p))) (all-found state p document lists)
