-- The lines by the plans of a path are those by its selections, and where nothing else is refused the reply is theirs.
use Rattle.std.proofs.Common.{◌≡◌, ◌∙◌, sym, ap, refl, ℕ, zero, suc, ◌+◌, ◌<◌, ◌≤◌, Bool, true, false, cond, List, [], ◌∷◌, ◌++◌, length, map, drop, get_or, append_assoc, arith}
use Rattle.std.specs.Prelude.{Option, Some, None, Result, Ok, Err, IfOk, flat_map, option_map, option_and_then, sum_by}
use Rattle.std.specs.List.{slice_get}
use Rattle.std.proofs.Math.ListN.{get_or-map}
use Rattle.std.proofs.lemmas.List.{at_drop_more, drop_all, length-map}
use Rattle.std.proofs.lemmas.Option.{same_Some, slice_get-map}
use Rattle.best_hits.specs.Showable.{can_show}
use Rattle.document_store.specs.Indexed.{Indexed}
use Rattle.reply_lines.specs.declared.reply.Refusal.{Refusal}
use Rattle.reply_lines.specs.declared.reply.Refusal.TheVariants as refusal
use Rattle.reply_lines.specs.declared.reply.Reply.{Reply}
use Rattle.reply_lines.specs.declared.reply.Reply.TheVariants as reply
use Rattle.reply_lines.specs.declared.reply.Reply.TheVariants.{Refused}
use Rattle.element_lines.specs.Lines.{element_line}
use Rattle.ft_base.specs.Selection.{Form}
use Rattle.ft_base.specs.declared.fault.QueryFault.{QueryFault}
use Rattle.ft_base.specs.declared.ids.NodeRef.{NodeRef}
use Rattle.ft_base.specs.declared.memory.Memory.{Memory}
use Rattle.kept_plans.specs.PlanOf.{PlanOf}
use Rattle.kept_plans.specs.Preparation.{Preparation}
use Rattle.ordered_tree.specs.Numbered.{Numbered, plain}
use Rattle.path_meaning.specs.Collection.{Named, documents}
use Rattle.path_meaning.specs.Meaning.{selected}
use Rattle.path_nodes.specs.References.{element_of}
use Rattle.path_subset.specs.Answer.{path_read}
use Rattle.path_subset.specs.Paths.{PathForm}
use Rattle.path_subset.specs.Shown.{shown_number}
use Rattle.plan_compiler.specs.NamedLists.{NamedLists}
use Rattle.plan_runs.specs.Judgement.{Judgement}
use Rattle.session_state.specs.declared.planned.PlannedPath.{PlannedPath}
use Rattle.session_state.specs.Held.{Held}
use Rattle.session_state.specs.KeptTexts.{keep_plans}
use Rattle.session_state.specs.MarkedWords.{answer_by, answer_marked, answer_marked_read, marked_for, marked_lines, shown_form}
use Rattle.session_state.specs.PathPrices.{path_price}
use Rattle.session_state.specs.Paths.{missing_document, missing_list, selections_of, unless_refused}
use Rattle.session_state.specs.PlannedPaths.{meant, planned_in, run_over, under, IsPlanOf}
use Rattle.session_state.specs.ReadyPaths.{kept_for, path_refusal}
use Rattle.session_state.specs.State.{State}
use Rattle.session_state.specs.StateView.{prepared_of, state_of}
use Rattle.session_state.specs.steps.Chosen.{prices_through}
use Rattle.session_state.specs.steps.MarkedPlans.{in_turn, marked_through, planned_marks, shown_plan, words_line}
use Rattle.session_state.proofs.EditLemmas.{replied, with_prepared_in}
use Rattle.session_state.proofs.PathLemmas.{all-found, planned-as}
use Rattle.session_state.proofs.StandingLemmas.{planned-price, price-of-all, through-lines}
use Rattle.session_state.proofs.StateLemmas.{kept-by-reply}

-- ---- the plan of the selection that is shown

-- what passes a test
abbrev if_so : {X : Type 0} → (X → Bool) → X → Option X
if_so test x = cond (test x) (Some x) None

-- the item of a number, where it passes a test, is found among the images of items
item-shown : {X Y : Type 0} (f : X → Y) (test : Y → Bool) (number : Option ℕ) (xs : List X)
    → option_map f (option_and_then (if_so (λ x. test (f x))) (option_and_then (slice_get xs) number)) ≡ option_and_then (if_so test) (option_and_then (slice_get (map f xs)) number)
item-shown f test None xs = refl
item-shown {X} {Y} f test (Some k) xs = by (slice_get xs k) ∙ ap (option_and_then (if_so test)) (sym (slice_get-map f xs k))
  where
    by : (o : Option X) → option_map f (option_and_then (if_so (λ x. test (f x))) o) ≡ option_and_then (if_so test) (option_map f o)
    by None = refl
    by (Some x) = elim (test (f x)) as (λ b. option_map f (cond b (Some x) None) ≡ cond b (Some (f x)) None) [ true ↦ refl | false ↦ refl ]

abbrev can_show_meant : NamedLists × Form → Bool
can_show_meant m = can_show m.1

-- the reply by a selection and its lists
abbrev marks_meant : Judgement → List (List ℕ) → PlannedPath → List Named → Option (NamedLists × Form) → Reply
marks_meant says abbreviations path ds None = Refused refusal.NothingToShow
marks_meant says abbreviations path ds (Some m) = reply.Shown (flat_map (marked_through says abbreviations path m.0 m.1) ds)

module _ (says : Judgement) (state : State) (p : PathForm) (planned : PlannedPath) (plan : IsPlanOf state.lists p planned) where
  by-meaning : (o : Option PlanOf) → planned_marks says state.abbreviations planned state.documents o ≡ marks_meant says state.abbreviations planned state.documents (option_map meant o)
  by-meaning None = refl
  by-meaning (Some x) = refl

  marked-lines : (form : Form) → flat_map (marked_through says state.abbreviations planned state.lists form) state.documents ≡ marked_for says state p form
  marked-lines form =
      through-lines planned.root.now (λ d. flat_map (marked_lines state.abbreviations state.lists form d.name d.root) (planned_in says state.abbreviations planned d.root)) state.documents
      ∙ (λ i. flat_map (λ d. flat_map (marked_lines state.abbreviations state.lists form d.name d.root)
      (selected (planned-as says state.abbreviations state.lists planned.plans.now (selections_of p) plan.plans i) (plan.steps i) d.root)) (documents (plan.root i) state.documents))

  by-selection : (o : Option Form) → marks_meant says state.abbreviations planned state.documents (option_map (under state.lists) o) ≡ answer_by says state p o
  by-selection None = refl
  by-selection (Some form) = ap reply.Shown (marked-lines form)

  -- what the plans of a path show is what its selections show
  pub planned-marks : (text : List ℕ) (number : Option ℕ) → number ≡ shown_number text p
      → planned_marks says state.abbreviations planned state.documents (shown_plan number planned.plans.now) ≡ answer_by says state p (shown_form text p)
  planned-marks text number is =
      ap (λ n. planned_marks says state.abbreviations planned state.documents (shown_plan n planned.plans.now)) is
      ∙ (by-meaning (shown_plan (shown_number text p) planned.plans.now)
      ∙ (ap (marks_meant says state.abbreviations planned state.documents)
      (item-shown meant can_show_meant (shown_number text p) planned.plans.now
      ∙ (ap (λ ms. option_and_then (if_so can_show_meant) (option_and_then (slice_get ms) (shown_number text p))) plan.plans
      ∙ sym (item-shown (under state.lists) can_show_meant (shown_number text p) (selections_of p))))
      ∙ by-selection (shown_form text p)))

-- and what the tests cost for which the plans ask, those cost for which the path asks
pub marked-prices : (says : Judgement) (held : Held) (p : PathForm) (planned : PlannedPath) → IsPlanOf held.state.lists p planned
    → prices_through says held.state.abbreviations planned (map (run_over held.version) planned.plans.now) held.state.documents ≡ path_price says held p
marked-prices says held p planned plan = ap (λ f. sum_by f held.state.documents) (planned-price says held p planned plan) ∙ price-of-all says held p

-- ---- the reply to a path

-- a path along which a command may go is answered by its lines
pub ready-marks : (says : Judgement) (state : State) (text : List ℕ) (p : PathForm) → missing_document p.path.root state.documents ≡ None
    → missing_list state.lists (selections_of p) ≡ None → answer_marked_read says state text (Ok p) ≡ answer_by says state p (shown_form text p)
ready-marks says state text p document lists = ap (λ o. unless_refused o (answer_by says state p (shown_form text p))) (all-found state p document lists)

-- a path that is refused is answered by its refusal
pub refused-marks : (says : Judgement) (state : State) (text : List ℕ) (why : Refusal) (read : Result PathForm QueryFault) → path_refusal state.documents state.lists read ≡ Some why
    → answer_marked_read says state text read ≡ Refused why
refused-marks says state text why (Err fault) is = ap Refused (same_Some (refusal.Query fault) why is)
refused-marks says state text why (Ok p) is = ap (λ o. unless_refused o (answer_by says state p (shown_form text p))) is

-- a path is answered by the documents, the abbreviations and the lists alone
same-marks : (says : Judgement) (a b : State) (text : List ℕ) → a.documents ≡ b.documents → a.abbreviations ≡ b.abbreviations → a.lists ≡ b.lists → (read : Result PathForm QueryFault)
    → answer_marked_read says a text read ≡ answer_marked_read says b text read
same-marks says a b text documents abbreviations lists (Err fault) = refl
same-marks says a b text documents abbreviations lists (Ok p) =
    λ i. answer_marked_read says (record { documents = documents i; abbreviations = abbreviations i; lists = lists i; marks = a.marks; watches = a.watches; kept = a.kept }) text (Ok p)

-- a path that goes along the documents of a state is answered as in it, and its plans are kept
pub marked-along : (says : Judgement) (collection : Indexed) (state : State) (text : List ℕ) → collection.documents ≡ state.documents → collection.abbreviations ≡ state.abbreviations
    → (result : Result Reply Memory) (q : Preparation) → IfOk result (λ reply. reply ≡ answer_marked says (state_of collection state.lists) text)
    → IfOk result (λ reply. q ≡ kept_for text reply (prepared_of state))
    → IfOk result (λ reply. replied (with_prepared_in state q) reply ≡ keep_plans text (state, answer_marked says state text))
marked-along says collection state text documents abbreviations (Ok reply) q is kept =
    kept-by-reply state q text reply kept
    ∙ ap (λ r. keep_plans text (state, r)) (is ∙ same-marks says (state_of collection state.lists) state text documents abbreviations refl (path_read text))
marked-along says collection state text documents abbreviations (Err e) q is kept = tt

-- ---- an item of each of two lists in turn

in-turn : {X Y : Type 0} (f g : X → Y) (xs : List X) → in_turn (map f xs) (map g xs) ≡ flat_map (λ x. f x ∷ g x ∷ []) xs
unfolding in_turn
in-turn f g [] = refl
in-turn f g (x ∷ xs) = ap (λ rest. f x ∷ g x ∷ rest) (in-turn f g xs)

-- the lines of elements, by those that name them and those of their words
pub lines-in-turn : (abbreviations : List (List ℕ)) (lists : NamedLists) (form : Form) (name : List ℕ) (root : Numbered) (found : List NodeRef)
    → in_turn (map (λ r. element_line name (plain root) (element_of root r)) found) (map (words_line abbreviations lists form root) found)
    ≡ flat_map (marked_lines abbreviations lists form name (plain root)) (map (element_of root) found)
lines-in-turn abbreviations lists form name root found =
    in-turn (λ r. element_line name (plain root) (element_of root r)) (words_line abbreviations lists form root) found ∙ elements found
  where
    elements : (rs : List NodeRef) → flat_map (λ r. element_line name (plain root) (element_of root r) ∷ words_line abbreviations lists form root r ∷ []) rs
        ≡ flat_map (marked_lines abbreviations lists form name (plain root)) (map (element_of root) rs)
    elements [] = refl
    elements (r ∷ rs) = ap (λ rest. element_line name (plain root) (element_of root r) ∷ words_line abbreviations lists form root r ∷ rest) (elements rs)

-- the items of a number come next
next-in-turn : {X : Type 0} (xs ys : List X) (k : ℕ) (x y : X) → k < length xs → length ys ≡ length xs → x ≡ get_or xs k x → y ≡ get_or ys k y
    → in_turn (drop k xs) (drop k ys) ≡ x ∷ y ∷ in_turn (drop (k + 1) xs) (drop (k + 1) ys)
unfolding in_turn
next-in-turn xs ys k x y less as_many first second =
    at_drop_more (λ rest. in_turn rest (drop k ys)) xs k x less
    ∙ (at_drop_more (in_turn (get_or xs k x ∷ drop (k + 1) xs)) ys k y (omega (arith, less, as_many))
    ∙ (λ i. sym first i ∷ sym second i ∷ in_turn (drop (k + 1) xs) (drop (k + 1) ys)))

-- after the last of them nothing comes
pub none-in-turn : {X : Type 0} (xs ys : List X) (k : ℕ) → length xs ≤ k → in_turn (drop k xs) (drop k ys) ≡ []
unfolding in_turn
none-in-turn xs ys k past = ap (λ rest. in_turn rest (drop k ys)) (drop_all k xs past)

-- one more of each stands after the lines so far
pub more-in-turn : {X N : Type 0} (line : N → X) (names : List X) (found : List N) (k : ℕ) (name : X) (node other : N) (before named after whole : List X)
    → length names ≡ length found → k < length found → name ≡ get_or names k name → node ≡ get_or found k other
    → before ++ in_turn (drop k names) (drop k (map line found)) ≡ whole → named ≡ before ++ name ∷ [] → after ≡ named ++ line node ∷ []
    → after ++ in_turn (drop (k + 1) names) (drop (k + 1) (map line found)) ≡ whole
more-in-turn line names found k name node other before named after whole as_many less is_name is_node known put then =
    let rest = in_turn (drop (k + 1) names) (drop (k + 1) (map line found)) in
    let size = length-map found line in
    let there : k < length (map line found) = omega (arith, less, size) in
    let item : line node ≡ get_or (map line found) k (line node) =
    ap line is_node ∙ (sym (get_or-map line found k other) ∙ get_or-any (map line found) k (line other) (line node) there) in
    ap (λ ls. ls ++ rest) (then ∙ (ap (λ ls. ls ++ line node ∷ []) put ∙ append_assoc before (name ∷ []) (line node ∷ [])))
    ∙ (append_assoc before (name ∷ line node ∷ []) rest
    ∙ (ap (λ ls. before ++ ls) (sym (next-in-turn names (map line found) k name (line node) (omega (arith, less, as_many)) (size ∙ sym as_many) is_name item))
    ∙ known))
  where
    get_or-any : {Y : Type 0} (xs : List Y) (k : ℕ) (x y : Y) → k < length xs → get_or xs k x ≡ get_or xs k y
    get_or-any [] k x y h = absurd (omega (arith, h))
    get_or-any (z ∷ xs) zero x y h = refl
    get_or-any (z ∷ xs) (suc k) x y h = get_or-any xs k x y (omega (arith, h))
