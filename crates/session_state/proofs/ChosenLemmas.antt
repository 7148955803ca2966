-- The elements that were chosen in documents are those that the path selects, at their places.
use Rattle.std.proofs.Common.{◌≡◌, ◌∙◌, sym, ap, ap₂, refl, arith, ℕ, ◌+◌, ◌==◌, Bool, true, false, cond, ◌||◌, List, [], ◌∷◌, length, map, subst}
use Rattle.std.specs.Prelude.{◌&&◌, not, nat_le, nat_lt, Option, Some, None, Result, Ok, Err, IfOk, All}
use Rattle.std.specs.List.{list_any, sum_by}
use Rattle.std.proofs.lemmas.Bool.Decides.{nat_tests}
use Rattle.std.proofs.Math.Bool.{or-true}
use Rattle.std.proofs.lemmas.List.{length-map}
use Rattle.std.proofs.lemmas.List.Sums.{sum_by-cons}
use Rattle.std.proofs.lemmas.Simd.{map-map}
use Rattle.std.proofs.lemmas.List.Elements.{All-head, All-tail}
use Rattle.document_edits.specs.Targets.{places_of}
use Rattle.ft_base.specs.Lists.{is_empty}
use Rattle.ordered_tree.specs.Numbered.{Numbered, plain, reference}
use Rattle.path_nodes.specs.References.{element_of, IsElement}
use Rattle.plain_tree.specs.declared.place.How.{How}
use Rattle.plain_tree.specs.declared.tree.Tree.{Tree}
use Rattle.reply_lines.specs.declared.reply.Refusal.TheVariants as refusal
use Rattle.tree_edits.specs.Edits.{is_among, is_same}
use Rattle.tree_edits.specs.Acts.{stays}
use Rattle.ft_base.specs.declared.memory.Memory.{Memory}
use Rattle.session_state.specs.declared.targets.Chosen.{Chosen}
use Rattle.session_state.specs.declared.edit.Targets.{Targets}
use Rattle.session_state.specs.declared.edit.Targets.TheVariants.{One, Any}
use Rattle.std.specs.Str.{bytes_eq}
use Rattle.document_store.specs.Loaded.{LoadedTree, to_document, trees_of}
use Rattle.document_store.specs.Targets.{places_of_targets, AreTargets}
use Rattle.ft_base.specs.declared.ids.NodeRef.{NodeRef}
use Rattle.path_grammar.specs.declared.path.PathRoot.{PathRoot}
use Rattle.path_grammar.specs.declared.path.PathRoot.TheVariants.{Collection, Doc}
use Rattle.path_meaning.specs.Collection.{Named, documents}
use Rattle.path_meaning.specs.Elements.{Element}
use Rattle.path_meaning.specs.Meaning.{selected}
use Rattle.path_subset.specs.Paths.{PathForm}
use Rattle.plan_runs.specs.Judgement.{Judgement}
use Rattle.plan_runs.specs.RunMeaning.{RunMeaning}
use Rattle.session_state.specs.declared.planned.PlannedPath.{PlannedPath}
use Rattle.session_state.specs.Edits.{leads_through, places_selected, target_count, targets_refused}
use Rattle.session_state.specs.Paths.{selections_of}
use Rattle.session_state.specs.PlannedPaths.{planned_in, planned_price, prices_in, IsPlanOf}
use Rattle.session_state.specs.State.{State}
use Rattle.session_state.specs.steps.Chosen.{planned_places, prices_through, AreLedTo, AreLedToEach}
use Rattle.session_state.proofs.PathLemmas.{planned-as}

-- a sum over the documents through which a path leads is one over the documents of its root
pub through : (root : PathRoot) (f : Named → ℕ) (ds : List Named) → sum_by (λ d. cond (leads_through root d.name) (f d) 0) ds ≡ sum_by f (documents root ds)
through Collection f ds = refl
through (Doc name) f [] = refl
through (Doc name) f (d ∷ ds) =
    let g : Named → ℕ = λ x. cond (bytes_eq name x.name) (f x) 0 in
    let rest = through (Doc name) f ds in
    sum_by-cons g d ds
    ∙ (elim (bytes_eq name d.name) as (λ b. cond b (f d) 0 + sum_by g ds ≡ sum_by f (cond b (d ∷ documents (Doc name) ds) (documents (Doc name) ds)))
    [ true ↦ ap (λ n. f d + n) rest ∙ sym (sum_by-cons f d (documents (Doc name) ds)) | false ↦ omega (arith, rest) ])

pub prices-led : (says : Judgement) (abbreviations : List (List ℕ)) (path : PlannedPath) (runs : List RunMeaning) (ds : List Named)
    → prices_through says abbreviations path runs ds ≡ prices_in says abbreviations path runs (documents path.root.now ds)
prices-led says abbreviations path runs ds = through path.root.now (λ d. planned_price says abbreviations path runs d.root) ds

-- the references name elements, and their places are those to which the path leads
module _ (says : Judgement) (abbreviations : List (List ℕ)) (path : PlannedPath) where
  pub led-targets : (entries : List (List ℕ × LoadedTree)) (refs : List (List NodeRef)) → AreLedToEach says abbreviations path entries refs → AreTargets (trees_of entries) refs
  led-targets [] [] h = tt
  led-targets [] (r ∷ rs) h = absurd h
  led-targets (e ∷ es) [] h = absurd h
  led-targets (e ∷ es) (r ∷ rs) h = (h.0.there, led-targets es rs h.1)

  pub led-places : (entries : List (List ℕ × LoadedTree)) (refs : List (List NodeRef)) → AreLedToEach says abbreviations path entries refs
      → places_of_targets (trees_of entries) refs ≡ map (planned_places says abbreviations path) (map to_document entries)
  led-places [] [] h = refl
  led-places [] (r ∷ rs) h = absurd h
  led-places (e ∷ es) [] h = absurd h
  led-places (e ∷ es) (r ∷ rs) h = λ i. h.0.places i ∷ led-places es rs h.1 i

-- what plans select is what the path selects
pub planned-places : (says : Judgement) (state : State) (p : PathForm) (planned : PlannedPath) → IsPlanOf state.lists p planned
    → map (planned_places says state.abbreviations planned) state.documents ≡ places_selected says state p
planned-places says state p planned plan = λ i. map (λ (d : Named). cond (leads_through (plan.root i) d.name)
    (map (λ (e : Element). e.place) (selected (planned-as says state.abbreviations state.lists planned.plans.now (selections_of p) plan.plans i) (plan.steps i) d.root)) []) state.documents

-- the elements that were selected in a document through which the path leads
pub led-here : (says : Judgement) (abbreviations : List (List ℕ)) (path : PlannedPath) (name : List ℕ) (document : LoadedTree) (refs : List NodeRef) → All (IsElement document.tree.root) refs
    → map (element_of document.tree.root) refs ≡ planned_in says abbreviations path (plain document.tree.root) → leads_through path.root.now name ≡ true
    → AreLedTo says abbreviations path (name, document) refs
led-here says abbreviations path name document refs there elements leads = record {
  there = there;
  places = sym (map-map (λ (e : Element). e.place) (element_of document.tree.root) refs)
      ∙ (ap (map (λ (e : Element). e.place)) elements
      ∙ sym (ap (λ t. cond t (map (λ (e : Element). e.place) (planned_in says abbreviations path (plain document.tree.root))) []) leads));
}

-- the root is among elements where one of their places is empty, by the law that it alone has the empty place
module _ (root-place : (root : Numbered) (r : NodeRef) → IsElement root r → is_empty (element_of root r).place ≡ is_same (reference root) r) where
  pub root-among : (root : Numbered) (refs : List NodeRef) → All (IsElement root) refs → is_among refs (reference root) ≡ list_any is_empty (places_of root refs)
  root-among root [] there = refl
  root-among root (r ∷ rs) there =
      ap₂ (λ a b. a || b) (sym (root-place root r (All-head (IsElement root) r rs there))) (root-among root rs (All-tail (IsElement root) r rs there))

-- there are as many places as references
pub as-many-targets : (trees : List (ℕ × Numbered)) (refs : List (List NodeRef)) → AreTargets trees refs → sum_by length refs ≡ target_count (places_of_targets trees refs)
as-many-targets [] [] h = refl
as-many-targets [] (r ∷ rs) h = absurd h
as-many-targets (t ∷ ts) [] h = absurd h
as-many-targets (t ∷ ts) (r ∷ rs) h =
    let rest = as-many-targets ts rs h.1 in
    let one = length-map r (λ (x : NodeRef). (element_of t.1 x).place) in
    sum_by-cons length r rs ∙ (omega (arith, rest, one, sum_by-cons length (places_of t.1 r) (places_of_targets ts rs)))

-- where an edit isn't refused it is of one element alone, or has no content
pub once-holds : (targets : Targets) (how : Option How) (count n : ℕ) (rooted : Bool) (content : List Tree) → targets_refused targets how count rooted ≡ None
    → (targets ≡ Any → content ≡ []) → n ≡ count → (nat_le n 1 || is_empty content) ≡ true
once-holds Any how count n rooted content accepted once same = ap (λ (ts : List Tree). nat_le n 1 || is_empty ts) (once refl) ∙ or-true (nat_le n 1)
once-holds One how count n rooted content accepted once same = ap (λ t. t || is_empty content) (ap (λ k. nat_le k 1) same ∙ few (nat_lt 1 count) refl (count == 0) refl accepted)
  where
    few : (many : Bool) → nat_lt 1 count ≡ many → (none : Bool) → (count == 0) ≡ none → targets_refused One how count rooted ≡ None → nat_le count 1 ≡ true
    few false m none z h = grind (arith, nat_tests)
    few true m true z h = grind (arith, nat_tests)
    few true m false z h =
        let is : targets_refused One how count rooted ≡ Some (refusal.ManyTargets count) =
        ap (λ t. cond t (Some refusal.NoTarget) (cond (nat_lt 1 count) (Some (refusal.ManyTargets count)) (cond (not (stays how) && rooted) (Some refusal.RootTarget) None))) z
        ∙ ap (λ t. cond t (Some (refusal.ManyTargets count)) (cond (not (stays how) && rooted) (Some refusal.RootTarget) None)) m in
        let no : Some (refusal.ManyTargets count) ≡ None = sym is ∙ h in
        let never : ⊥ = cc in absurd never

-- the same of what was chosen in the documents of a collection
module _ (says : Judgement) (abbreviations : List (List ℕ)) (path : PlannedPath) (entries : List (List ℕ × LoadedTree)) (trees : List (ℕ × Numbered)) where
  pub chosen-targets : trees_of entries ≡ trees → (result : Result Chosen Memory) → IfOk result (λ chosen. AreLedToEach says abbreviations path entries chosen.refs)
      → IfOk result (λ chosen. AreTargets trees chosen.refs)
  chosen-targets same (Ok chosen) h = subst (λ ts. AreTargets ts chosen.refs) same (led-targets says abbreviations path entries chosen.refs h)
  chosen-targets same (Err e) h = tt

  pub chosen-places : (ds : List Named) → trees_of entries ≡ trees → map to_document entries ≡ ds → (result : Result Chosen Memory)
      → IfOk result (λ chosen. AreLedToEach says abbreviations path entries chosen.refs)
      → IfOk result (λ chosen. places_of_targets trees chosen.refs ≡ map (planned_places says abbreviations path) ds)
  chosen-places ds same docs (Ok chosen) h =
      ap (λ ts. places_of_targets ts chosen.refs) (sym same) ∙ (led-places says abbreviations path entries chosen.refs h ∙ ap (map (planned_places says abbreviations path)) docs)
  chosen-places ds same docs (Err e) h = tt
