-- A path with a plan for each of its selections, and what it selects.
use Rattle.std.specs.Prelude.{◌≡◌, ℕ, zero, suc, ◌<◌, Bool, false, List, [], ◌∷◌, length, map}
use Rattle.std.specs.List.{sum_by}
use Rattle.ft_base.specs.Selection.{Form}
use Rattle.index_meaning.specs.Documents.{Numbered}
use Rattle.kept_plans.specs.PlanOf.{PlanOf, plan_of}
use Rattle.path_meaning.specs.Collection.{Named}
use Rattle.path_meaning.specs.Elements.{Element}
use Rattle.path_grammar.specs.Form.{Steps, steps}
use Rattle.path_meaning.specs.Meaning.{selected}
use Rattle.path_meaning.specs.Tests.{selected_tests}
use Rattle.path_grammar.specs.View.{step}
use Rattle.path_nodes.specs.Asked.{OfEach}
use Rattle.path_nodes.specs.Prices.{total_price}
use Rattle.path_subset.specs.Paths.{PathForm, PlacedForm}
use Rattle.plain_tree.specs.Document.{Node}
use Rattle.plan_runs.specs.Judgement.{Judgement}
use Rattle.plan_compiler.specs.Lexicon.{lexicon}
use Rattle.plan_compiler.specs.NamedLists.{NamedLists}
use Rattle.plan_runs.specs.RunPrice.{price}
use Rattle.plan_runs.specs.RunMeaning.{RunMeaning}
use Rattle.session_state.specs.IgnoredText.{tokens_left}
use Rattle.session_state.specs.KeptTexts.{text_at}
use Rattle.session_state.specs.PathPrices.{are_cheap, element_price}
use Rattle.session_state.specs.Paths.{lines_of, selections_of}
use Rattle.session_state.specs.declared.planned.PlannedPath.{PlannedPath}
use Rattle.session_state.specs.declared.shown.Shown.{Shown}

-- what a plan is of, and what a run is of
abbrev pub meant : PlanOf → NamedLists × Form
meant plan = (plan.lists, plan.form)

abbrev pub run_meant : RunMeaning → NamedLists × Form
run_meant run = (run.lists, run.form)

-- the run of a plan over a version
abbrev pub run_over : List Numbered → PlanOf → RunMeaning
run_over version plan = record { form = plan.form; lists = plan.lists; version = version }

-- a selection under lists
abbrev pub under : NamedLists → Form → NamedLists × Form
under lists form = (lists, form)

-- the plan of a selection of a path that has that text, under lists, and those of all its selections
abbrev pub plan_under : NamedLists → List ℕ → PlacedForm → PlanOf
plan_under lists text s = plan_of (text_at text s.extent) s.form lists

abbrev pub plans_under : NamedLists → List ℕ → PathForm → List PlanOf
plans_under lists text p = map (plan_under lists text) p.selections

-- Each number of a selection for which the steps of a path ask is below a count.
abbrev pub AskBelow : ℕ → Steps → Type 0
AskBelow count all = OfEach (λ k. k < count) all

-- The steps of a path ask for its plans alone.
abbrev pub HasItsPlans : PlannedPath → Type 0
HasItsPlans path = AskBelow (length path.plans.now) (steps (map step path.steps.now))

-- There is a plan for each selection of a path, in order, under these lists.
pub record IsPlanOf (lists : NamedLists) (p : PathForm) (planned : PlannedPath) : Type 0 where
  pub root : planned.root.now ≡ p.path.root
  pub steps : steps (map step planned.steps.now) ≡ p.path.steps
  pub plans : map meant planned.plans.now ≡ map (under lists) (selections_of p)

-- There is a run for each plan of a path, in order.
abbrev pub AreRunsOf : PlannedPath → List RunMeaning → Type 0
AreRunsOf path runs = map run_meant runs ≡ map meant path.plans.now

-- The selections of a path's plans are cheap.
abbrev pub has_cheap_plans : PlannedPath → Bool
has_cheap_plans path = are_cheap (map meant path.plans.now)

-- whether an element's tokens under the abbreviations, without those of the elements that are ignored, satisfy the selection of that number,
-- under its lists
unfoldable pub is_meant : Judgement → List (List ℕ) → List (NamedLists × Form) → ℕ → List Element → Element → Bool
is_meant says abbreviations [] k ignored e = false
is_meant says abbreviations (first ∷ rest) zero ignored e = says first.1 first.0 (tokens_left abbreviations ignored e)
is_meant says abbreviations (first ∷ rest) (suc k) ignored e = is_meant says abbreviations rest k ignored e

-- the elements of a document to which the steps lead
abbrev pub planned_in : Judgement → List (List ℕ) → PlannedPath → Node → List Element
planned_in says abbreviations path root = selected (is_meant says abbreviations (map meant path.plans.now)) (steps (map step path.steps.now)) root

-- their lines
abbrev pub planned_lines : Judgement → List (List ℕ) → Shown → PlannedPath → Named → List (List ℕ)
planned_lines says abbreviations shown path d = lines_of shown d.name d.root (planned_in says abbreviations path d.root)

-- what a run costs at words
abbrev pub run_price : RunMeaning → List (List ℕ) → ℕ
run_price run text = price (lexicon run.lists) run.form run.version text

-- the prices of the tests for which the steps ask in a document, of these runs
abbrev pub planned_price : Judgement → List (List ℕ) → PlannedPath → List RunMeaning → Node → ℕ
planned_price says abbreviations path runs root =
    total_price (element_price (map run_price runs))
    (selected_tests (is_meant says abbreviations (map meant path.plans.now)) (steps (map step path.steps.now)) root)

-- in some documents
abbrev pub prices_in : Judgement → List (List ℕ) → PlannedPath → List RunMeaning → List Named → ℕ
prices_in says abbreviations path runs documents = sum_by (λ d. planned_price says abbreviations path runs d.root) documents
