-- The runs are those of the plans, over the version that follows the documents.
use Rattle.std.proofs.Common.{◌∙◌, ◌≤◌, ◌+◌, ℕ, sym, ap, subst, List, map}
use Rattle.document_store.specs.Indexed.{FollowsEach}
use Rattle.document_store.specs.Loaded.{to_document, trees_of}
use Rattle.index_meaning.specs.Documents.{Numbered}
use Rattle.path_meaning.specs.Collection.{Named, documents}
use Rattle.plan_runs.specs.RunMeaning.{RunMeaning}
use Rattle.session_state.specs.PlannedPaths.{prices_in, run_meant, run_over}
use Rattle.session_state.specs.SelectionTests.{AreOverEach}
use Rattle.session_state.proofs.ChosenLemmas.{chosen-places, chosen-targets, prices-led}
use Rattle.session_state.proofs.PathLemmas.{runs-meant}
use Rattle.session_state.proofs.SelectionTestLemmas.{over-each}
use Rattle.session_state.proofs.editing.choose_along.Goals as goal

pub choose-chosen-requires-clause-runs : goal.choose-chosen-requires-clause-runs
choose-chosen-requires-clause-runs g c = ap (map run_meant) (c.as_mut_slice.ensures.value ∙ c.in_ok-runs.ensures) ∙ runs-meant c.version.result.now c.args.path.now.plans.now

pub choose-chosen-requires-clause-over : goal.choose-chosen-requires-clause-over
choose-chosen-requires-clause-over g c =
    let trees = trees_of c.documents-documents.result.now in
    let abbreviations = g.A.Abbreviated.abbreviations in
    let version = c.args.collection.now.version in
    let followed : FollowsEach abbreviations version c.args.collection.now.trees =
    subst (λ (keys : List (List ℕ)). FollowsEach keys version c.args.collection.now.trees) c.requires.abbreviations c.documents-documents.ensures.followed in
    let follow : FollowsEach abbreviations c.version.result.now trees =
    subst (λ (v : List Numbered). FollowsEach abbreviations v trees) (sym c.version.ensures)
    (subst (FollowsEach abbreviations version) (sym c.documents-documents.ensures.trees) followed) in
    subst (λ (rs : List RunMeaning). AreOverEach abbreviations rs trees) (sym (c.as_mut_slice.ensures.value ∙ c.in_ok-runs.ensures))
    (over-each abbreviations c.version.result.now c.args.path.now.plans.now trees follow)

pub returns-clause-there : goal.returns-clause-there
returns-clause-there g c =
    chosen-targets g.J.Judge.says g.A.Abbreviated.abbreviations c.args.path.now c.documents-documents.result.now c.args.collection.now.trees c.documents-documents.ensures.trees c.choose-chosen.result c.choose-chosen.ensures.refs

pub returns-clause-places : goal.returns-clause-places
returns-clause-places g c =
    chosen-places g.J.Judge.says g.A.Abbreviated.abbreviations c.args.path.now c.documents-documents.result.now c.args.collection.now.trees c.args.collection.now.documents
    c.documents-documents.ensures.trees c.documents-documents.ensures.documents c.choose-chosen.result c.choose-chosen.ensures.refs

pub returns-clause-price : goal.returns-clause-price
returns-clause-price g c cheap =
    let says = g.J.Judge.says in
    let abbreviations = g.A.Abbreviated.abbreviations in
    let path = c.args.path.now in
    let all : List RunMeaning → List Named → ℕ = λ rs ds. prices_in says abbreviations path rs (documents path.root.now ds) in
    let entries = c.documents-documents.result.now in
    let runs = c.as_mut_slice.ensures.value ∙ c.in_ok-runs.ensures ∙ ap (λ (v : List Numbered). map (run_over v) path.plans.now) c.version.ensures in
    subst (λ (ds : List Named). c.choose-chosen.new.moves ≤ c.args.moves.now + all (map (run_over c.args.collection.now.version) path.plans.now) ds) c.documents-documents.ensures.documents
    (subst (λ (rs : List RunMeaning). c.choose-chosen.new.moves ≤ c.args.moves.now + all rs (map to_document entries)) runs
    (subst (λ (n : ℕ). c.choose-chosen.new.moves ≤ c.args.moves.now + n) (prices-led says abbreviations path c.as_mut_slice.result.now (map to_document entries)) (c.choose-chosen.ensures.price cheap)))
