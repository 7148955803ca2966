-- The runs are those of the plans, and they and the marks are over the version that follows the documents.
use Rattle.std.proofs.Common.{◌≡◌, ◌∙◌, ◌≤◌, ◌+◌, ℕ, sym, ap, subst, List, map}
use Rattle.std.specs.Prelude.{IfOk, flat_map}
use Rattle.document_store.specs.Indexed.{FollowsEach}
use Rattle.document_store.specs.Loaded.{to_document, trees_of}
use Rattle.index_meaning.specs.Documents.{Numbered}
use Rattle.path_meaning.specs.Collection.{Named}
use Rattle.plan_runs.specs.RunMeaning.{RunMeaning}
use Rattle.session_state.specs.PlannedPaths.{run_meant, run_over}
use Rattle.session_state.specs.SelectionTests.{AreOverEach}
use Rattle.session_state.specs.steps.Chosen.{prices_through}
use Rattle.session_state.specs.steps.MarkedPlans.{marked_through}
use Rattle.session_state.proofs.MarkedTokens.{marks-over-each}
use Rattle.session_state.proofs.PathLemmas.{runs-meant}
use Rattle.session_state.proofs.SelectionTestLemmas.{over-each}
use Rattle.session_state.proofs.marked_words.lines_with.Goals as goal

pub collect_marked-lines-requires-clause-runs : goal.collect_marked-lines-requires-clause-runs
collect_marked-lines-requires-clause-runs g c =
    ap (map run_meant) (c.as_mut_slice.ensures.value ∙ c.in_ok-runs.ensures) ∙ runs-meant c.version.result.now c.args.path.now.plans.now

pub collect_marked-lines-requires-clause-over : goal.collect_marked-lines-requires-clause-over
collect_marked-lines-requires-clause-over g c =
    let trees = trees_of c.documents-documents.result.now in
    let abbreviations = g.A.Abbreviated.abbreviations in
    let version = c.args.collection.now.version in
    let followed : FollowsEach abbreviations version c.args.collection.now.trees =
    subst (λ (keys : List (List ℕ)). FollowsEach keys version c.args.collection.now.trees) c.requires.abbreviations c.documents-documents.ensures.followed in
    let follow : FollowsEach abbreviations c.version.result.now trees =
    subst (λ (v : List Numbered). FollowsEach abbreviations v trees) (sym c.version.ensures)
    (subst (FollowsEach abbreviations version) (sym c.documents-documents.ensures.trees) followed) in
    subst (λ (rs : List RunMeaning). AreOverEach abbreviations rs trees) (sym (c.as_mut_slice.ensures.value ∙ c.in_ok-runs.ensures))
    (over-each abbreviations c.version.result.now c.args.path.now.plans.now trees follow)

pub collect_marked-lines-requires-clause-marks : goal.collect_marked-lines-requires-clause-marks
collect_marked-lines-requires-clause-marks g c =
    let trees = trees_of c.documents-documents.result.now in
    let abbreviations = g.A.Abbreviated.abbreviations in
    let version = c.args.collection.now.version in
    let followed : FollowsEach abbreviations version c.args.collection.now.trees =
    subst (λ (keys : List (List ℕ)). FollowsEach keys version c.args.collection.now.trees) c.requires.abbreviations c.documents-documents.ensures.followed in
    marks-over-each abbreviations c.args.marks.now trees
    (subst (λ (v : List Numbered). FollowsEach abbreviations v trees) (sym c.requires.version)
    (subst (FollowsEach abbreviations version) (sym c.documents-documents.ensures.trees) followed))

pub returns-clause-lines : goal.returns-clause-lines
returns-clause-lines g c =
    let lines = marked_through g.J.Judge.says g.A.Abbreviated.abbreviations c.args.path.now c.args.marks.now.lists c.args.marks.now.form in
    subst (λ (ds : List Named). IfOk c.collect_marked-lines.result (λ all. all ≡ flat_map lines ds)) c.documents-documents.ensures.documents
    c.collect_marked-lines.ensures.lines

pub returns-clause-price : goal.returns-clause-price
returns-clause-price g c cheap =
    let path = c.args.path.now in
    let all : List RunMeaning → List Named → ℕ = λ rs ds. prices_through g.J.Judge.says g.A.Abbreviated.abbreviations path rs ds in
    let runs = c.as_mut_slice.ensures.value ∙ c.in_ok-runs.ensures ∙ ap (λ (v : List Numbered). map (run_over v) path.plans.now) c.version.ensures in
    subst (λ (ds : List Named). c.collect_marked-lines.new.moves ≤ c.args.moves.now + all (map (run_over c.args.collection.now.version) path.plans.now) ds)
    c.documents-documents.ensures.documents
    (subst (λ (rs : List RunMeaning). c.collect_marked-lines.new.moves ≤ c.args.moves.now + all rs (map to_document c.documents-documents.result.now))
    runs (c.collect_marked-lines.ensures.price cheap))
