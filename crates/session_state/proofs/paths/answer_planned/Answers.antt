-- The runs are those of the plans, over the version that follows the documents.
use Rattle.std.proofs.Common.{◌∙◌, ◌≤◌, ◌+◌, ℕ, sym, ap, subst, List, map}
use Rattle.document_store.specs.Indexed.{FollowsEach}
use Rattle.document_store.specs.Loaded.{to_document, trees_of}
use Rattle.index_meaning.specs.Documents.{Numbered}
use Rattle.path_meaning.specs.Collection.{Named, documents}
use Rattle.plan_runs.specs.RunMeaning.{RunMeaning}
use Rattle.session_state.specs.PlannedPaths.{prices_in, run_meant, run_over}
use Rattle.session_state.specs.SelectionTests.{AreOverEach}
use Rattle.session_state.proofs.PathLemmas.{runs-meant}
use Rattle.session_state.proofs.SelectionTestLemmas.{over-each}
use Rattle.session_state.proofs.paths.answer_planned.Goals as goal

pub collect_lines-lines-requires-clause-runs : goal.collect_lines-lines-requires-clause-runs
collect_lines-lines-requires-clause-runs g c = ap (map run_meant) (c.as_mut_slice.ensures.value ∙ c.in_ok-runs.ensures) ∙ runs-meant c.version.result.now c.args.planned.now.plans.now

pub collect_lines-lines-requires-clause-over : goal.collect_lines-lines-requires-clause-over
collect_lines-lines-requires-clause-over g c =
    let trees = trees_of c.documents-documents.result.now in
    let abbreviations = g.A.Abbreviated.abbreviations in
    let version = c.args.collection.now.version in
    let followed : FollowsEach abbreviations version c.args.collection.now.trees =
    subst (λ (keys : List (List ℕ)). FollowsEach keys version c.args.collection.now.trees) c.requires.abbreviations c.documents-documents.ensures.followed in
    let follow : FollowsEach abbreviations c.version.result.now trees =
    subst (λ (v : List Numbered). FollowsEach abbreviations v trees) (sym c.version.ensures)
    (subst (FollowsEach abbreviations version) (sym c.documents-documents.ensures.trees) followed) in
    subst (λ (rs : List RunMeaning). AreOverEach abbreviations rs trees) (sym (c.as_mut_slice.ensures.value ∙ c.in_ok-runs.ensures))
    (over-each abbreviations c.version.result.now c.args.planned.now.plans.now trees follow)

pub returns-in-Ok-clause-price : goal.returns-in-Ok-clause-price
returns-in-Ok-clause-price g c cheap =
    let planned = c.args.planned.now in
    let all : List RunMeaning → List Named → ℕ = λ rs ds. prices_in g.J.Judge.says g.A.Abbreviated.abbreviations planned rs (documents planned.root.now ds) in
    let over = map (run_over c.args.collection.now.version) in
    let runs = c.as_mut_slice.ensures.value ∙ c.in_ok-runs.ensures ∙ ap (λ (v : List Numbered). map (run_over v) planned.plans.now) c.version.ensures in
    subst (λ (ds : List Named). c.collect_lines-lines.new.moves ≤ c.args.moves.now + all (over planned.plans.now) ds)
    c.documents-documents.ensures.documents
    (subst (λ (rs : List RunMeaning). c.collect_lines-lines.new.moves ≤ c.args.moves.now + all rs (map to_document c.documents-documents.result.now))
    runs (c.collect_lines-lines.ensures.price cheap))

pub returns-in-Err-clause-price : goal.returns-in-Err-clause-price
returns-in-Err-clause-price g c cheap =
    let planned = c.args.planned.now in
    let all : List RunMeaning → List Named → ℕ = λ rs ds. prices_in g.J.Judge.says g.A.Abbreviated.abbreviations planned rs (documents planned.root.now ds) in
    let over = map (run_over c.args.collection.now.version) in
    let runs = c.as_mut_slice.ensures.value ∙ c.in_ok-runs.ensures ∙ ap (λ (v : List Numbered). map (run_over v) planned.plans.now) c.version.ensures in
    subst (λ (ds : List Named). c.collect_lines-lines.new.moves ≤ c.args.moves.now + all (over planned.plans.now) ds)
    c.documents-documents.ensures.documents
    (subst (λ (rs : List RunMeaning). c.collect_lines-lines.new.moves ≤ c.args.moves.now + all rs (map to_document c.documents-documents.result.now))
    runs (c.collect_lines-lines.ensures.price cheap))
