-- The runs are those of the plans, over the version that follows the documents.
use Rattle.std.proofs.Common.{◌≡◌, ◌∙◌, ◌≤◌, ◌+◌, ℕ, sym, ap, subst, List, length, map}
use Rattle.std.specs.Prelude.{IfOk}
use Rattle.std.proofs.lemmas.List.{length-map}
use Rattle.document_store.specs.Indexed.{FollowsEach}
use Rattle.document_store.specs.Loaded.{to_document, trees_of}
use Rattle.index_meaning.specs.Documents.{Numbered}
use Rattle.path_meaning.specs.Collection.{Named}
use Rattle.plan_runs.specs.RunMeaning.{RunMeaning}
use Rattle.session_state.specs.PlannedPaths.{run_meant, run_over}
use Rattle.session_state.specs.SelectionTests.{AreOverEach}
use Rattle.session_state.specs.Standings.{unknown_price}
use Rattle.session_state.specs.steps.Chosen.{price_through}
use Rattle.session_state.specs.steps.Turns.{planned_through, turns_now}
use Rattle.session_state.proofs.PathLemmas.{runs-meant}
use Rattle.session_state.proofs.SelectionTestLemmas.{over-each}
use Rattle.session_state.proofs.turns.turns_of.Goals as goal

pub collect_turns-turns-requires-clause-runs : goal.collect_turns-turns-requires-clause-runs
collect_turns-turns-requires-clause-runs g c = ap (map run_meant) (c.as_mut_slice.ensures.value ∙ c.in_ok-runs.ensures) ∙ runs-meant c.version.result.now c.args.path.now.plans.now

pub collect_turns-turns-requires-clause-over : goal.collect_turns-turns-requires-clause-over
collect_turns-turns-requires-clause-over g c =
    let trees = trees_of c.documents-documents.result.now in
    let abbreviations = g.A.Abbreviated.abbreviations in
    let version = c.args.collection.now.version in
    let followed : FollowsEach abbreviations version c.args.collection.now.trees =
    subst (λ (keys : List (List ℕ)). FollowsEach keys version c.args.collection.now.trees) c.requires.abbreviations c.documents-documents.ensures.followed in
    let follow : FollowsEach abbreviations c.version.result.now trees =
    subst (λ (v : List Numbered). FollowsEach abbreviations v trees) (sym c.version.ensures)
    (subst (FollowsEach abbreviations version) (sym c.documents-documents.ensures.trees) followed) in
    subst (λ (rs : List RunMeaning). AreOverEach abbreviations rs trees) (sym (c.as_mut_slice.ensures.value ∙ c.in_ok-runs.ensures))
    (over-each abbreviations c.version.result.now c.args.path.now.plans.now trees follow)

pub collect_turns-turns-requires-clause-as_many : goal.collect_turns-turns-requires-clause-as_many
collect_turns-turns-requires-clause-as_many g c =
    c.requires.as_many ∙ (ap length (sym c.documents-documents.ensures.documents) ∙ length-map c.documents-documents.result.now to_document)

pub returns-clause-turns : goal.returns-clause-turns
returns-clause-turns g c =
    let lines = planned_through g.J.Judge.says g.A.Abbreviated.abbreviations c.args.path.now in
    subst (λ (ds : List Named). IfOk c.collect_turns-turns.result (λ turns. turns.items ≡ turns_now c.args.kept.now lines c.args.stamps.now ds)) c.documents-documents.ensures.documents
    c.collect_turns-turns.ensures.turns

pub returns-clause-price : goal.returns-clause-price
returns-clause-price g c cheap =
    let path = c.args.path.now in
    let all : List RunMeaning → List Named → ℕ =
    λ rs ds. unknown_price c.args.kept.now (price_through g.J.Judge.says g.A.Abbreviated.abbreviations path rs) c.args.stamps.now ds in
    let runs = c.as_mut_slice.ensures.value ∙ c.in_ok-runs.ensures ∙ ap (λ (v : List Numbered). map (run_over v) path.plans.now) c.version.ensures in
    subst (λ (ds : List Named). c.collect_turns-turns.new.moves ≤ c.args.moves.now + all (map (run_over c.args.collection.now.version) path.plans.now) ds) c.documents-documents.ensures.documents
    (subst (λ (rs : List RunMeaning). c.collect_turns-turns.new.moves ≤ c.args.moves.now + all rs (map to_document c.documents-documents.result.now)) runs (c.collect_turns-turns.ensures.price cheap))
