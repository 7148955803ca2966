-- What it costs to choose elements of the documents.
use Rattle.std.proofs.Common.{◌≤◌, ◌+◌, subst, map}
use Rattle.document_store.specs.Indexed.{Indexed}
use Rattle.path_meaning.specs.Collection.{documents}
use Rattle.session_state.specs.PlannedPaths.{prices_in, run_over}
use Rattle.session_state.proofs.editing.edit_along.Goals as goal

pub returns-in-Ok-clause-price : goal.returns-in-Ok-clause-price
returns-in-Ok-clause-price g c cheap =
    let path = c.args.path.now in
    subst (λ (i : Indexed). c.choose_along.new.moves ≤ c.args.moves.now + prices_in g.J.Judge.says i.abbreviations path (map (run_over i.version) path.plans.now) (documents path.root.now i.documents))
    c.collection.ensures (c.choose_along.ensures.price cheap)

pub returns-in-Err-clause-price : goal.returns-in-Err-clause-price
returns-in-Err-clause-price g c cheap =
    let path = c.args.path.now in
    subst (λ (i : Indexed). c.choose_along.new.moves ≤ c.args.moves.now + prices_in g.J.Judge.says i.abbreviations path (map (run_over i.version) path.plans.now) (documents path.root.now i.documents))
    c.collection.ensures (c.choose_along.ensures.price cheap)
