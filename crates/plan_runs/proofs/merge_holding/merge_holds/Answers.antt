-- The cursors were aimed, and the merge went on from there.
use Rattle.std.proofs.Common.{◌∙◌, ap}
use Rattle.index_meaning.specs.Documents.{breaks_of, document_at}
use Rattle.plan_kinds.specs.steps.MergeKinds.{stand_as}
use Rattle.plan_runs.proofs.MergeCosts.{aimed_places, merge_moves, same_counts}
use Rattle.plan_runs.proofs.merge_holding.merge_holds.Goals as goal

pub returns-clause-says : goal.returns-clause-says
returns-clause-says g c =
    c.words_stand.ensures.says
    ∙ ap (stand_as (breaks_of (document_at c.args.place.now.doc.0 c.args.place.now.version.now)) c.args.merge.now.kind) (aimed_places c.args.place.now c.aim_words.new.cursors.items c.args.merge.now.words.items c.aim_words.ensures.aimed)

pub returns-clause-same : goal.returns-clause-same
returns-clause-same g c =
    let sizes = same_counts c.words_stand.new.cursors.items c.aim_words.new.cursors.items c.words_stand.ensures.lists ∙ c.aim_words.ensures.same in
    λ i. record { kind = c.args.merge.now.kind; words = c.aim_words.ensures.words i; sizes = sizes i }

pub returns-clause-price : goal.returns-clause-price
returns-clause-price g c =
    merge_moves c.args.place.now c.aim_words.new.cursors.items c.args.merge.now.words.items c.args.moves.now c.aim_words.new.moves c.words_stand.new.moves c.requires.there
    c.aim_words.ensures.aimed c.aim_words.ensures.price c.words_stand.ensures.price
