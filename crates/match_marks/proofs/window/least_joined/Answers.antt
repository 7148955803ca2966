-- Of the phrases that are aimed.
use Rattle.std.proofs.Common.{ap, ◌∙◌}
use Rattle.best_hits.specs.Best.{spans_of}
use Rattle.match_marks.specs.steps.WindowRuns.{least_held}
use Rattle.match_marks.proofs.WalkedHits.{started_aims, started_at_hits, started_lists}
use Rattle.match_marks.proofs.window.least_joined.Goals as goal

pub first_in_window-requires-clause-hits : goal.first_in_window-requires-clause-hits
first_in_window-requires-clause-hits g c =
    started_at_hits c.args.doc.0 c.args.span c.args.phrases.now.items c.aim_each.new.phrases.items c.requires.may c.aim_each.ensures.walks

pub returns-clause-found : goal.returns-clause-found
returns-clause-found g c =
    c.first_in_window.ensures.found
    ∙ ap (λ lists. spans_of (least_held c.args.size lists)) (started_lists c.args.doc.0 c.args.span c.args.phrases.now.items c.aim_each.new.phrases.items c.requires.may c.aim_each.ensures.walks)

pub returns-clause-same : goal.returns-clause-same
returns-clause-same g c =
    c.first_in_window.ensures.same ∙ started_aims c.args.doc.0 c.args.span c.args.phrases.now.items c.aim_each.new.phrases.items c.requires.may c.aim_each.ensures.walks
