-- Before the document that stands there are as many as its place says.
use Rattle.std.proofs.Common.{sym, ◌∙◌}
use Rattle.index_versions.specs.steps.Held.{numbers}
use Rattle.index_versions.proofs.LikelyLemmas.{Standing, standing, below-at}
use Rattle.index_versions.proofs.documents.place_near.Goals as goal

pub returns-then-stands_at : goal.returns-then-stands_at
returns-then-stands_at c =
    let all = numbers c.args.documents.now in
    let at = c.saturating_sub-likely.result in
    let s : Standing all at c.args.doc.0 = standing all at c.args.doc.0 (sym c.stands_at.ensures ∙ c.if-stands_at.true) in
    sym (below-at all at c.args.doc.0 c.requires s.there s.is)
