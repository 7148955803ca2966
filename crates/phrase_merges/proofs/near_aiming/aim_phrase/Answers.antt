-- A phrase is aimed as its lists are.
use Rattle.std.proofs.Common.{map}
use Rattle.phrase_merges.proofs.PassingLemmas.{aimed_lists, may_lists}
use Rattle.phrase_merges.proofs.near_aiming.aim_phrase.Goals as goal

pub aim_lists-requires : goal.aim_lists-requires
aim_lists-requires g c = may_lists g.P.PhraseHits.state c.args.phrase.now.lists.items c.args.phrase.now.start c.args.doc.0 c.args.span c.requires

pub returns-clause-aimed : goal.returns-clause-aimed
returns-clause-aimed g c =
    let state = g.P.PhraseHits.state in
    aimed_lists c.args.doc.0 c.args.span (map state c.args.phrase.now.lists.items) (map state c.aim_lists.new.lists.items) c.args.phrase.now.start _ c.aim_lists.ensures.aimed c.aim_lists.ensures.first
