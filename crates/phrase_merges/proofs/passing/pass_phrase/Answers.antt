-- A phrase is passed as its lists are.
use Rattle.std.proofs.Common.{map}
use Rattle.phrase_merges.proofs.PassingLemmas.{moved_lists}
use Rattle.phrase_merges.proofs.passing.pass_phrase.Goals as goal

pub returns-clause-moved : goal.returns-clause-moved
returns-clause-moved g c =
    let state = g.P.PhraseHits.state in
    moved_lists c.args.end (map state c.args.phrase.now.lists.items) (map state c.pass_lists-passed.new.lists.items) c.args.phrase.now.start c.pass_lists-passed.result
    c.pass_lists-passed.ensures.left c.pass_lists-passed.ensures.start c.pass_lists-passed.ensures.next
