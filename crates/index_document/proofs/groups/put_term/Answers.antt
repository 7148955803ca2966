-- The rows of the term come after those of leaves before the place.
use Rattle.std.proofs.Common.{drop, map, ◌∙◌}
use Rattle.std.proofs.lemmas.Result.{on_ok_weaker}
use Rattle.index_document.specs.Terms.{leaf_ids}
use Rattle.index_document.specs.Rows.{row_of}
use Rattle.index_document.specs.steps.Groups.{group}
use Rattle.index_document.proofs.GroupLemmas.{put-around}
use Rattle.index_document.proofs.groups.put_term.Goals as goal

pub returns-clause-rows : goal.returns-clause-rows
returns-clause-rows g c =
    on_ok_weaker c.put_group.result (λ rows before prefix back suffix around. rows ∙ put-around (leaf_ids c.args.leaves.now.leaves) c.args.at c.args.run.first c.args.run.end c.args.rows.now before prefix back suffix
    c.prefix_end-place.result (map row_of (group c.args.run.term (drop c.args.next c.args.entries.now.items))) around (c.prefix_end-place.ensures.place before prefix back suffix around)) c.put_group.ensures.rows
