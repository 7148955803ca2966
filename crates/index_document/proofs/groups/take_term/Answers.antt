-- The rows of the term go from after those of leaves before the place.
use Rattle.std.proofs.Common.{drop, length, map, ap, ◌∙◌, ◌++◌, arith, length-append}
use Rattle.std.proofs.lemmas.List.{length-map}
use Rattle.std.proofs.lemmas.Result.{on_ok_weaker}
use Rattle.index_document.specs.Terms.{leaf_ids}
use Rattle.index_document.specs.Rows.{row_of}
use Rattle.index_document.specs.steps.Groups.{group}
use Rattle.index_document.proofs.GroupLemmas.{take-around}
use Rattle.index_document.proofs.groups.take_term.Goals as goal

pub take_group-requires : goal.take_group-requires
take_group-requires g c =
    let taken = group c.args.run.term (drop c.args.next c.args.entries.now.items) in
    let before = c.requires.0 in
    let prefix = c.requires.1.0 in
    let back = c.requires.1.1.0 in
    let suffix = c.requires.1.1.1.0 in
    let around = c.requires.1.1.1.1 in
    let rest = (map row_of taken ++ back) ++ suffix in
    omega (
      arith,
      c.prefix_end-place.ensures.place before prefix (map row_of taken ++ back) suffix around,
      ap length around.rows_are,
      length-append before (prefix ++ rest),
      length-append prefix rest,
      length-append (map row_of taken ++ back) suffix,
      length-append (map row_of taken) back,
      length-map taken row_of,
    )

pub returns-clause-rows : goal.returns-clause-rows
returns-clause-rows g c =
    let taken = group c.args.run.term (drop c.args.next c.args.entries.now.items) in
    on_ok_weaker c.take_group.result (λ rows before prefix back suffix around. rows ∙ take-around (leaf_ids c.args.leaves.now.leaves) c.args.at c.args.run.first c.args.run.end c.args.rows.now before prefix back suffix
    c.prefix_end-place.result taken around (c.prefix_end-place.ensures.place before prefix (map row_of taken ++ back) suffix around)) c.take_group.ensures.rows
