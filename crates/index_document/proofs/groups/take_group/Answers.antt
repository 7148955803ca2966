-- One row goes for each entry.
use Rattle.std.proofs.Common.{◌+◌, length, drop, ap, sym, ◌∙◌, arith}
use Rattle.std.proofs.lemmas.List.Edits.{length-remove}
use Rattle.index_document.specs.Rows.{entry_at}
use Rattle.index_document.specs.steps.Groups.{group, without_rows}
use Rattle.index_document.proofs.groups.take_group.Goals as goal

pub take_row-requires : goal.take_row-requires
take_row-requires g c =
    let step = ap length (c.is_next.ensures.yes c.loop-rows-test.true (entry_at 0 0 0)) in
    omega (arith, c.loop-rows.invariant.there, step)

pub returns-in_err-take_row-clause-at_most : goal.returns-in_err-take_row-clause-at_most
returns-in_err-take_row-clause-at_most g c =
    let step = ap length (c.is_next.ensures.yes c.loop-rows-test.true (entry_at 0 0 0)) in
    omega (arith, c.take_row.ensures.counted, c.loop-rows.invariant.counted, step)

pub loop-rows-smaller : goal.loop-rows-smaller
loop-rows-smaller g c =
    let step = ap length (c.is_next.ensures.yes c.loop-rows-test.true (entry_at 0 0 0)) in
    omega (arith, step)

pub loop-rows-preserved : goal.loop-rows-preserved
loop-rows-preserved g c =
    let step = ap length (c.is_next.ensures.yes c.loop-rows-test.true (entry_at 0 0 0)) in
    let inv = c.loop-rows.invariant in
    let left = length (group c.args.term (drop (c.loop-rows.end + 1) c.args.entries.now.items)) in
    record {
      there = omega (
        arith,
        inv.there,
        step,
        ap length c.in_ok-take_row.ensures.ok,
        length-remove c.loop-rows.rows c.args.place (omega (arith, inv.there, step)),
      );
      next = omega (arith, inv.next, step);
      rows = ap (λ rows. without_rows rows c.args.place left) c.in_ok-take_row.ensures.ok
          ∙ ap (λ count. without_rows c.loop-rows.rows c.args.place count) (sym step) ∙ inv.rows;
      counted = omega (arith, inv.counted, step, c.take_row.ensures.counted);
    }
