-- One term more is done: its run is as far after as rows have come before it, and gets its entries.
use Rattle.std.proofs.Common.{◌≡◌, ◌≤◌, ◌+◌, ◌<◌, length, get_or, drop, refl, ap, sym, subst, ◌∙◌, arith}
use Rattle.shared_list.specs.Blocks.{starts_from}
use Rattle.index_document.specs.Rows.{entries_of, runs_of}
use Rattle.index_document.specs.steps.Groups.{entries_with, group}
use Rattle.index_document.proofs.PutLemmas.{all_rows, group-within}
use Rattle.index_document.proofs.RowCounts.{half-room}
use Rattle.index_document.proofs.StepLemmas.{IsPutting, run-first, run-end, half-start, half-all, half-rows, half-starts, putting-more}
use Rattle.index_document.proofs.put_rows.put_rows.Goals as goal

pub loop-number-init : goal.loop-number-init
loop-number-init g c =
    let parts = c.args.parts.now in
    record {
      leaves = refl;
      ids = refl;
      old_starts = refl;
      state = subst (λ starts. IsPutting parts.leaves c.args.at c.args.entries.now.items parts.ids.items 0 0 parts.rows starts) (sym c.in_ok-starts.ensures.items)
          (half-start parts.rows c.requires.indexed.rows_are c.requires.grouped);
      counted = omega arith;
    }

pub moved_back-run-requires-clause-first : goal.moved_back-run-requires-clause-first
moved_back-run-requires-clause-first g c =
    let parts = c.args.parts.now in
    let ids = parts.ids.items in
    let all = entries_of parts.leaves in
    let k = c.loop-number.number in
    let old = c.loop-number.invariant in
    let there : k < length ids = omega (arith, c.loop-number-test.true, c.len-number-end.ensures, parts.ids.ok.0) in
    let starts_are : c.loop-number.parts.starts.items ≡ starts_from 0 (runs_of all ids) = old.old_starts ∙ c.requires.indexed.starts_are in
    let total_is = c.len-total.ensures ∙ ap length c.requires.indexed.rows_are in
    let first_is = run-first all ids k c.run_at.result.first (c.run_at.ensures.first (runs_of all ids) starts_are total_is) in
    let room = half-room (all_rows all) (all_rows (entries_with parts.leaves c.args.at c.args.entries.now.items)) c.args.entries.now.items ids k c.loop-number.next
    c.loop-number.parts.rows c.loop-number.starts.items old.state there in
    omega (arith, first_is, room, c.len-rows.ensures)

pub moved_back-run-requires-clause-end : goal.moved_back-run-requires-clause-end
moved_back-run-requires-clause-end g c =
    let parts = c.args.parts.now in
    let ids = parts.ids.items in
    let all = entries_of parts.leaves in
    let k = c.loop-number.number in
    let old = c.loop-number.invariant in
    let there : k < length ids = omega (arith, c.loop-number-test.true, c.len-number-end.ensures, parts.ids.ok.0) in
    let starts_are : c.loop-number.parts.starts.items ≡ starts_from 0 (runs_of all ids) = old.old_starts ∙ c.requires.indexed.starts_are in
    let total_is = c.len-total.ensures ∙ ap length c.requires.indexed.rows_are in
    let end_is = run-end all ids k c.run_at.result.end there (c.run_at.ensures.end (runs_of all ids) starts_are total_is) in
    let room = half-room (all_rows all) (all_rows (entries_with parts.leaves c.args.at c.args.entries.now.items)) c.args.entries.now.items ids k c.loop-number.next
    c.loop-number.parts.rows c.loop-number.starts.items old.state there in
    omega (arith, end_is, room, c.len-rows.ensures)

pub returns-in_err-next-clause-at_most : goal.returns-in_err-next-clause-at_most
returns-in_err-next-clause-at_most g c =
    let parts = c.args.parts.now in
    let ids = parts.ids.items in
    let k = c.loop-number.number in
    let old = c.loop-number.invariant in
    let there : k < length ids = omega (arith, c.loop-number-test.true, c.len-number-end.ensures, parts.ids.ok.0) in
    let term = c.moved_back-run.ensures.term ∙ c.run_at.ensures.term ∙ ap (λ xs. get_or xs k 0) old.ids in
    omega (
      arith,
      c.put_term.ensures.at_most,
      old.counted,
      ap (λ t. length (group t (drop c.loop-number.next c.args.entries.now.items))) term,
      group-within ids k c.loop-number.next c.args.entries.now.items there c.requires.rising old.state.left old.state.within,
    )

pub loop-number-preserved : goal.loop-number-preserved
loop-number-preserved g c =
    let parts = c.args.parts.now in
    let ids = parts.ids.items in
    let new = c.args.entries.now.items in
    let all = entries_of parts.leaves in
    let k = c.loop-number.number in
    let old = c.loop-number.invariant in
    let there : k < length ids = omega (arith, c.loop-number-test.true, c.len-number-end.ensures, parts.ids.ok.0) in
    let term = c.moved_back-run.ensures.term ∙ c.run_at.ensures.term ∙ ap (λ xs. get_or xs k 0) old.ids in
    let run = c.moved_back-run.result in
    let starts_are : c.loop-number.parts.starts.items ≡ starts_from 0 (runs_of all ids) = old.old_starts ∙ c.requires.indexed.starts_are in
    let total_is = c.len-total.ensures ∙ ap length c.requires.indexed.rows_are in
    let first_is = run-first all ids k c.run_at.result.first (c.run_at.ensures.first (runs_of all ids) starts_are total_is) in
    let end_is = run-end all ids k c.run_at.result.end there (c.run_at.ensures.end (runs_of all ids) starts_are total_is) in
    record {
      leaves = old.leaves;
      ids = old.ids;
      old_starts = old.old_starts;
      state = subst (λ starts. IsPutting parts.leaves c.args.at new ids (k + 1) c.in_ok-next.next c.put_term.new.rows starts) (sym c.in_ok-push_number.ensures)
          (putting-more parts.leaves c.args.at new ids k c.loop-number.next c.loop-number.parts.rows c.loop-number.starts.items old.state there run.first run.end
          (c.moved_back-run.ensures.first ∙ ap (λ n. n + c.loop-number.next) first_is) (c.moved_back-run.ensures.end ∙ ap (λ n. n + c.loop-number.next) end_is)
          c.requires.rising c.requires.place c.requires.distinct c.loop-number.parts.leaves old.leaves run.term term c.put_term.new.rows c.in_ok-next.next
          c.in_ok-next.ensures.rows c.in_ok-next.ensures.next);
      counted = omega (arith, old.counted, c.in_ok-next.ensures.counted, c.in_ok-next.ensures.next);
    }

pub returns-clause-indexed : goal.returns-clause-indexed
returns-clause-indexed g c =
    let parts = c.args.parts.now in
    let loop = c.loop-number in
    let end : length parts.ids.items ≤ loop.number = omega (arith, c.loop-number-test.false, c.len-number-end.ensures, parts.ids.ok.0) in
    record {
      rows_are = half-rows loop.invariant.state end;
      starts_are = half-starts loop.invariant.state end;
    }

pub returns-clause-counted : goal.returns-clause-counted
returns-clause-counted g c =
    let parts = c.args.parts.now in
    let loop = c.loop-number in
    let end : length parts.ids.items ≤ loop.number = omega (arith, c.loop-number-test.false, c.len-number-end.ensures, parts.ids.ok.0) in
    omega (arith, loop.invariant.counted, half-all loop.invariant.state end)

pub returns-clause-at_most : goal.returns-clause-at_most
returns-clause-at_most g c = omega (arith, c.loop-number.invariant.counted, c.loop-number.invariant.state.within)
