-- Ascending starts: a start up to the place is counted with all before it, and one after it is not.
use Rattle.std.proofs.Common.{◌<◌, ◌≤◌, ◌+◌, ◌/◌, ℕ, length, get_or, subst, arith}
use Rattle.index_cursors.proofs.AscendingLemmas.{up_to-holds, up_to-fails, count-few}
use Rattle.index_cursors.proofs.break_view.started_at.Goals as goal

pub loop-size-preserved-then-start-place : goal.loop-size-preserved-then-start-place
loop-size-preserved-then-start-place c =
    let middle : ℕ = c.loop-size.low + c.loop-size.size / 2 in
    let there : middle < length c.args.starts.now = omega (arith, c.loop-size-test.true, c.loop-size.invariant.within) in
    let test : get_or c.args.starts.now middle 0 ≤ c.args.place =
    subst (λ xs. get_or xs middle 0 ≤ c.args.place) c.as_slice-items.ensures.value c.if-start-place.true in
    let more = up_to-holds c.args.place c.args.starts.now middle c.as_slice-items.ensures.ascending there test in
    record {
      from = omega (arith, more, c.loop-size-test.true);
      to = omega (arith, c.loop-size.invariant.to);
      within = omega (arith, c.loop-size.invariant.within);
    }

pub loop-size-preserved : goal.loop-size-preserved
loop-size-preserved c =
    let middle : ℕ = c.loop-size.low + c.loop-size.size / 2 in
    let there : middle < length c.args.starts.now = omega (arith, c.loop-size-test.true, c.loop-size.invariant.within) in
    let test : c.args.place < get_or c.args.starts.now middle 0 =
    subst (λ xs. c.args.place < get_or xs middle 0) c.as_slice-items.ensures.value (omega (arith, c.if-start-place.false)) in
    let most = up_to-fails c.args.place c.args.starts.now middle c.as_slice-items.ensures.ascending there test in
    record { from = c.loop-size.invariant.from; to = most; within = omega (arith, there) }

pub overflow_cast-result : goal.overflow_cast-result
overflow_cast-result c =
    let few = count-few c.args.place c.args.starts.now c.as_slice-items.ensures.ascending in
    omega (arith, few, c.loop-size.invariant.from, c.requires)
