-- Ascending places: one before the position is counted with all before it, and another is not.
use Rattle.std.proofs.Common.{◌<◌, ◌≤◌, ◌+◌, ◌-◌, ◌/◌, ℕ, length, get_or, subst, arith}
use Rattle.index_cursors.proofs.AscendingLemmas.{below-holds, below-fails}
use Rattle.index_cursors.proofs.search.between.Goals as goal

pub loop-low-preserved-then-get-from : goal.loop-low-preserved-then-get-from
loop-low-preserved-then-get-from c =
    let middle : ℕ = c.loop-low.low + (c.loop-low.high - c.loop-low.low) / 2 in
    let there : middle < length c.args.places.now = omega (arith, c.loop-low-test.true, c.loop-low.invariant.within) in
    let test : get_or c.args.places.now middle 0 < c.args.from = subst (λ n. n < c.args.from) c.get.ensures c.if-get-from.true in
    let more = below-holds c.args.from c.args.places.now middle c.requires.ascending there test in
    record { from = omega (arith, more); to = c.loop-low.invariant.to; within = c.loop-low.invariant.within }

pub loop-low-preserved : goal.loop-low-preserved
loop-low-preserved c =
    let middle : ℕ = c.loop-low.low + (c.loop-low.high - c.loop-low.low) / 2 in
    let there : middle < length c.args.places.now = omega (arith, c.loop-low-test.true, c.loop-low.invariant.within) in
    let test : c.args.from ≤ get_or c.args.places.now middle 0 = omega (arith, c.get.ensures, c.if-get-from.false) in
    let most = below-fails c.args.from c.args.places.now middle c.requires.ascending there test in
    record { from = c.loop-low.invariant.from; to = most; within = omega (arith, there) }
