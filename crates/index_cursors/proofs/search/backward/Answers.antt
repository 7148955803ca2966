-- A place that isn't before the position moves the search back, and another ends its steps.
use Rattle.std.proofs.Common.{◌<◌, ◌≤◌, ◌-◌, ℕ, length, get_or, arith}
use Rattle.index_cursors.proofs.AscendingLemmas.{below-holds, below-fails}
use Rattle.index_cursors.proofs.search.backward.Goals as goal

pub between-requires-clause-from : goal.between-requires-clause-from
between-requires-clause-from c =
    let next : ℕ = c.loop-high.high - (c.args.end - c.loop-high.high) - 1 in
    let there : next < length c.args.places.now = omega (arith, c.loop-high-test.true, c.loop-high.invariant.end, c.requires.within) in
    let test : get_or c.args.places.now next 0 < c.args.from = omega (arith, c.get.ensures, c.if-get-from.true) in
    let more = below-holds c.args.from c.args.places.now next c.requires.ascending there test in
    omega (arith, more)

pub loop-high-preserved : goal.loop-high-preserved
loop-high-preserved c =
    let next : ℕ = c.loop-high.high - (c.args.end - c.loop-high.high) - 1 in
    let there : next < length c.args.places.now = omega (arith, c.loop-high-test.true, c.loop-high.invariant.end, c.requires.within) in
    let test : c.args.from ≤ get_or c.args.places.now next 0 = omega (arith, c.get.ensures, c.if-get-from.false) in
    record { end = omega (arith, c.loop-high.invariant.end); to = below-fails c.args.from c.args.places.now next c.requires.ascending there test }
