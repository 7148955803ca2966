-- A place before the position moves the search on, and another ends its steps.
use Rattle.std.proofs.Common.{◌<◌, ◌≤◌, ◌+◌, ◌-◌, ℕ, length, get_or, arith}
use Rattle.index_cursors.proofs.AscendingLemmas.{below-holds, below-fails}
use Rattle.index_cursors.proofs.search.forward.Goals as goal

pub between-requires-clause-to : goal.between-requires-clause-to
between-requires-clause-to c =
    let next : ℕ = c.loop-low.low + (c.loop-low.low - c.args.start) in
    let there : next < length c.args.places.now = omega (arith, c.loop-low-test.true, c.loop-low.invariant.start, c.requires.within) in
    let test : c.args.from ≤ get_or c.args.places.now next 0 = omega (arith, c.get.ensures, c.if-get-from.true) in
    below-fails c.args.from c.args.places.now next c.requires.ascending there test

pub loop-low-preserved : goal.loop-low-preserved
loop-low-preserved c =
    let next : ℕ = c.loop-low.low + (c.loop-low.low - c.args.start) in
    let there : next < length c.args.places.now = omega (arith, c.loop-low-test.true, c.loop-low.invariant.start, c.requires.within) in
    let test : get_or c.args.places.now next 0 < c.args.from = omega (arith, c.get.ensures, c.if-get-from.false) in
    let more = below-holds c.args.from c.args.places.now next c.requires.ascending there test in
    record { start = omega (arith, c.loop-low.invariant.start); from = omega (arith, more) }
