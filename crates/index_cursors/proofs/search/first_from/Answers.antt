-- The place before where the search begins tells which way it goes.
use Rattle.std.proofs.Common.{◌<◌, ◌≤◌, ◌-◌, length, get_or, arith}
use Rattle.index_cursors.proofs.AscendingLemmas.{below-holds, below-fails}
use Rattle.index_cursors.proofs.search.first_from.Goals as goal

pub onward-requires-then-get-from-clause-from : goal.onward-requires-then-get-from-clause-from
onward-requires-then-get-from-clause-from c =
    let there : c.args.near - 1 < length c.args.places.now = omega (arith, c.if-near-eq0.false, c.if-near-len.false, c.len.ensures.len) in
    let test : get_or c.args.places.now (c.args.near - 1) 0 < c.args.from = omega (arith, c.get.ensures, c.if-get-from.true) in
    let more = below-holds c.args.from c.args.places.now (c.args.near - 1) c.len.ensures.ascending there test in
    omega (arith, more)

pub backward-requires-clause-to : goal.backward-requires-clause-to
backward-requires-clause-to c =
    let there : c.args.near - 1 < length c.args.places.now = omega (arith, c.if-near-eq0.false, c.if-near-len.false, c.len.ensures.len) in
    let test : c.args.from ≤ get_or c.args.places.now (c.args.near - 1) 0 = omega (arith, c.get.ensures, c.if-get-from.false) in
    below-fails c.args.from c.args.places.now (c.args.near - 1) c.len.ensures.ascending there test
