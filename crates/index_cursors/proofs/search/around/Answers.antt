-- The place before where the search begins tells which way it goes.
use Rattle.std.proofs.Common.{◌<◌, ◌≤◌, ◌-◌, length, get_or, subst, arith}
use Rattle.index_cursors.proofs.AscendingLemmas.{below-holds, below-fails}
use Rattle.index_cursors.proofs.search.around.Goals as goal

pub forward-requires-then-get-from-clause-from : goal.forward-requires-then-get-from-clause-from
forward-requires-then-get-from-clause-from c =
    let there : c.args.near - 1 < length c.args.places.now = omega (arith, c.if-near-eq0.false, c.requires.near, c.requires.within) in
    let test : get_or c.args.places.now (c.args.near - 1) 0 < c.args.from = subst (λ n. n < c.args.from) c.get.ensures c.if-get-from.true in
    let more = below-holds c.args.from c.args.places.now (c.args.near - 1) c.requires.ascending there test in
    omega (arith, more)

pub backward-requires-clause-to : goal.backward-requires-clause-to
backward-requires-clause-to c =
    let there : c.args.near - 1 < length c.args.places.now = omega (arith, c.if-near-eq0.false, c.requires.near, c.requires.within) in
    let test : c.args.from ≤ get_or c.args.places.now (c.args.near - 1) 0 = omega (arith, c.get.ensures, c.if-get-from.false) in
    below-fails c.args.from c.args.places.now (c.args.near - 1) c.requires.ascending there test
