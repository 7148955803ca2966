-- Where the first place isn't before the position, none is; where the last one is, all are.
use Rattle.std.proofs.Common.{◌≤◌, ◌<◌, ◌-◌, length, get_or, subst, arith}
use Rattle.std.specs.Prelude.{nat_lt}
use Rattle.std.proofs.lemmas.List.Sums.{count_by-le-length}
use Rattle.index_cursors.proofs.AscendingLemmas.{below-fails, below-holds}
use Rattle.index_cursors.proofs.search.first_place.Goals as goal

pub returns-then-first-from-clause-number : goal.returns-then-first-from-clause-number
returns-then-first-from-clause-number c =
    let there : 0 < length c.args.places.now = omega (arith, c.if-len-eq0.false, c.len-len.ensures.len) in
    let test : c.args.from ≤ get_or c.args.places.now 0 0 = subst (λ n. c.args.from ≤ n) c.get-first.ensures c.if-first-from.true in
    let most = below-fails c.args.from c.args.places.now 0 c.len-len.ensures.ascending there test in
    omega (arith, most)

pub returns-then-last-from-clause-number : goal.returns-then-last-from-clause-number
returns-then-last-from-clause-number c =
    let there : c.len-len.result - 1 < length c.args.places.now = omega (arith, c.if-len-eq0.false, c.len-len.ensures.len) in
    let test : get_or c.args.places.now (c.len-len.result - 1) 0 < c.args.from = subst (λ n. n < c.args.from) c.get-last.ensures c.if-last-from.true in
    omega (
      arith,
      below-holds c.args.from c.args.places.now (c.len-len.result - 1) c.len-len.ensures.ascending there test,
      count_by-le-length (λ place. nat_lt place c.args.from) c.args.places.now,
      c.len-len.ensures.len,
    )
