-- Where the children are after each move.
use Rattle.std.proofs.Common.{◌≡◌, ◌-◌, ◌+◌, ◌++◌, length, take, drop, ap, ◌∙◌, arith}
use Rattle.plain_tree.proofs.RangesJoined.{moved}
use Rattle.plain_tree.proofs.replacing.put_between.Goals as goal

pub returns-clause-ok : goal.returns-clause-ok
returns-clause-ok c =
    let kept : c.len-2.result - (c.args.last - c.args.first) ≡ length c.args.row.now.items - c.args.last + c.args.first =
    omega (arith, c.requires.order, c.requires.within, c.len-2.ensures, c.rotate_left.ensures.len, c.in_ok-reserve.ensures.len) in
    let rest_count : c.len-3.result - c.args.first ≡ length c.args.row.now.items - c.args.last =
    omega (arith, kept, c.requires.order, c.requires.within, c.len-2.ensures, c.len-3.ensures, c.truncate.ensures.len, c.rotate_left.ensures.len, c.in_ok-reserve.ensures.len) in
    moved c.args.row.now.items c.args.between.items c.args.first c.args.last (c.len-2.result - (c.args.last - c.args.first)) (c.len-3.result - c.args.first)
    c.rotate_left.new.self.items c.truncate.new.self.items c.append.new.self.items c.rotate_left-2.new.self.items c.requires.order c.requires.within
    (c.rotate_left.ensures.items ∙ ap (λ z. drop c.args.last z ++ take c.args.last z) c.in_ok-reserve.ensures.items) kept c.truncate.ensures.items c.in-Ok.ensures.items rest_count
    c.rotate_left-2.ensures.items
