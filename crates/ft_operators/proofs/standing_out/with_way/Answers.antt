-- The includes of the left side, and those of the right one after them.
use Rattle.std.proofs.Common.{◌≡◌, ◌∙◌, arith, length}
use Rattle.ft_operators.specs.Course.{every}
use Rattle.ft_operators.specs.steps.Nodes.{standing}
use Rattle.ft_operators.proofs.ApartLemmas.{tried_pair}
use Rattle.ft_operators.proofs.standing_out.with_way.Goals as goal

pub with_sides-requires : goal.with_sides-requires
with_sides-requires g c = omega (arith, c.len-middle.ensures, c.gather.new.held.ok.0, (c.gather-2.ensures (every (record { from = 0; to = 0 }))).from)

pub returns-clause-tried : goal.returns-clause-tried
returns-clause-tried g c course other may =
    let at = standing g.P.PhraseHits.state course in
    let middle : c.len-middle.result ≡ length c.gather.new.held.items = omega (arith, c.len-middle.ensures, c.gather.new.held.ok.0) in
    c.with_sides.ensures
    ∙ tried_pair (at c.args.pair.now.left) (standing g.P.PhraseHits.state other c.args.pair.now.right) _ _ _ _ _ _ _ c.args.tried c.len-middle.result c.clear.ensures.items c.clear.ensures.capacity may (c.gather.ensures course) (c.gather-2.ensures other) middle

pub returns-clause-room : goal.returns-clause-room
returns-clause-room g c =
    omega (arith, c.clear.ensures.capacity, (c.gather.ensures (every (record { from = 0; to = 0 }))).kept_room, (c.gather-2.ensures (every (record { from = 0; to = 0 }))).kept_room)
