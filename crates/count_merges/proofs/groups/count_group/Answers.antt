-- The hits that have come in, but for those that have gone out.
use Rattle.count_merges.specs.steps.Passing.{passed_by}
use Rattle.count_merges.proofs.PassLemmas.{quiet}
use Rattle.count_merges.proofs.SumLemmas.{held_stays, same_held}
use Rattle.count_merges.proofs.groups.count_group.Goals as goal

pub returns-clause-stays : goal.returns-clause-stays
returns-clause-stays g c =
    let stand = g.H.Hits.stand in
    let unit = g.U.Units.number c.args.units.now in
    let rises = g.met.U.Units.rises c.args.units.now in
    let size = c.args.window.size in
    let to = c.args.window.to in
    let group = c.args.group.now in
    let words = group.words in
    held_stays c.args.last
    (passed_by stand unit 0 words to c.pass_up_to-group.new.variants.items c.pass_up_to-group.result)
    (passed_by stand unit size words to c.pass_up_to-group-2.new.variants.items c.pass_up_to-group-2.result)
    (passed_by stand unit 0 words to group.front.items group.come) (passed_by stand unit size words to group.back.items group.gone)
    c.pass_up_to-group.ensures.same c.pass_up_to-group-2.ensures.same
    c.pass_up_to-group.result.event c.pass_up_to-group-2.result.event c.pass_up_to-group.result.count c.pass_up_to-group-2.result.count c.min.result c.saturating_sub.result
    c.pass_up_to-group.ensures.ahead c.pass_up_to-group-2.ensures.ahead
    (λ other. quiet unit rises 0 words to stand c.pass_up_to-group.new.variants.items c.pass_up_to-group.result other c.pass_up_to-group.ensures.sound)
    (λ other. quiet unit rises size words to stand c.pass_up_to-group-2.new.variants.items c.pass_up_to-group-2.result other c.pass_up_to-group-2.ensures.sound)
    c.min.ensures c.saturating_sub.ensures

pub returns-clause-same : goal.returns-clause-same
returns-clause-same g c =
    let stand = g.H.Hits.stand in
    let unit = g.U.Units.number c.args.units.now in
    let size = c.args.window.size in
    let to = c.args.window.to in
    let group = c.args.group.now in
    let words = group.words in
    same_held c.args.last
    (passed_by stand unit 0 words to c.pass_up_to-group.new.variants.items c.pass_up_to-group.result)
    (passed_by stand unit size words to c.pass_up_to-group-2.new.variants.items c.pass_up_to-group-2.result)
    (passed_by stand unit 0 words to group.front.items group.come) (passed_by stand unit size words to group.back.items group.gone)
    c.pass_up_to-group.ensures.same c.pass_up_to-group-2.ensures.same
