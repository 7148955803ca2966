-- The tests are put after those of their number, or are the first of it.
use Rattle.std.proofs.Common.{◌∙◌, arith}
use Rattle.plan_compiler.proofs.GroupLemmas.{put_either}
use Rattle.plan_compiler.proofs.phrase_plan.add_variant.Goals as goal

pub returns : goal.returns
returns c =
    let some = c.if-count-eq0.false in
    let many = c.len-count.ensures in
    c.in_ok-put_tests.ensures ∙ put_either c.args.tests c.args.groups.now.entries (omega (arith, some, many))
