-- The bytes that were read are those of a name that is all in its mark.
use Rattle.std.proofs.Common.{◌∙◌, ◌-◌, get_or, arith}
use Rattle.ordered_tree.proofs.HeadLemmas.{marked}
use Rattle.ordered_tree.proofs.element_name.marked_name.Goals as goal

pub returns-in-Ok : goal.returns-in-Ok
returns-in-Ok c = λ name same.
    let mark = c.args.mark.now in
    c.in-Ok.ensures.cases.0
    ∙ marked mark name (get_or mark 7 0 - 1) same (omega (arith, c.if-last-eq0.false)) (omega (arith, c.if-last.false))
