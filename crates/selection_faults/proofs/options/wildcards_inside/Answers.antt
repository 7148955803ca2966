-- One option further.
use Rattle.std.proofs.Common.{take, ap, ◌∙◌, arith}
use Rattle.selection_faults.specs.Strings.{wildcards_inside}
use Rattle.selection_faults.specs.steps.Walk.{wildcards_after}
use Rattle.selection_faults.proofs.OptionsLemmas.{wildcards_next}
use Rattle.selection_faults.proofs.options.wildcards_inside.Goals as goal

pub loop-option-preserved : goal.loop-option-preserved
loop-option-preserved c =
    let i = c.loop-option.option-index in
    let options = c.args.options.now in
    let o = c.option-item.result in
    c.wildcards_after-wildcards.ensures
    ∙ ap (λ on. wildcards_after on o.option) c.loop-option.invariant
    ∙ ap (λ x. wildcards_after (wildcards_inside c.args.around (take i options)) x.option) c.option-item.is
    ∙ wildcards_next c.args.around options i o (omega arith)
