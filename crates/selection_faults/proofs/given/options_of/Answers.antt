-- One option further.
use Rattle.std.proofs.Common.{sym, ap, ◌∙◌}
use Rattle.selection_grammar.specs.Form.{with_option}
use Rattle.selection_faults.proofs.OptionsLemmas.{options_more}
use Rattle.selection_faults.proofs.given.options_of.Goals as goal

pub loop-placed-preserved : goal.loop-placed-preserved
loop-placed-preserved c =
    let placed = c.in-Some.placed in
    c.with_option-options.ensures
    ∙ ap (λ options. with_option options placed.option) c.loop-placed.invariant
    ∙ sym (options_more c.loop-placed.yielded placed)
