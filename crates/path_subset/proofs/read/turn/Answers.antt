-- In the root no selection comes next, whatever stands after.
use Rattle.std.proofs.Common.{◌≡◌, false, sym, ◌∙◌, ap, subst, map}
use Rattle.ft_parser.specs.Answer.{Answered}
use Rattle.path_grammar.specs.steps.Machine.{advance, open_count}
use Rattle.path_subset.specs.Answer.{led_by}
use Rattle.path_subset.specs.Limits.{exceeds}
use Rattle.path_subset.specs.Paths.{found_form}
use Rattle.path_subset.specs.steps.Reading.{led_of}
use Rattle.path_subset.specs.steps.State.{state_of}
use Rattle.path_subset.proofs.Skipped.{turned_within}
use Rattle.path_subset.proofs.read.turn.Goals as goal

pub returns-in-AtRoot-clause-value : goal.returns-in-AtRoot-clause-value
returns-in-AtRoot-clause-value c =
    let below : exceeds (open_count (state_of c.args.reading.state)) c.args.placed.now.symbol ≡ false = ap (λ d. exceeds d c.args.placed.now.symbol) (sym c.open_count.ensures) ∙ sym c.exceeds.ensures ∙ c.if-exceeds.false in
    subst (λ r. Answered led_of r c.at_root.result)
    (ap (λ s. led_by c.args.placed.now (advance (state_of s) c.args.placed.now) (map found_form c.args.reading.found) c.args.rest.now.symbols.now c.args.rest.now.bad c.args.rest.now.size) (sym c.in-AtRoot.is)
    ∙ turned_within (state_of c.args.reading.state) (map found_form c.args.reading.found) c.args.placed.now c.args.rest.now.symbols.now c.args.rest.now.bad c.args.rest.now.size below)
    (c.at_root.ensures.value c.args.rest.now.symbols.now c.args.rest.now.bad c.args.rest.now.size)
