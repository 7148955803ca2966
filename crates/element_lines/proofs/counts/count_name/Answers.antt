-- The name has one more, every other name as many as before.
use Rattle.std.proofs.Common.{◌+◌, cond, ap, ◌∙◌}
use Rattle.std.specs.Str.{bytes_eq}
use Rattle.element_lines.specs.steps.Counts.{count_among}
use Rattle.element_lines.proofs.CountLemmas.{one-more}
use Rattle.element_lines.proofs.counts.count_name.Goals as goal

pub returns-clause-counted : goal.returns-clause-counted
returns-clause-counted c = λ other.
    let turned = c.turn_to.new.counts in
    one-more turned.last c.args.name.now other turned.number (count_among turned.others other) (c.in_ok-turn_to.ensures.last other)
    ∙ ap (λ n. n + cond (bytes_eq other c.args.name.now) 1 0) (c.in_ok-turn_to.ensures.same other)
