-- The name's count is what was counted so far; the others are where they were.
use Rattle.std.proofs.Common.{◌≡◌, ap, ◌∙◌}
use Rattle.std.specs.Prelude.{unwrap_or}
use Rattle.element_lines.specs.steps.Counts.{count_among}
use Rattle.element_lines.proofs.CountLemmas.{count-turned}
use Rattle.element_lines.proofs.counts.turn_to.Goals as goal

pub returns-clause-same : goal.returns-clause-same
returns-clause-same c = λ other.
    let others = c.put_last.new.counts.others in
    let number : c.unwrap_or-counts.result ≡ count_among others c.args.name.now = c.unwrap_or-counts.ensures ∙ ap (λ o. unwrap_or o 0) (c.copied.ensures ∙ c.get.ensures.value) in
    count-turned c.args.name.now other (count_among others) c.unwrap_or-counts.result number ∙ c.in_ok-put_last.ensures other
