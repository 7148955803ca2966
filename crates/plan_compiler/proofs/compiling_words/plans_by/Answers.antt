-- The plans are those of the phrases.
use Rattle.std.proofs.Common.{◌∙◌, ap, map}
use Rattle.match_options.specs.Items.{item}
use Rattle.plan_compiler.specs.WordsMeaning as spec
use Rattle.plan_compiler.proofs.compiling_words.plans_by.Goals as goal

pub returns : goal.returns
returns c = c.in_ok-plans.ensures ∙ ap (map (spec.grouped_tests c.args.reading.now)) (ap (map (map item)) c.as_slice.ensures ∙ c.in_ok-phrases.ensures)
