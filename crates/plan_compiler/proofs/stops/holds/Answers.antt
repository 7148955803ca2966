-- The set is asked.
use Rattle.std.proofs.Common.{◌∙◌, sym, ap}
use Rattle.word_lists.proofs.KeyLemmas.{any_bytes}
use Rattle.plan_compiler.specs.Stops.{has_key, keys_of_set}
use Rattle.plan_compiler.proofs.stops.holds.Goals as goal

pub returns-in-Collected : goal.returns-in-Collected
returns-in-Collected c =
    c.contains.ensures ∙ any_bytes c.args.key.now c.in-Collected.keys.keys
    ∙ ap (λ s. has_key (keys_of_set s) c.args.key.now) (sym c.in-Collected.is)
