-- The phrase has the number, and the variants are those that were read.
use Rattle.std.proofs.Common.{rules, map}
use Rattle.match_options.specs.Items.{item}
use Rattle.plan_compiler.proofs.PhraseOperators.{phrase_to}
use Rattle.plan_compiler.proofs.compiling_phrases.numbered_phrase.Goals as goal

pub returns-in-Some : goal.returns-in-Some
returns-in-Some c =
    phrase_to c.args.reading.now c.args.next.now c.in-Some.following c.in_ok-variants.variants (map item c.args.phrase.now) c.in_ok-variants.ensures.passes c.in_ok-variants.ensures.asks (search rules)
