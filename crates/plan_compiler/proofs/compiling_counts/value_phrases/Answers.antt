-- The hits of the phrases are those of the words.
use Rattle.std.proofs.Common.{◌∙◌, ap, subst, map, List}
use Rattle.std.proofs.lemmas.Result.{IfOk-weaker}
use Rattle.match_options.specs.Items.{item}
use Rattle.plan_compiler.specs.ChosenOptions.{options_of}
use Rattle.plan_compiler.specs.CompiledCounts.{ValueCounts}
use Rattle.plan_compiler.specs.CompiledOperators.{PhrasesCompileTo}
use Rattle.plan_compiler.specs.declared.operator_plan.OperatorPlan as O
use Rattle.plan_compiler.specs.declared.operator_plan.PhraseTests.{PhraseTests}
use Rattle.plan_compiler.proofs.CountedPhrases.{value_counts}
use Rattle.plan_compiler.proofs.compiling_counts.value_phrases.Goals as goal

pub returns : goal.returns
returns c =
    let reading = c.in_ok-reading.reading in
    let next = c.numbered_phrases.new.next in
    IfOk-weaker c.numbered_phrases.result (λ (found : List PhraseTests). PhrasesCompileTo reading 1 next (map O.Phrase found) (map (map item) c.as_slice.result.now))
    (λ (found : List PhraseTests). ValueCounts c.args.lists.now (options_of c.args.chosen.now) found c.args.words.now)
    (λ found all.
    value_counts c.args.lists.now (options_of c.args.chosen.now) reading c.in_ok-reading.ensures c.args.words.now next found
    (subst (PhrasesCompileTo reading 1 next (map O.Phrase found)) (ap (map (map item)) c.as_slice.ensures ∙ c.in_ok-phrases.ensures) all))
    c.numbered_phrases.ensures
