-- The words stand behind the others, with the bounds of their range.
use Rattle.std.proofs.Common.{◌≡◌, ◌++◌, ◌∷◌, [], subst, OnOk}
use Rattle.std.proofs.lemmas.Result.{on_ok_weaker}
use Rattle.ft_base.specs.Selection.{words}
use Rattle.ft_base.specs.declared.options.Options.{Options}
use Rattle.plan_compiler.specs.ChosenOptions.{options_of}
use Rattle.plan_compiler.specs.CompiledCounts.{ItemsCompileTo, ValueCounts}
use Rattle.plan_compiler.specs.declared.counted_plan.CountedWords.{CountedWords}
use Rattle.plan_compiler.proofs.CountedLemmas.{words_count}
use Rattle.plan_compiler.proofs.compiling_counts.push_words.Goals as goal

pub returns : goal.returns
returns c =
    let lists = c.args.lists.now in
    let options = options_of c.args.chosen.now in
    let value = c.args.words.now in
    let item : CountedWords = record { least = c.least_times.result; most = c.most_times.result; phrases = c.in_ok-phrases.phrases } in
    on_ok_weaker c.push.result
    (λ pushed.
    words_count lists options c.args.items.now c.push.new.self item value
    (subst (λ (o : Options). ValueCounts lists o c.in_ok-phrases.phrases value) c.inside.ensures c.in_ok-phrases.ensures) c.least_times.ensures c.most_times.ensures pushed)
    c.push.ensures.ok
