-- The words stand behind the others, and must not occur.
use Rattle.std.proofs.Common.{◌≡◌, ◌++◌, ◌∷◌, [], Some, None, subst, OnOk}
use Rattle.std.proofs.lemmas.Result.{on_ok_weaker}
use Rattle.ft_base.specs.Selection.{not_of}
use Rattle.ft_syntax.specs.View.{form}
use Rattle.plan_compiler.specs.ChosenOptions.{options_of}
use Rattle.plan_compiler.specs.CompiledCounts.{ItemsCompileTo}
use Rattle.plan_compiler.specs.declared.counted_plan.CountedWords.{CountedWords}
use Rattle.plan_compiler.proofs.CountedLemmas.{negated_counts}
use Rattle.plan_compiler.proofs.compiling_counts.push_negated.Goals as goal

pub returns : goal.returns
returns c =
    let lists = c.args.lists.now in
    let options = options_of c.args.chosen.now in
    on_ok_weaker c.push.result
    (λ pushed. negated_counts lists options c.args.items.now c.push.new.self c.in_ok-phrases.phrases (form c.args.operand.now) c.in_ok-phrases.ensures pushed)
    c.push.ensures.ok
