-- Compiled words say whether the words occur often enough, at the price of the words.
use Rattle.std.proofs.Common.{subst}
use Rattle.ft_base.specs.declared.options.Options.{Options}
use Rattle.plan_compiler.specs.ChosenOptions.{options_of}
use Rattle.plan_compiler.specs.CompiledWords.{IsCompiled}
use Rattle.plan_compiler.proofs.CompiledLemmas.{words_compile}
use Rattle.plan_compiler.proofs.SelectionMeaning.{served_inside}
use Rattle.plan_compiler.proofs.compiling.compile_value.Goals as goal

pub returns : goal.returns
returns c =
    words_compile c.args.looks c.args.lists.now (options_of c.args.chosen.now) c.args.value.now c.in_ok-compile_words.field-0
    (subst (λ (options : Options). IsCompiled c.in_ok-compile_words.field-0 c.args.lists.now options c.args.value.now) c.inside-chosen.ensures c.in_ok-compile_words.ensures)
    (served_inside c.args.looks c.args.value.now.options (options_of c.args.chosen.now) c.requires.inner c.requires.options)
