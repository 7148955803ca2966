-- The phrases are numbered from the first one on, and no word is negated.
use Rattle.ft_base.specs.Selection.{words}
use Rattle.plan_compiler.specs.ChosenOptions.{options_of}
use Rattle.plan_compiler.proofs.ShownLemmas.{words_nots, words_shown}
use Rattle.plan_compiler.proofs.WaysLaw.{nots_plain}
use Rattle.plan_compiler.proofs.compiling_shown.first_ways.Goals as goal

pub invariant_of-result : goal.invariant_of-result
invariant_of-result c = record {
  plain =
      nots_plain c.args.lists.now (options_of c.args.chosen.now) 1 c.words_operator.new.next c.in_ok-operator.operator (words c.args.value.now) c.in_ok-operator.ensures (words_nots c.args.value.now);
}

pub returns : goal.returns
returns c =
    words_shown c.args.looks c.args.lists.now (options_of c.args.chosen.now) c.args.value.now c.words_operator.new.next _ c.in_ok-operator.ensures c.least_times.ensures c.requires.options c.requires.inner
