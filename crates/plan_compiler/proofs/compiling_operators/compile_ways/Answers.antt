-- The phrases are numbered from the first one on, no negated part stands where it may not, and choices of phrases are united.
use Rattle.std.proofs.Common.{◌∙◌}
use Rattle.ft_syntax.specs.View.{form}
use Rattle.plan_compiler.specs.ChosenOptions.{options_of}
use Rattle.plan_compiler.proofs.UnitingLemmas.{united_plain}
use Rattle.plan_compiler.proofs.WaysLaw.{ways_compile, ways_plain}
use Rattle.plan_compiler.proofs.compiling_operators.compile_ways.Goals as goal

pub invariant_of-result : goal.invariant_of-result
invariant_of-result c = record {
  plain = λ text.
      united_plain text c.in_ok-operator.operator c.in_ok-operator-2.operator c.in_ok-operator-2.ensures
      ∙ ways_plain c.args.lists.now (options_of c.args.chosen.now) 1 c.compile_operator.new.next c.in_ok-operator.operator (form c.args.selection.now) c.in_ok-operator.ensures c.requires.allowed text;
}

pub returns : goal.returns
returns c =
    ways_compile c.args.looks c.args.lists.now (options_of c.args.chosen.now) c.compile_operator.new.next c.in_ok-operator.operator _ (form c.args.selection.now) c.in_ok-operator.ensures
    c.in_ok-operator-2.ensures c.requires.positional c.requires.allowed c.requires.options c.requires.selection
