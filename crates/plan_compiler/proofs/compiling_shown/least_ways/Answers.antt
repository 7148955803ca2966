-- The phrases are numbered from the first one on, and no negated part stands where it may not.
use Rattle.ft_syntax.specs.View.{form}
use Rattle.plan_compiler.specs.ChosenOptions.{options_of}
use Rattle.plan_compiler.proofs.ShownLemmas.{ways_shown}
use Rattle.plan_compiler.proofs.WaysLaw.{ways_plain}
use Rattle.plan_compiler.proofs.compiling_shown.least_ways.Goals as goal

pub invariant_of-result : goal.invariant_of-result
invariant_of-result c = record {
  plain = ways_plain c.args.lists.now (options_of c.args.chosen.now) 1 c.compile_operator.new.next c.in_ok-operator.operator (form c.args.selection.now) c.in_ok-operator.ensures c.requires.allowed;
}

pub returns : goal.returns
returns c =
    ways_shown c.args.looks c.args.lists.now (options_of c.args.chosen.now) (form c.args.selection.now) c.compile_operator.new.next _ c.in_ok-operator.ensures c.requires.positional c.requires.allowed c.requires.options c.requires.selection
