-- The items are those of the shape, one of which asks for a hit.
use Rattle.std.proofs.Common.{◌∙◌, ap, sym, refl}
use Rattle.ft_syntax.specs.View.{form}
use Rattle.plan_compiler.specs.ChosenOptions.{options_of}
use Rattle.plan_compiler.proofs.CountedLemmas.{counts_compile, some_item_asks}
use Rattle.plan_compiler.proofs.compiling_counts.compile_counted.Goals as goal

pub invariant_of-result : goal.invariant_of-result
invariant_of-result c = record {
  asks = some_item_asks c.args.lists.now (options_of c.args.chosen.now) (form c.args.shape.now) c.args.filter c.requires.counted c.in_ok-items-in-Some.items c.in_ok-items-in-Some.ensures;
}

pub returns : goal.returns
returns c =
    counts_compile c.args.lists.now (options_of c.args.chosen.now) (form c.args.shape.now) c.args.filter c.requires.counted c.in_ok-items-in-Some.items c.in_ok-items-in-Some.ensures
    c.args.looks c.requires.options c.requires.selection c.requires.times _ (sym c.field_of.ensures ∙ c.in-Some.is) refl
