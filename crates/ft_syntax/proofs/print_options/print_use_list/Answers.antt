-- The next choice was added after a comma.
use Rattle.std.proofs.Common.{◌∷◌, codes, arith}
use Rattle.ft_base.specs.declared.options.ThesaurusUse.{ThesaurusUse}
use Rattle.ft_syntax.specs.OptionSymbols.{use_symbols}
use Rattle.ft_syntax.proofs.Pages.{next_item}
use Rattle.ft_syntax.proofs.print_options.print_use_list.Goals as goal

pub loop-choice-preserved : goal.loop-choice-preserved
loop-choice-preserved c =
    next_item c.print_use.new.out c.loop-choice.out c.print_further_use.new.out (λ (choice : ThesaurusUse). codes "," ∷ use_symbols choice) c.in-Some.rest.now c.loop-choice.choice-index c.choice-item.result
    c.loop-choice.invariant c.in_ok-print_further_use.ensures c.choice-item.is (omega arith)
