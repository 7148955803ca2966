-- The next string was added after a comma.
use Rattle.std.proofs.Common.{ℕ, List, [], ◌∷◌, codes, arith}
use Rattle.ft_syntax.specs.OptionSymbols.{string_symbol}
use Rattle.ft_syntax.proofs.Pages.{next_item}
use Rattle.ft_syntax.proofs.print_words.print_strings.Goals as goal

pub loop-text-preserved : goal.loop-text-preserved
loop-text-preserved c =
    next_item c.string.new.self c.loop-text.out c.print_further_string.new.out (λ (text : List ℕ). codes "," ∷ string_symbol text ∷ []) c.in-Some.rest.now c.loop-text.text-index c.text-item.result
    c.loop-text.invariant c.in_ok-print_further_string.ensures c.text-item.is (omega arith)
