-- The first of the further terms were added.
use Rattle.std.proofs.Common.{◌≡◌, take}
use Rattle.std.specs.Prelude.{flat_map}
use Rattle.ft_syntax.specs.steps.Page.{put_all}
use Rattle.ft_syntax.specs.OptionSymbols.{further_term_symbols}
use Rattle.ft_syntax.proofs.print_options.print_terms.Given as goal

abbrev pub invariant-loop-term : goal.invariant-loop-term
invariant-loop-term l = l.out ≡ put_all l.initial.out (flat_map further_term_symbols (take l.term-index l.rest))
