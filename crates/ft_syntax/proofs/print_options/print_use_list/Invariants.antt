-- The first of the further choices were added.
use Rattle.std.proofs.Common.{◌≡◌, ◌∷◌, take, codes}
use Rattle.std.specs.Prelude.{flat_map}
use Rattle.ft_syntax.specs.steps.Page.{put_all}
use Rattle.ft_syntax.specs.OptionSymbols.{use_symbols}
use Rattle.ft_syntax.proofs.print_options.print_use_list.Given as goal

abbrev pub invariant-loop-choice : goal.invariant-loop-choice
invariant-loop-choice l = l.out ≡ put_all l.initial.out (flat_map (λ choice. codes "," ∷ use_symbols choice) (take l.choice-index l.rest))
