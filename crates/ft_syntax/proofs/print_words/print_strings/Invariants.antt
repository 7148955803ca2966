-- The first of the further strings were added.
use Rattle.std.proofs.Common.{◌≡◌, [], ◌∷◌, take, codes}
use Rattle.std.specs.Prelude.{flat_map}
use Rattle.ft_syntax.specs.steps.Page.{put_all}
use Rattle.ft_syntax.specs.OptionSymbols.{string_symbol}
use Rattle.ft_syntax.proofs.print_words.print_strings.Given as goal

abbrev pub invariant-loop-text : goal.invariant-loop-text
invariant-loop-text l = l.out ≡ put_all l.initial.out (flat_map (λ text. codes "," ∷ string_symbol text ∷ []) (take l.text-index l.rest))
