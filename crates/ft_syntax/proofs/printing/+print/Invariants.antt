-- The first of the further operands were added.
use Rattle.std.proofs.Common.{◌≡◌, ◌∷◌, take}
use Rattle.std.specs.Prelude.{flat_map}
use Rattle.ft_syntax.specs.steps.Page.{put_all}
use Rattle.ft_syntax.specs.Symbols.{operand_symbols}
use Rattle.ft_syntax.specs.View.{form}
use Rattle.ft_syntax.proofs.printing.+print.Given as goal

abbrev pub invariant-print_operands-loop-part : goal.invariant-print_operands-loop-part
invariant-print_operands-loop-part l = l.out ≡ put_all l.initial.out (flat_map (λ part. l.separator ∷ operand_symbols l.wanted (form part)) (take l.part-index l.rest))
