-- The operands so far are those of the first selections.
use Rattle.std.proofs.Common.{◌≡◌, map}
use Rattle.std.specs.Prelude.{flat_map}
use Rattle.ft_rewriter.specs.Rewriting.{operands_in}
use Rattle.ft_syntax.specs.View.{form}
use Rattle.ft_rewriter.proofs.connected.all_operands.Given as goal

abbrev pub invariant-loop-part : goal.invariant-loop-part
invariant-loop-part l = map form l.operands ≡ flat_map (operands_in l.connective) (map form l.yielded)
