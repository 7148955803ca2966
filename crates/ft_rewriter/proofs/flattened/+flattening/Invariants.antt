-- The operands so far are those of the first selections.
use Rattle.std.proofs.Common.{◌≡◌, map, take}
use Rattle.std.specs.Prelude.{flat_map}
use Rattle.ft_rewriter.specs.Rewriting.{flattened, operands_in}
use Rattle.ft_syntax.specs.View.{form}
use Rattle.ft_rewriter.proofs.flattened.+flattening.Given as goal

abbrev pub invariant-flat_operands-loop-part : goal.invariant-flat_operands-loop-part
invariant-flat_operands-loop-part l = map form l.operands ≡ flat_map (λ part. operands_in l.connective (flattened (form part))) (take l.part-index l.part-items)
