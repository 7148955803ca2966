-- The operands are those of all selections.
use Rattle.std.proofs.Common.{◌≡◌, take, ap, ◌∙◌, arith}
use Rattle.std.proofs.lemmas.List.{take_all}
use Rattle.std.specs.Prelude.{flat_map}
use Rattle.ft_rewriter.specs.Rewriting.{flattened, operands_in}
use Rattle.ft_syntax.specs.View.{form}
use Rattle.ft_rewriter.proofs.EachSelection.{flattened_each}
use Rattle.ft_rewriter.proofs.flattened.+flattening.Goals as goal

pub flat_operands-returns : goal.flat_operands-returns
flat_operands-returns t c =
    let all : take c.loop-part.part-index c.as_slice-part-items.result.now ≡ c.args.parts.now = take_all c.loop-part.part-index c.as_slice-part-items.result.now (omega arith) ∙ c.as_slice-part-items.ensures in
    c.loop-part.invariant ∙ ap (flat_map (λ part. operands_in c.args.connective (flattened (form part)))) all ∙ flattened_each c.args.connective c.args.parts.now
