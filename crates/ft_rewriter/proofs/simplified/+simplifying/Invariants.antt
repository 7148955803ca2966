-- The first selections are simplified, and negated.
use Rattle.std.proofs.Common.{◌≡◌, map, take}
use Rattle.ft_rewriter.specs.Rewriting.{negated, simplified}
use Rattle.ft_syntax.specs.View.{form}
use Rattle.ft_rewriter.proofs.simplified.+simplifying.Given as goal

abbrev pub invariant-all_simplified-loop-part : goal.invariant-all_simplified-loop-part
invariant-all_simplified-loop-part l = map form l.all ≡ map (λ part. simplified (form part)) (take l.part-index l.part-items)

abbrev pub invariant-all_negated-loop-part : goal.invariant-all_negated-loop-part
invariant-all_negated-loop-part l = map form l.all ≡ map (λ part. negated (form part)) (take l.part-index l.part-items)
