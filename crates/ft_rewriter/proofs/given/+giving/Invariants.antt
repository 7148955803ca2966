-- The first selections have the options.
use Rattle.std.proofs.Common.{◌≡◌, map, take}
use Rattle.ft_rewriter.specs.Rewriting.{given}
use Rattle.ft_syntax.specs.View.{form}
use Rattle.ft_rewriter.proofs.given.+giving.Given as goal

abbrev pub invariant-all_given-loop-part : goal.invariant-all_given-loop-part
invariant-all_given-loop-part l = map form l.all ≡ map (λ part. given l.outer (form part)) (take l.part-index l.part-items)
