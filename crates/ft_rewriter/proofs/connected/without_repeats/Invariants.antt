-- What is kept so far are the first operands, each once, with the numbers of each.
use Rattle.std.proofs.Common.{◌≡◌, map}
use Rattle.ft_rewriter.specs.Code.{form_numbers}
use Rattle.ft_rewriter.specs.Rewriting.{without_repeats}
use Rattle.ft_syntax.specs.View.{form}
use Rattle.ft_rewriter.proofs.connected.without_repeats.Given as goal

abbrev pub invariant-loop-operand : goal.invariant-loop-operand
invariant-loop-operand l = (map form l.kept ≡ without_repeats (map form l.yielded)) × (l.codes ≡ map form_numbers (map form l.kept))
