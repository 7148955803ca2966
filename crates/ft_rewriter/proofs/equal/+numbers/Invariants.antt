-- The numbers of the selections so far, and those of the others, are all.
use Rattle.std.proofs.Common.{◌≡◌, ◌++◌, drop, map}
use Rattle.ft_rewriter.specs.Code.{forms_code, numbers}
use Rattle.ft_syntax.specs.View.{form, forms_of}
use Rattle.ft_rewriter.proofs.equal.+numbers.Given as goal

abbrev pub invariant-put_selections-loop-part : goal.invariant-put_selections-loop-part
invariant-put_selections-loop-part l =
    l.out ++ numbers (forms_code (forms_of (map form (drop l.part-index l.part-items)))) ≡ l.initial.out ++ numbers (forms_code (forms_of (map form l.part-items)))
