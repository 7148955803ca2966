-- The parts so far are decided.
use Rattle.std.proofs.Common.{◌≡◌, drop, map}
use Rattle.ft_syntax.specs.View.{form, forms_of}
use Rattle.plan_compiler.specs.Served as spec
use Rattle.plan_compiler.proofs.served.+served.Given as goal

abbrev pub invariant-all_served-loop-part : goal.invariant-all_served-loop-part
invariant-all_served-loop-part l = spec.all_served l.looks (forms_of (map form (drop l.part-index l.part-items))) ≡ spec.all_served l.looks (forms_of (map form l.fn.parts))
