-- The parts so far have no range of times.
use Rattle.std.proofs.Common.{◌≡◌, drop, map}
use Rattle.ft_syntax.specs.View.{form, forms_of}
use Rattle.all_matches.specs.Allowed as allowed
use Rattle.plan_compiler.proofs.times.+times.Given as goal

abbrev pub invariant-each_without_times-loop-part : goal.invariant-each_without_times-loop-part
invariant-each_without_times-loop-part l =
    allowed.each_without_times (forms_of (map form (drop l.part-index l.part-items))) ≡ allowed.each_without_times (forms_of (map form l.fn.parts))
