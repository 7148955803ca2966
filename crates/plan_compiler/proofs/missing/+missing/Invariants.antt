-- The lists that the parts so far name are there.
use Rattle.std.proofs.Common.{◌≡◌, map, drop}
use Rattle.ft_syntax.specs.View.{form, forms_of}
use Rattle.plan_compiler.specs.Missing as spec
use Rattle.plan_compiler.proofs.missing.+missing.Given as goal

abbrev pub invariant-missing_in_parts-loop-part : goal.invariant-missing_in_parts-loop-part
invariant-missing_in_parts-loop-part l = spec.missing_among l.lists (spec.all_names (forms_of (map form (drop l.part-index l.part-items)))) ≡ spec.missing_among l.lists (spec.all_names (forms_of (map form l.fn.parts)))
