-- The lists of the terms so far are there.
use Rattle.std.proofs.Common.{◌≡◌, drop}
use Rattle.std.specs.Prelude.{flat_map}
use Rattle.plan_compiler.specs.Missing as spec
use Rattle.plan_compiler.proofs.missing.missing_in_terms.Given as goal

abbrev pub invariant-loop-term : goal.invariant-loop-term
invariant-loop-term l = spec.missing_among l.lists (flat_map (λ term. spec.source_names term.source) (drop l.term-index l.terms)) ≡ spec.missing_among l.lists (flat_map (λ term. spec.source_names term.source) l.terms)
