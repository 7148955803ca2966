-- The thesauri so far are there.
use Rattle.std.proofs.Common.{◌≡◌, map, drop}
use Rattle.plan_compiler.specs.Missing as spec
use Rattle.plan_compiler.proofs.missing.missing_in_uses.Given as goal

abbrev pub invariant-loop-choice : goal.invariant-loop-choice
invariant-loop-choice l = spec.missing_among l.lists (map (λ choice. spec.thesaurus choice.name) (drop l.choice-index l.uses)) ≡ spec.missing_among l.lists (map (λ choice. spec.thesaurus choice.name) l.uses)
