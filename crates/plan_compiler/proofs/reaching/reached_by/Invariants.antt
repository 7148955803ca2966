-- What the first choices reach, in order, is in the set.
use Rattle.std.proofs.Common.{◌≡◌, take}
use Rattle.std.specs.Prelude.{flat_map}
use Rattle.plan_compiler.specs.Lexicon.{lexicon}
use Rattle.thesaurus_file.specs.Phrases.{in_order}
use Rattle.plan_compiler.proofs.reaching.reached_by.Given as goal

abbrev pub invariant-loop-number : goal.invariant-loop-number
invariant-loop-number l = l.reached.keys ≡ in_order (flat_map (λ choice. (lexicon l.lists).reached choice l.keys) (take l.number l.uses))
