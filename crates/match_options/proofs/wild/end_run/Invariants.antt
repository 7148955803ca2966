-- The first letters were added.
use Rattle.std.proofs.Common.{◌≡◌, ◌++◌, map, take}
use Rattle.match_options.specs.declared.atom.Atom.TheVariants.{Letter}
use Rattle.match_options.proofs.wild.end_run.Given as goal

abbrev pub invariant-loop-letter : goal.invariant-loop-letter
invariant-loop-letter l = l.out.items ≡ l.fn.out.items ++ map Letter (take l.letter-index l.letter-items)
