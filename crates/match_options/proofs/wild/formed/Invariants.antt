-- The atoms so far, and what is left after the letters of a run, are all.
use Rattle.std.proofs.Common.{◌≡◌, ◌++◌, [], drop}
use Rattle.match_options.specs.Wildcards.{formed, form_by}
use Rattle.match_options.proofs.wild.formed.Given as goal

abbrev pub invariant-loop-atom : goal.invariant-loop-atom
invariant-loop-atom l = l.out.items ++ formed (form_by l.case l.marks) l.run.items (drop l.atom-index l.atoms) ≡ formed (form_by l.case l.marks) [] l.atoms
