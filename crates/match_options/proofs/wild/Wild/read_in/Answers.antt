-- The atoms in their form, or none.
use Rattle.match_options.proofs.WildLemmas.{pattern_bad}
use Rattle.match_options.proofs.wild.Wild.read_in.Goals as goal

pub returns-in-None : goal.returns-in-None
returns-in-None c = pattern_bad c.args.case c.args.marks c.args.pattern.now c.in_ok-pattern_atoms.field-0 c.in_ok-pattern_atoms.ensures c.in-None.is
