-- Each clause is a lemma.
use Rattle.selection_round_trip.proofs.Induction.{printed_spells, faultless_spells}
use Rattle.selection_round_trip.proofs.laws.printed.spelled_again.Goals as goal

pub returns-clause-spelled : goal.returns-clause-spelled
returns-clause-spelled c = printed_spells

pub returns-clause-faultless : goal.returns-clause-faultless
returns-clause-faultless c = faultless_spells
