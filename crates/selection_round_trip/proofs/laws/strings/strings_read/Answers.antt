-- Each clause is a lemma.
use Rattle.selection_round_trip.proofs.PrintedStrings.{string_written, string_read}
use Rattle.selection_round_trip.proofs.laws.strings.strings_read.Goals as goal

pub returns-clause-written : goal.returns-clause-written
returns-clause-written c = string_written

pub returns-clause-read : goal.returns-clause-read
returns-clause-read c = string_read
