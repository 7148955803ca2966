-- Both directions of the law.
use Rattle.match_options.proofs.GrammarLemmas.{read_spelled, spelled_read}
use Rattle.match_options.proofs.laws.pattern_law.Goals as goal

pub returns-clause-read : goal.returns-clause-read
returns-clause-read c = read_spelled

pub returns-clause-spelled : goal.returns-clause-spelled
returns-clause-spelled c = spelled_read
