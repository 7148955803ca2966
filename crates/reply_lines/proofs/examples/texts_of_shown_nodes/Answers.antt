-- Replies that show nodes, by computation.
use Rattle.std.proofs.Common.{refl}
use Rattle.std.specs.Fmt.{digits}
use Rattle.reply_lines.proofs.examples.texts_of_shown_nodes.Goals as goal

pub returns-clause-pairs : goal.returns-clause-pairs
unfolding digits
returns-clause-pairs c = refl

pub returns-clause-no_pairs : goal.returns-clause-no_pairs
unfolding digits
returns-clause-no_pairs c = refl
