-- Replies about watches, by computation.
use Rattle.std.proofs.Common.{refl}
use Rattle.std.specs.Fmt.{digits}
use Rattle.reply_lines.proofs.examples.texts_of_watches.Goals as goal

pub returns-clause-lines : goal.returns-clause-lines
unfolding digits
returns-clause-lines c = refl

pub returns-clause-no_lines : goal.returns-clause-no_lines
unfolding digits
returns-clause-no_lines c = refl

pub returns-clause-full : goal.returns-clause-full
unfolding digits
returns-clause-full c = refl
