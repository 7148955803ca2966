-- A quoted name, by computation.
use Rattle.std.proofs.Common.{refl}
use Rattle.std.specs.Str.{chars}
use Rattle.reply_lines.proofs.examples.watches_that_are_read.Goals as goal

pub returns-clause-quoted : goal.returns-clause-quoted
unfolding chars
returns-clause-quoted c = refl
