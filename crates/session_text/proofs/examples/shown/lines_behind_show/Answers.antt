-- Sessions of both formats, by computation.
use Rattle.std.proofs.Common.{refl}
use Rattle.std.specs.Fmt.{digits}
use Rattle.std.specs.Str.{chars, is_utf8}
use Rattle.std.proofs.Math.Utf8.{encode}
use Rattle.session_text.specs.SizedBlocks.{sized_commands}
use Rattle.session_text.proofs.examples.shown.lines_behind_show.Goals as goal

pub returns-clause-second : goal.returns-clause-second
unfolding chars digits encode is_utf8 sized_commands
returns-clause-second c = refl

pub returns-clause-first : goal.returns-clause-first
unfolding chars digits encode is_utf8 sized_commands
returns-clause-first c = refl
