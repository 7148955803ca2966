-- A command line, by computation.
use Rattle.std.proofs.Common.{refl}
use Rattle.std.specs.Str.{chars, is_utf8}
use Rattle.std.proofs.Math.Utf8.{encode}
use Rattle.session_text.proofs.examples.shown.nodes_shown_in_both_formats.Goals as goal

pub returns-clause-second : goal.returns-clause-second
unfolding chars encode is_utf8
returns-clause-second c = refl
