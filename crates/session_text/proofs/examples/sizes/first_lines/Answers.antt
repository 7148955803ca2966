-- First lines, by computation.
use Rattle.std.proofs.Common.{refl}
use Rattle.std.specs.Fmt.{digits}
use Rattle.std.specs.Str.{chars, is_utf8}
use Rattle.std.proofs.Math.Utf8.{encode}
use Rattle.session_text.specs.SizedBlocks.{sized_commands}
use Rattle.session_text.proofs.examples.sizes.first_lines.Goals as goal

pub returns-clause-second : goal.returns-clause-second
unfolding sized_commands digits chars encode is_utf8
returns-clause-second c = refl

pub returns-clause-ended : goal.returns-clause-ended
unfolding sized_commands digits chars encode is_utf8
returns-clause-ended c = refl

pub returns-clause-blank_before : goal.returns-clause-blank_before
unfolding sized_commands digits chars encode is_utf8
returns-clause-blank_before c = refl

pub returns-clause-blank_behind : goal.returns-clause-blank_behind
unfolding sized_commands digits chars encode is_utf8
returns-clause-blank_behind c = refl

pub returns-clause-another : goal.returns-clause-another
unfolding sized_commands digits chars encode is_utf8
returns-clause-another c = refl

pub returns-clause-mark : goal.returns-clause-mark
unfolding sized_commands digits chars encode is_utf8
returns-clause-mark c = refl

pub returns-clause-yet_open : goal.returns-clause-yet_open
unfolding sized_commands digits chars encode is_utf8
returns-clause-yet_open c = refl

pub returns-clause-later : goal.returns-clause-later
unfolding sized_commands digits chars encode is_utf8
returns-clause-later c = refl
