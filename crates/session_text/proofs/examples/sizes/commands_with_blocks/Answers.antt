-- Commands in order, by computation.
use Rattle.std.proofs.Common.{refl}
use Rattle.std.specs.Fmt.{digits}
use Rattle.std.specs.Str.{chars, is_utf8}
use Rattle.std.proofs.Math.Utf8.{encode}
use Rattle.session_text.specs.SizedBlocks.{sized_commands}
use Rattle.session_text.proofs.examples.sizes.commands_with_blocks.Goals as goal

pub returns-clause-counted : goal.returns-clause-counted
unfolding sized_commands digits chars encode is_utf8
returns-clause-counted c = refl

pub returns-clause-skipped : goal.returns-clause-skipped
unfolding sized_commands digits chars encode is_utf8
returns-clause-skipped c = refl

pub returns-clause-no_length : goal.returns-clause-no_length
unfolding sized_commands digits chars encode is_utf8
returns-clause-no_length c = refl

pub returns-clause-said_before : goal.returns-clause-said_before
unfolding sized_commands digits chars encode is_utf8
returns-clause-said_before c = refl
