-- Blocks at the end of bytes, by computation.
use Rattle.std.proofs.Common.{refl}
use Rattle.std.specs.Fmt.{digits}
use Rattle.std.specs.Str.{chars, is_utf8}
use Rattle.std.proofs.Math.Utf8.{encode}
use Rattle.session_text.specs.SizedBlocks.{sized_commands}
use Rattle.session_text.proofs.examples.sizes.open_blocks.Goals as goal

pub returns-clause-within : goal.returns-clause-within
unfolding sized_commands digits chars encode is_utf8
returns-clause-within c = refl

pub returns-clause-within_yet : goal.returns-clause-within_yet
unfolding sized_commands digits chars encode is_utf8
returns-clause-within_yet c = refl

pub returns-clause-at_its_end : goal.returns-clause-at_its_end
unfolding sized_commands digits chars encode is_utf8
returns-clause-at_its_end c = refl

pub returns-clause-at_its_end_yet : goal.returns-clause-at_its_end_yet
unfolding sized_commands digits chars encode is_utf8
returns-clause-at_its_end_yet c = refl

pub returns-clause-before_it : goal.returns-clause-before_it
unfolding sized_commands digits chars encode is_utf8
returns-clause-before_it c = refl

pub returns-clause-with_its_line : goal.returns-clause-with_its_line
unfolding sized_commands digits chars encode is_utf8
returns-clause-with_its_line c = refl

pub returns-clause-before_an_open_line : goal.returns-clause-before_an_open_line
unfolding sized_commands digits chars encode is_utf8
returns-clause-before_an_open_line c = refl
