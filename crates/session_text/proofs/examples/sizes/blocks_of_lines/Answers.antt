-- Commands with their blocks, by computation.
use Rattle.std.proofs.Common.{refl}
use Rattle.std.specs.Fmt.{digits}
use Rattle.std.specs.Str.{chars, is_utf8}
use Rattle.std.proofs.Math.Utf8.{encode}
use Rattle.session_text.specs.SizedBlocks.{sized_commands}
use Rattle.session_text.proofs.examples.sizes.blocks_of_lines.Goals as goal

pub returns-clause-bytes : goal.returns-clause-bytes
unfolding sized_commands digits chars encode is_utf8
returns-clause-bytes c = refl

pub returns-clause-no_bytes : goal.returns-clause-no_bytes
unfolding sized_commands digits chars encode is_utf8
returns-clause-no_bytes c = refl

pub returns-clause-returns : goal.returns-clause-returns
unfolding sized_commands digits chars encode is_utf8
returns-clause-returns c = refl

pub returns-clause-behind : goal.returns-clause-behind
unfolding sized_commands digits chars encode is_utf8
returns-clause-behind c = refl

pub returns-clause-quoted : goal.returns-clause-quoted
unfolding sized_commands digits chars encode is_utf8
returns-clause-quoted c = refl

pub returns-clause-no_name : goal.returns-clause-no_name
unfolding sized_commands digits chars encode is_utf8
returns-clause-no_name c = refl

pub returns-clause-path : goal.returns-clause-path
unfolding sized_commands digits chars encode is_utf8
returns-clause-path c = refl
