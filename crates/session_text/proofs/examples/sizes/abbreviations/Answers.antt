-- Sessions of both formats, by computation.
use Rattle.std.proofs.Common.{refl}
use Rattle.std.specs.Fmt.{digits}
use Rattle.std.specs.Str.{chars, is_utf8}
use Rattle.std.proofs.Math.Utf8.{encode}
use Rattle.session_text.specs.SizedBlocks.{sized_commands}
use Rattle.session_text.proofs.examples.sizes.abbreviations.Goals as goal

pub returns-clause-block : goal.returns-clause-block
unfolding sized_commands digits chars encode is_utf8
returns-clause-block c = refl

pub returns-clause-with_a_rest : goal.returns-clause-with_a_rest
unfolding sized_commands digits chars encode is_utf8
returns-clause-with_a_rest c = refl

pub returns-clause-no_length : goal.returns-clause-no_length
unfolding sized_commands digits chars encode is_utf8
returns-clause-no_length c = refl

pub returns-clause-first_format : goal.returns-clause-first_format
unfolding sized_commands digits chars encode is_utf8
returns-clause-first_format c = refl

pub returns-clause-first_format_alone : goal.returns-clause-first_format_alone
unfolding sized_commands digits chars encode is_utf8
returns-clause-first_format_alone c = refl
