-- What belongs to a line, by computation.
use Rattle.std.proofs.Common.{refl}
use Rattle.std.specs.Fmt.{digits}
use Rattle.std.specs.Str.{chars, is_utf8}
use Rattle.std.proofs.Math.Utf8.{encode}
use Rattle.session_text.proofs.examples.sizes.sizes_of_first_lines.Goals as goal

pub returns-clause-line : goal.returns-clause-line
unfolding digits chars encode is_utf8
returns-clause-line c = refl

pub returns-clause-open_line : goal.returns-clause-open_line
unfolding digits chars encode is_utf8
returns-clause-open_line c = refl

pub returns-clause-block : goal.returns-clause-block
unfolding digits chars encode is_utf8
returns-clause-block c = refl

pub returns-clause-feeds : goal.returns-clause-feeds
unfolding digits chars encode is_utf8
returns-clause-feeds c = refl

pub returns-clause-no_bytes : goal.returns-clause-no_bytes
unfolding digits chars encode is_utf8
returns-clause-no_bytes c = refl

pub returns-clause-open_block : goal.returns-clause-open_block
unfolding digits chars encode is_utf8
returns-clause-open_block c = refl

pub returns-clause-no_length : goal.returns-clause-no_length
unfolding digits chars encode is_utf8
returns-clause-no_length c = refl
