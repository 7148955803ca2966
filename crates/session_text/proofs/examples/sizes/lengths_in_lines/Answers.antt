-- Lines with lengths, by computation.
use Rattle.std.proofs.Common.{refl}
use Rattle.std.specs.Fmt.{digits}
use Rattle.std.specs.Str.{chars, is_utf8}
use Rattle.std.proofs.Math.Utf8.{encode}
use Rattle.session_text.proofs.examples.sizes.lengths_in_lines.Goals as goal

pub returns-clause-second : goal.returns-clause-second
unfolding digits chars encode is_utf8
returns-clause-second c = refl

pub returns-clause-blanks : goal.returns-clause-blanks
unfolding digits chars encode is_utf8
returns-clause-blanks c = refl

pub returns-clause-without_a_rest : goal.returns-clause-without_a_rest
unfolding digits chars encode is_utf8
returns-clause-without_a_rest c = refl

pub returns-clause-abbreviations : goal.returns-clause-abbreviations
unfolding digits chars encode is_utf8
returns-clause-abbreviations c = refl

pub returns-clause-third : goal.returns-clause-third
unfolding digits chars encode is_utf8
returns-clause-third c = refl

pub returns-clause-none : goal.returns-clause-none
unfolding digits chars encode is_utf8
returns-clause-none c = refl

pub returns-clause-longer : goal.returns-clause-longer
unfolding digits chars encode is_utf8
returns-clause-longer c = refl

pub returns-clause-no_block : goal.returns-clause-no_block
unfolding digits chars encode is_utf8
returns-clause-no_block c = refl

pub returns-clause-not_text : goal.returns-clause-not_text
unfolding digits chars encode is_utf8
returns-clause-not_text c = refl
