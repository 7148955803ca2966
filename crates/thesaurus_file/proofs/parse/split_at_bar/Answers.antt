-- A text without a bar is its only part, and the first part of another stands before its first bar.
use Rattle.std.proofs.Common.{arith}
use Rattle.std.proofs.lemmas.Str.Pattern.{split_once_first}
use Rattle.thesaurus_file.proofs.FieldLemmas.{parts_at_bar}
use Rattle.thesaurus_file.proofs.parse.split_at_bar.Goals as goal

pub returns : goal.returns
returns c = parts_at_bar c.args.text.now c.split_once.result (split_once_first 124 c.args.text.now c.split_once.result c.split_once.ensures.cases (omega arith))
