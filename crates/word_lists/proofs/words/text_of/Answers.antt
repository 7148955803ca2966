-- A text that was read as UTF-8 is UTF-8, and one that wasn't isn't.
use Rattle.std.proofs.lemmas.Str.{is_utf8-from_IsUtf8}
use Rattle.word_lists.proofs.WordLemmas.{is_no_utf8}
use Rattle.word_lists.proofs.words.text_of.Goals as goal

pub returns-in-Ok-clause-text : goal.returns-in-Ok-clause-text
returns-in-Ok-clause-text c = (is_utf8-from_IsUtf8 c.args.line.now c.in-Ok.ensures.cases.1, c.in-Ok.ensures.cases.0)

pub returns-in-Err-clause-none : goal.returns-in-Err-clause-none
returns-in-Err-clause-none c = is_no_utf8 c.args.line.now c.in-Err.ensures.cases.0
