-- ASCII text is its own decomposition; another is decomposed.
use Rattle.std.proofs.Common.{◌∙◌}
use Rattle.text_forms.specs.Forms.{exact_of}
use Rattle.text_forms.proofs.FormsLemmas.{exact_of-ascii}
use Rattle.text_forms.proofs.forms.exact.Goals as goal

pub returns-then-is_ascii : goal.returns-then-is_ascii
returns-then-is_ascii c = rw (exact_of-ascii c.args.text.now c.if-is_ascii.ensures.cases) c.read.ensures

pub returns : goal.returns
unfolding exact_of
returns c = c.from_string.ensures ∙ c.in_ok-decomposed.ensures
