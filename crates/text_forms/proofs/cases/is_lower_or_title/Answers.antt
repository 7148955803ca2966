-- An ASCII character is a lowercase letter if its general category says so.
use Rattle.std.proofs.Common.{sym, ◌∙◌, ltb-true}
use Rattle.text_forms.proofs.CasesLemmas.{is_ascii_lowercase-category}
use Rattle.text_forms.proofs.cases.is_lower_or_title.Goals as goal

pub returns-then-is_ascii : goal.returns-then-is_ascii
returns-then-is_ascii c =
    c.is_ascii_lowercase.ensures.value ∙ is_ascii_lowercase-category c.args.c (ltb-true _ _ (sym c.if-is_ascii.ensures))
