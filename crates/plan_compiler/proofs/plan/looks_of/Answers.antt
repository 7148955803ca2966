-- Stems are looked at where all else doesn't serve.
use Rattle.ft_syntax.specs.View.{form}
use Rattle.plan_compiler.proofs.ServedLemmas.{forms_serve}
use Rattle.plan_compiler.proofs.plan.looks_of.Goals as goal

pub returns : goal.returns
returns c = forms_serve (form c.args.selection.now) c.is_served-all_forms.result c.is_served-all_forms.ensures
