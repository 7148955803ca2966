-- What a plan is of.
use Rattle.ft_base.specs.Selection.{Form}
use Rattle.ft_syntax.specs.View.{form}
use Rattle.plan_compiler.specs.NamedLists.{NamedLists}
use Rattle.plan_compiler.specs.declared.plan.Plan.{Plan}

-- the selection with which a plan was compiled
abbrev pub plan_form : Plan → Form
plan_form plan = form plan.selection

-- the lists with which it was compiled
abbrev pub plan_lists : Plan → NamedLists
plan_lists plan = plan.lists
