-- What a kept plan is of: the text of its selection, the selection, and the lists that selections name.
use Rattle.std.specs.Prelude.{ℕ, List}
use Rattle.ft_base.specs.Selection.{Form}
use Rattle.plan_compiler.specs.NamedLists.{NamedLists}

pub record PlanOf : Type 0 where
  pub text : List ℕ
  pub form : Form
  pub lists : NamedLists

abbrev pub plan_of : List ℕ → Form → NamedLists → PlanOf
plan_of text form lists = record { text = text; form = form; lists = lists }
