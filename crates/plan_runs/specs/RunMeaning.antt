-- What a run is of.
use Rattle.std.specs.Prelude.{List}
use Rattle.ft_base.specs.Selection.{Form}
use Rattle.index_meaning.specs.Documents.{Numbered}
use Rattle.plan_compiler.specs.NamedLists.{NamedLists}

-- the selection and the lists of its plan, and the version of the index that it reads
pub record RunMeaning : Type 0 where
  pub form : Form
  pub lists : NamedLists
  pub version : List Numbered

abbrev pub run_of : Form → NamedLists → List Numbered → RunMeaning
run_of form lists version = record { form = form; lists = lists; version = version }
