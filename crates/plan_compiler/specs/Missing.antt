-- The lists that a selection names, in the order of its printed form, and the first of them that isn't there.
use Rattle.std.specs.Prelude.{◌≡◌, ℕ, Bool, List, [], ◌∷◌, ◌++◌, map, flat_map, Option, Some, None, if◌then◌else◌, ⊤}
use Rattle.std.specs.Option.{is_none}
use Rattle.ft_base.specs.declared.options.Options.{Options}
use Rattle.ft_base.specs.declared.options.StopChoice.{StopChoice}
use Rattle.ft_base.specs.declared.options.StopChoice.TheVariants as Stop
use Rattle.ft_base.specs.declared.options.StopSource.{StopSource}
use Rattle.ft_base.specs.declared.options.StopSource.TheVariants.{At, Written}
use Rattle.ft_base.specs.declared.options.ThesaurusChoice.{ThesaurusChoice}
use Rattle.ft_base.specs.declared.options.ThesaurusChoice.TheVariants as Thesaurus
use Rattle.ft_base.specs.Selection.{Form, Forms, words, or_of, and_of, mild_not, not_of, filtered, with_options, none, more}
use Rattle.plan_compiler.specs.NamedLists.{NamedLists, list_named}
use Rattle.plan_compiler.specs.declared.fault.CompileFault.{CompileFault}
use Rattle.plan_compiler.specs.declared.fault.CompileFault.TheVariants as Fault

-- a list that is named
pub data Named : Type 0 where
  stop_list : List ℕ → Named
  thesaurus : List ℕ → Named

abbrev pub name_of : Named → List ℕ
name_of (stop_list name) = name
name_of (thesaurus name) = name

abbrev pub is_missing : NamedLists → Named → Bool
is_missing lists (stop_list name) = is_none (list_named name lists.stops)
is_missing lists (thesaurus name) = is_none (list_named name lists.thesauri)

abbrev pub source_names : StopSource → List Named
source_names (At name) = stop_list name ∷ []
source_names (Written texts) = []

abbrev pub stop_names : Option StopChoice → List Named
stop_names None = []
stop_names (Some Stop.No) = []
stop_names (Some (Stop.Sets terms)) = flat_map (λ term. source_names term.source) terms

abbrev pub thesaurus_names : Option ThesaurusChoice → List Named
thesaurus_names None = []
thesaurus_names (Some Thesaurus.No) = []
thesaurus_names (Some (Thesaurus.Uses uses)) = map (λ choice. thesaurus choice.name) uses

-- a thesaurus option is printed before the stop words
abbrev pub option_names : Options → List Named
option_names options = thesaurus_names options.thesaurus ++ stop_names options.stop_words

-- the options of an operand are printed before those after it. One that is overridden names its list all the same
unfoldable mutual
  pub names : Form → List Named
  names (words value) = option_names value.options
  names (or_of forms) = all_names forms
  names (and_of forms) = all_names forms
  names (mild_not left right) = names left ++ names right
  names (not_of form) = names form
  names (filtered form kind) = names form
  names (with_options form options) = names form ++ option_names options

  pub all_names : Forms → List Named
  all_names none = []
  all_names (more form rest) = names form ++ all_names rest

abbrev pub missing_among : NamedLists → List Named → Option (List ℕ)
missing_among lists [] = None
missing_among lists (first ∷ rest) = if is_missing lists first then Some (name_of first) else missing_among lists rest

-- the name of the first list that isn't there
abbrev pub first_missing : NamedLists → Form → Option (List ℕ)
first_missing lists form = missing_among lists (names form)

-- a fault names the list, or is want of memory
abbrev pub IsMissing : CompileFault → Option (List ℕ) → Type 0
IsMissing (Fault.NoSuchList name) missing = missing ≡ Some name
IsMissing Fault.Memory missing = ⊤
