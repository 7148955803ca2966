-- Documents and lists as a state without marks and watches, in which nothing is kept, and with their version as what a session holds.
use Rattle.std.specs.Prelude.{[]}
use Rattle.document_store.specs.Indexed.{Indexed}
use Rattle.kept_plans.specs.Kept.{nothing_kept}
use Rattle.kept_plans.specs.Preparation.{Preparation}
use Rattle.plan_compiler.specs.NamedLists.{NamedLists}
use Rattle.session_state.specs.Held.{Held}
use Rattle.session_state.specs.State.{State}

abbrev pub state_of : Indexed → NamedLists → State
state_of held lists = record { documents = held.documents; abbreviations = held.abbreviations; lists = lists; marks = []; watches = []; kept = nothing_kept }

abbrev pub held_of : Indexed → NamedLists → Held
held_of held lists = record { state = state_of held lists; version = held.version; mark_versions = []; stamps = []; standings = [] }

-- the lists of a state, and what is kept under them
abbrev pub prepared_of : State → Preparation
prepared_of state = record { lists = state.lists; kept = state.kept }
