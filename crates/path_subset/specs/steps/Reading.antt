-- Where reading one symbol leads, as the definition has it.
use Rattle.std.specs.Prelude.{ℕ, List, [], map, Option, Result}
use Rattle.ft_base.specs.Selection.{Form}
use Rattle.ft_base.specs.declared.fault.QueryFault.{QueryFault}
use Rattle.selection_grammar.specs.steps.Machine as selection
use Rattle.selection_grammar.specs.Shapes.{whole}
use Rattle.selection_grammar.specs.declared.symbol.Placed.{Placed}
use Rattle.path_grammar.specs.Form as form
use Rattle.path_grammar.specs.steps.Machine as m
use Rattle.path_grammar.specs.declared.path.PathRoot.{PathRoot}
use Rattle.path_subset.specs.Answer.{Led, led, before_selection, after_run, with_run}
use Rattle.path_subset.specs.Paths.{PlacedForm, found_form}
use Rattle.path_subset.specs.steps.State.{state_of, stands}
use Rattle.path_subset.specs.declared.state.ReadSoFar.{ReadSoFar}

abbrev pub led_of : ReadSoFar × ℕ → Led
led_of (reading, count) = led (state_of reading.state) (map found_form reading.found) count

-- after the root, and through a selection where one comes next
abbrev pub way_led : PathRoot → m.Inner → List PlacedForm → List Placed → Option ℕ → ℕ → Result Led QueryFault
way_led root inner selections rest bad size = with_run (m.along root inner) selections (before_selection (m.along root inner)) rest bad size

-- after what is read as a selection
abbrev pub run_led : PathRoot → List m.Frame → m.Joint → List form.Step → List PlacedForm → List Placed → Result (Form × ℕ) QueryFault → Result Led QueryFault
run_led root frames joint before selections rest read =
    after_run (m.along root (stands frames joint (m.selecting before [] (whole selection.start)))) selections before rest read
