-- Where the reader stands, as the machine has it. The machine's own list of selections stays empty: each of them is read by itself.
use Rattle.std.specs.Prelude.{◌≡◌, List, [], map, reverse, Option, option_map, Result, IfOk}
use Rattle.selection_grammar.specs.Shapes.{whole}
use Rattle.selection_grammar.specs.steps.Machine as selection
use Rattle.ft_base.specs.declared.memory.Memory.{Memory}
use Rattle.path_grammar.specs.View.{step, predicate, condition, relative_path}
use Rattle.path_grammar.specs.Form as form
use Rattle.path_grammar.specs.steps.Machine as m
use Rattle.path_grammar.specs.declared.path.Step.{Step}
use Rattle.path_subset.specs.declared.state.LastStep.{LastStep}
use Rattle.path_subset.specs.declared.state.Ignoring.{Ignoring}
use Rattle.path_subset.specs.declared.state.Joint.{Joint}
use Rattle.path_subset.specs.declared.state.Frame.{Frame}
use Rattle.path_subset.specs.declared.state.Frame.TheVariants as F
use Rattle.path_subset.specs.declared.state.Stage.{Stage}
use Rattle.path_subset.specs.declared.state.Stage.TheVariants as S
use Rattle.path_subset.specs.declared.state.Inner.{Inner}
use Rattle.path_subset.specs.declared.state.Way.{Way}
use Rattle.path_subset.specs.declared.state.Way.TheVariants as W
use Rattle.path_subset.specs.declared.state.RootStage.{RootStage}
use Rattle.path_subset.specs.declared.state.RootStage.TheVariants as R
use Rattle.path_subset.specs.declared.state.State.{State}
use Rattle.path_subset.specs.declared.state.State.TheVariants as T

abbrev pub steps_of : List Step → List form.Step
steps_of steps = map step steps

abbrev pub last_of : LastStep → m.LastStep
last_of last = record { before = steps_of last.before.items; deep = last.deep; test = last.test; filters = map predicate last.filters.items }

abbrev pub ignoring_of : Ignoring → m.Ignoring
ignoring_of i = record { before = steps_of i.before.items; selection = i.selection; paths = map relative_path i.paths.items }

abbrev pub joint_of : Joint → m.Joint
joint_of joint = record { ors = map condition joint.ors.items; ands = map condition joint.ands.items; ignoring = option_map ignoring_of joint.ignoring }

abbrev pub frame_of : Frame → m.Frame
frame_of (F.Brackets joint last) = m.brackets (joint_of joint) (last_of last)
frame_of (F.Parentheses joint) = m.parentheses (joint_of joint)
frame_of (F.Negation joint) = m.negation (joint_of joint)

-- the innermost first
abbrev pub frames_of : List Frame → List m.Frame
frames_of frames = map frame_of (reverse frames)

abbrev pub stage_of : Stage → m.Stage
stage_of S.NoStep = m.no_step
stage_of (S.Slashes before deep) = m.slashes (steps_of before.items) deep
stage_of (S.Stepped last) = m.stepped (last_of last)
stage_of (S.Wanted first) = m.wanted first
stage_of (S.Number k) = m.number k
stage_of S.NotName = m.not_name
stage_of S.AtSign = m.at_sign
stage_of (S.Attribute name) = m.attribute name
stage_of (S.Equals name) = m.equals name
stage_of (S.Ended c) = m.ended (condition c)
stage_of (S.Contains before) = m.contains (steps_of before.items)
stage_of (S.Selected before number) = m.selected (steps_of before.items) number
stage_of (S.Without before number) = m.without (steps_of before.items) number
stage_of S.PathWanted = m.path_wanted

abbrev pub stands : List m.Frame → m.Joint → m.Stage → m.Inner
stands frames joint stage = m.stand frames joint [] stage

abbrev pub inner_of : Inner → m.Inner
inner_of s = stands (frames_of s.frames.items) (joint_of s.joint) (stage_of s.stage)

abbrev pub way_of : Way → m.Inner
way_of (W.On inner) = inner_of inner
way_of (W.Selection frames joint before) = stands (frames_of frames.items) (joint_of joint) (m.selecting (steps_of before.items) [] (whole selection.start))

abbrev pub root_stage_of : RootStage → m.RootStage
root_stage_of R.Nothing = m.nothing
root_stage_of R.CollectionName = m.collection_name
root_stage_of R.CollectionOpen = m.collection_open
root_stage_of R.DocName = m.doc_name
root_stage_of R.DocOpen = m.doc_open
root_stage_of (R.DocText name) = m.doc_text name

abbrev pub state_of : State → m.State
state_of (T.AtRoot stage) = m.at_root (root_stage_of stage)
state_of (T.Along root inner) = m.along root (inner_of inner)

-- What is answered is where the machine is led; want of memory is free.
abbrev pub Leads : Option m.Inner → Result (Option Inner) Memory → Type 0
Leads expected result = IfOk result (λ there. option_map inner_of there ≡ expected)
