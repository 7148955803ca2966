-- A machine that goes over the symbols of a path once, one symbol at a time: which brackets and parentheses are open, what stands before
-- the condition under way, and what was read last.
use Rattle.std.specs.Prelude.{ℕ, Bool, true, false, if◌then◌else◌, List, [], ◌∷◌, ◌++◌, length, max, Option, Some, None, codes}
use Rattle.selection_grammar.specs.declared.symbol.Symbol.{Symbol}
use Rattle.selection_grammar.specs.declared.symbol.Symbol.TheVariants as S
use Rattle.selection_grammar.specs.declared.symbol.Placed.{Placed}
use Rattle.selection_grammar.specs.Shapes.{Shape, is_word}
use Rattle.selection_grammar.specs.Tree.{Tree}
use Rattle.selection_grammar.specs.steps.Machine as selection
use Rattle.path_grammar.specs.declared.path.NameTest.{NameTest}
use Rattle.path_grammar.specs.declared.path.NameTest.TheVariants as T
use Rattle.path_grammar.specs.declared.path.PathRoot.{PathRoot}
use Rattle.path_grammar.specs.declared.path.PathRoot.TheVariants as R
use Rattle.path_grammar.specs.Form as form
use Rattle.path_grammar.specs.Form.{steps, predicates, paths, no_paths, joined, or_of, and_of}
use Rattle.path_grammar.specs.Grammar.{Inside, inside}

-- a step to which further predicates may belong, and the steps before it
pub record LastStep : Type 0 where
  pub before : List form.Step
  pub deep : Bool
  pub test : NameTest
  pub filters : List form.Predicate

abbrev pub tested : List form.Step → Bool → NameTest → LastStep
tested before deep test = record { before = before; deep = deep; test = test; filters = [] }

abbrev pub all_steps : LastStep → List form.Step
all_steps last = last.before ++ form.step last.deep last.test (predicates last.filters) ∷ []

abbrev pub filtered : LastStep → form.Predicate → LastStep
filtered last filter = record { before = last.before; deep = last.deep; test = last.test; filters = last.filters ++ filter ∷ [] }

-- `contains text` with a selection, after these steps, and the paths after `without content`, but for the one under way
pub record Ignoring : Type 0 where
  pub before : List form.Step
  pub selection : ℕ
  pub paths : List form.Steps

abbrev pub with_path : Ignoring → List form.Step → Ignoring
with_path i last = record { before = i.before; selection = i.selection; paths = i.paths ++ steps last ∷ [] }

-- What is to the left of the condition under way: the conditions before the last `or`, and after that those before the last `and`;
-- and where a path after `without content` is under way, what it belongs to.
pub record Joint : Type 0 where
  pub ors : List form.Condition
  pub ands : List form.Condition
  pub ignoring : Option Ignoring

abbrev pub to_left : List form.Condition → List form.Condition → Joint
to_left ors ands = record { ors = ors; ands = ands; ignoring = None }

abbrev pub no_joint : Joint
no_joint = to_left [] []

abbrev pub ignored : List form.Condition → List form.Condition → Ignoring → Joint
ignored ors ands i = record { ors = ors; ands = ands; ignoring = Some i }

abbrev pub ands_with : Joint → form.Condition → List form.Condition
ands_with joint c = joint.ands ++ c ∷ []

abbrev pub ors_with : Joint → form.Condition → List form.Condition
ors_with joint c = joint.ors ++ joined and_of (ands_with joint c) ∷ []

abbrev pub condition_with : Joint → form.Condition → form.Condition
condition_with joint c = joined or_of (ors_with joint c)

-- what is open, and the conditions to the left of it
pub data Frame : Type 0 where
  -- `[` after a step
  brackets : Joint → LastStep → Frame
  parentheses : Joint → Frame
  -- `not (`
  negation : Joint → Frame

-- what was read last
pub data Stage : Type 0 where
  -- `.`, or the root of the path: no step yet
  no_step : Stage
  -- `/` or `//`, after these steps
  slashes : List form.Step → Bool → Stage
  stepped : LastStep → Stage
  -- what a condition stands after, and whether that is `[`, so that a number may stand too
  wanted : Bool → Stage
  number : ℕ → Stage
  -- the name `not`, in the place of a condition
  not_name : Stage
  -- `@`, and with a name, and with `=` after it
  at_sign : Stage
  attribute : List ℕ → Stage
  equals : List ℕ → Stage
  -- a condition that can't go on
  ended : form.Condition → Stage
  -- `contains`, after these steps
  contains : List form.Step → Stage
  -- some symbols of a selection, and where its machine stands after them
  selecting : List form.Step → List Placed → Shape selection.State → Stage
  -- a selection that was read by itself, with its number, and with `without` after it
  selected : List form.Step → ℕ → Stage
  without : List form.Step → ℕ → Stage
  -- what an ignored path stands after: `content`, or `|`
  path_wanted : Stage

-- After the root. Where nothing is open, the steps are those of the path.
pub record Inner : Type 0 where
  pub frames : List Frame
  pub joint : Joint
  pub selections : List Inside
  pub stage : Stage

abbrev pub stand : List Frame → Joint → List Inside → Stage → Inner
stand frames joint selections stage = record { frames = frames; joint = joint; selections = selections; stage = stage }

abbrev pub start : Inner
start = stand [] no_joint [] no_step

-- the step `not` of a condition that begins so
abbrev pub not_step : LastStep
not_step = tested [] false (T.Name (codes "not"))

-- what goes on with the steps of a condition, but for those of an ignored path
abbrev pub unless_ignored : Option Ignoring → Option Inner → Option Inner
unless_ignored None there = there
unless_ignored (Some i) there = None

abbrev pub contains_next : List Frame → Joint → List Inside → List form.Step → Option Inner
contains_next [] joint selections before = None
contains_next (frame ∷ outer) joint selections before = unless_ignored joint.ignoring (Some (stand (frame ∷ outer) joint selections (contains before)))

-- what goes on with the steps of an ignored path
abbrev pub bar_next : List Frame → Joint → List Inside → List form.Step → Option Ignoring → Option Inner
bar_next frames joint selections before None = None
bar_next frames joint selections before (Some i) = Some (stand frames (ignored joint.ors joint.ands (with_path i before)) selections path_wanted)

-- what may stand after steps, but for predicates
abbrev pub steps_next : List Frame → Joint → List Inside → List form.Step → Symbol → Option Inner
steps_next frames joint selections before S.Slash = Some (stand frames joint selections (slashes before false))
steps_next frames joint selections before S.DoubleSlash = Some (stand frames joint selections (slashes before true))
steps_next frames joint selections before (S.Name name) = if is_word (codes "contains") (S.Name name) then contains_next frames joint selections before
    else None
steps_next frames joint selections before S.VerticalBar = bar_next frames joint selections before joint.ignoring
steps_next frames joint selections before other = None

abbrev pub step_next : List Frame → Joint → List Inside → LastStep → Symbol → Option Inner
step_next frames joint selections last S.OpenBracket = Some (stand (brackets joint last ∷ frames) no_joint selections (wanted true))
step_next frames joint selections last other = steps_next frames joint selections (all_steps last) other

abbrev pub test_next : List Frame → Joint → List Inside → List form.Step → Bool → Symbol → Option Inner
test_next frames joint selections before deep (S.Name name) = Some (stand frames joint selections (stepped (tested before deep (T.Name name))))
test_next frames joint selections before deep S.Star = Some (stand frames joint selections (stepped (tested before deep T.Any)))
test_next frames joint selections before deep other = None

abbrev pub number_next : List Frame → Joint → List Inside → Bool → ℕ → Option Inner
number_next frames joint selections true k = Some (stand frames joint selections (number k))
number_next frames joint selections false k = None

abbrev pub wanted_next : List Frame → Joint → List Inside → Bool → Symbol → Option Inner
wanted_next frames joint selections first (S.Number k) = number_next frames joint selections first k
wanted_next frames joint selections first S.OpenParenthesis = Some (stand (parentheses joint ∷ frames) no_joint selections (wanted false))
wanted_next frames joint selections first S.At = Some (stand frames joint selections at_sign)
wanted_next frames joint selections first S.Period = Some (stand frames joint selections no_step)
wanted_next frames joint selections first (S.Name name) = if is_word (codes "not") (S.Name name) then Some (stand frames joint selections not_name)
    else test_next frames joint selections [] false (S.Name name)
wanted_next frames joint selections first other = test_next frames joint selections [] false other

-- `not` is a name but for `(` directly after it
abbrev pub not_next : List Frame → Joint → List Inside → Symbol → Option Inner
not_next frames joint selections S.OpenParenthesis = Some (stand (negation joint ∷ frames) no_joint selections (wanted false))
not_next frames joint selections other = step_next frames joint selections not_step other

-- a bracket that closes after a predicate
abbrev pub close_bracket : List Frame → List Inside → form.Predicate → Option Inner
close_bracket (brackets joint last ∷ outer) selections filter = Some (stand outer joint selections (stepped (filtered last filter)))
close_bracket other selections filter = None

abbrev pub close_parenthesis : List Frame → List Inside → form.Condition → Option Inner
close_parenthesis (parentheses joint ∷ outer) selections c = Some (stand outer joint selections (ended c))
close_parenthesis (negation joint ∷ outer) selections c = Some (stand outer joint selections (ended (form.not_of c)))
close_parenthesis other selections c = None

abbrev pub number_ended : List Frame → List Inside → ℕ → Symbol → Option Inner
number_ended frames selections k S.CloseBracket = close_bracket frames selections (form.number k)
number_ended frames selections k other = None

abbrev pub name_next : List Frame → Joint → List Inside → Symbol → Option Inner
name_next frames joint selections (S.Name name) = Some (stand frames joint selections (attribute name))
name_next frames joint selections other = None

abbrev pub attribute_next : List Frame → Joint → List Inside → List ℕ → Symbol → Option Inner
attribute_next frames joint selections name S.Equals = Some (stand frames joint selections (equals name))
attribute_next frames joint selections name other = None

abbrev pub value_next : List Frame → Joint → List Inside → List ℕ → Symbol → Option Inner
value_next frames joint selections name (S.Text value) = Some (stand frames joint selections (ended (form.attribute name (Some value))))
value_next frames joint selections name other = None

abbrev pub text_next : List Frame → Joint → List Inside → List form.Step → Symbol → Option Inner
text_next frames joint selections before symbol = if is_word (codes "text") symbol
    then Some (stand frames joint selections (selecting before [] (Shape.whole selection.start)))
    else None

abbrev pub selecting_next : List Frame → Joint → List Inside → List form.Step → List Placed → Option (Shape selection.State) → Option Inner
selecting_next frames joint selections before symbols None = None
selecting_next frames joint selections before symbols (Some shape) = Some (stand frames joint selections (selecting before symbols shape))

-- an ignored path begins with no condition but that of its steps
abbrev pub path_next : List Frame → Joint → List Inside → Symbol → Option Inner
path_next frames joint selections S.Period = Some (stand frames joint selections no_step)
path_next frames joint selections other = test_next frames joint selections [] false other

abbrev pub without_next : List Frame → Joint → List Inside → List form.Step → ℕ → Symbol → Option Inner
without_next frames joint selections before k symbol = if is_word (codes "without") symbol
    then Some (stand frames joint selections (without before k))
    else None

abbrev pub content_next : List Frame → Joint → List Inside → List form.Step → ℕ → Symbol → Option Inner
content_next frames joint selections before k symbol = if is_word (codes "content") symbol
    then Some (stand frames (ignored joint.ors joint.ands (record { before = before; selection = k; paths = [] })) selections path_wanted)
    else None

-- `without` after a selection that may end here
abbrev pub whole_next : List Frame → Joint → List Inside → List form.Step → List Placed → Option Tree → Symbol → Option Inner
whole_next frames joint selections before symbols None symbol = None
whole_next frames joint selections before symbols (Some tree) symbol =
    without_next frames joint (selections ++ inside symbols tree ∷ []) before (length selections) symbol

abbrev pub otherwise : {A : Type 0} → Option A → Option A → Option A
otherwise None there = there
otherwise (Some here) there = Some here

-- where a symbol leads that goes on with the condition under way, or with the steps of the path
abbrev pub within_next : List Frame → Joint → List Inside → Stage → Placed → Option Inner
within_next frames joint selections no_step p = steps_next frames joint selections [] p.symbol
within_next frames joint selections (slashes before deep) p = test_next frames joint selections before deep p.symbol
within_next frames joint selections (stepped last) p = step_next frames joint selections last p.symbol
within_next frames joint selections (wanted first) p = wanted_next frames joint selections first p.symbol
within_next frames joint selections (number k) p = number_ended frames selections k p.symbol
within_next frames joint selections not_name p = not_next frames joint selections p.symbol
within_next frames joint selections at_sign p = name_next frames joint selections p.symbol
within_next frames joint selections (attribute name) p = attribute_next frames joint selections name p.symbol
within_next frames joint selections (equals name) p = value_next frames joint selections name p.symbol
within_next frames joint selections (ended c) p = None
within_next frames joint selections (contains before) p = text_next frames joint selections before p.symbol
within_next frames joint selections (selecting before symbols shape) p =
    otherwise (selecting_next frames joint selections before (symbols ++ p ∷ []) (selection.advance shape p))
    (whole_next frames joint selections before symbols (selection.finished_at shape) p.symbol)
within_next frames joint selections (selected before k) p = without_next frames joint selections before k p.symbol
within_next frames joint selections (without before k) p = content_next frames joint selections before k p.symbol
within_next frames joint selections path_wanted p = path_next frames joint selections p.symbol

-- a condition with the selections up to its end
abbrev pub with_selection : List Inside → List form.Step → List Placed → Option Tree → Option (form.Condition × List Inside)
with_selection selections before symbols None = None
with_selection selections before symbols (Some tree) = Some (form.contains (steps before) (length selections) no_paths, selections ++ inside symbols tree ∷ [])

-- what steps are a condition of: that they lead somewhere, or where they are those of an ignored path, that to which it belongs
abbrev pub steps_condition : Option Ignoring → List form.Step → form.Condition
steps_condition None last = form.exists (steps last)
steps_condition (Some i) last = form.contains (steps i.before) i.selection (paths (i.paths ++ steps last ∷ []))

-- the condition under way, if it may end here
abbrev pub condition_at : Option Ignoring → List Inside → Stage → Option (form.Condition × List Inside)
condition_at ignoring selections no_step = Some (steps_condition ignoring [], selections)
condition_at ignoring selections (slashes before deep) = None
condition_at ignoring selections (stepped last) = Some (steps_condition ignoring (all_steps last), selections)
condition_at ignoring selections (wanted first) = None
condition_at ignoring selections (number k) = None
condition_at ignoring selections not_name = Some (steps_condition ignoring (all_steps not_step), selections)
condition_at ignoring selections at_sign = None
condition_at ignoring selections (attribute name) = Some (form.attribute name None, selections)
condition_at ignoring selections (equals name) = None
condition_at ignoring selections (ended c) = Some (c, selections)
condition_at ignoring selections (contains before) = None
condition_at ignoring selections (selecting before symbols shape) = with_selection selections before symbols (selection.finished_at shape)
condition_at ignoring selections (selected before k) = Some (form.contains (steps before) k no_paths, selections)
condition_at ignoring selections (without before k) = None
condition_at ignoring selections path_wanted = None

-- what may stand after a whole condition
abbrev pub joint_words : List Frame → Joint → form.Condition → List Inside → Symbol → Option Inner
joint_words frames joint c selections symbol =
    if is_word (codes "and") symbol then Some (stand frames (to_left joint.ors (ands_with joint c)) selections (wanted false))
    else if is_word (codes "or") symbol then Some (stand frames (to_left (ors_with joint c) []) selections (wanted false))
    else None

abbrev pub joint_next : List Frame → Joint → form.Condition → List Inside → Symbol → Option Inner
joint_next [] joint c selections symbol = None
joint_next (frame ∷ outer) joint c selections S.CloseBracket = close_bracket (frame ∷ outer) selections (form.holds (condition_with joint c))
joint_next (frame ∷ outer) joint c selections S.CloseParenthesis = close_parenthesis (frame ∷ outer) selections (condition_with joint c)
joint_next (frame ∷ outer) joint c selections (S.Name name) = joint_words (frame ∷ outer) joint c selections (S.Name name)
joint_next (frame ∷ outer) joint c selections other = None

abbrev pub after_next : List Frame → Joint → Option (form.Condition × List Inside) → Symbol → Option Inner
after_next frames joint None symbol = None
after_next frames joint (Some (c, selections)) symbol = joint_next frames joint c selections symbol

-- What can go on goes on, so that selections are as long as can be.
abbrev pub advance_inner : Inner → Placed → Option Inner
advance_inner s p = otherwise (within_next s.frames s.joint s.selections s.stage p) (after_next s.frames s.joint (condition_at s.joint.ignoring s.selections s.stage) p.symbol)

-- what of the root was read
pub data RootStage : Type 0 where
  nothing : RootStage
  -- `collection`, and with `(`
  collection_name : RootStage
  collection_open : RootStage
  -- `doc`, and with `(`, and with the name of a document
  doc_name : RootStage
  doc_open : RootStage
  doc_text : List ℕ → RootStage

pub data State : Type 0 where
  at_root : RootStage → State
  along : PathRoot → Inner → State

abbrev pub root_words : Symbol → Option State
root_words symbol = if is_word (codes "collection") symbol then Some (at_root collection_name)
    else if is_word (codes "doc") symbol then Some (at_root doc_name)
    else None

abbrev pub root_next : RootStage → Symbol → Option State
root_next nothing symbol = root_words symbol
root_next collection_name S.OpenParenthesis = Some (at_root collection_open)
root_next collection_open S.CloseParenthesis = Some (along R.Collection start)
root_next doc_name S.OpenParenthesis = Some (at_root doc_open)
root_next doc_open (S.Text name) = Some (at_root (doc_text name))
root_next (doc_text name) S.CloseParenthesis = Some (along (R.Doc name) start)
root_next stage symbol = None

abbrev pub along_to : PathRoot → Option Inner → Option State
along_to root None = None
along_to root (Some s) = Some (along root s)

-- where a symbol leads
abbrev pub advance : State → Placed → Option State
advance (at_root stage) p = root_next stage p.symbol
advance (along root s) p = along_to root (advance_inner s p)

-- where symbols lead
abbrev pub run_on : Option State → List Placed → Option State
run_on None u = None
run_on (Some s) [] = Some s
run_on (Some s) (p ∷ u) = run_on (advance s p) u

abbrev pub read : List Placed → Option State
read u = run_on (Some (at_root nothing)) u

-- the path that was read with its selections, if symbols may end here
abbrev pub finished_inner : PathRoot → List Frame → List Inside → Stage → Option (form.Path × List Inside)
finished_inner root [] selections (stepped last) = Some (record { root = root; steps = steps (all_steps last) }, selections)
finished_inner root frames selections stage = None

abbrev pub finished : State → Option (form.Path × List Inside)
finished (at_root stage) = None
finished (along root s) = finished_inner root s.frames s.selections s.stage

-- how many brackets and parentheses of the path are open
abbrev pub open_count : State → ℕ
open_count (at_root stage) = 0
open_count (along root s) = length s.frames

-- the most of them that are open before or after some of the symbols
abbrev pub most_open_on : Option State → List Placed → ℕ
most_open_on None u = 0
most_open_on (Some s) [] = open_count s
most_open_on (Some s) (p ∷ u) = max (open_count s) (most_open_on (advance s p) u)

abbrev pub most_open : List Placed → ℕ
most_open u = most_open_on (Some (at_root nothing)) u
