-- Where a symbol leads the machine, what is open aside.
use Rattle.std.specs.Prelude.{if◌then◌else◌, List, [], ◌∷◌, Option, Some, None, codes}
use Rattle.selection_grammar.specs.Shapes.{is_word}
use Rattle.selection_grammar.specs.declared.symbol.Symbol.{Symbol}
use Rattle.selection_grammar.specs.declared.symbol.Symbol.TheVariants as S
use Rattle.path_grammar.specs.declared.path.PathRoot.{PathRoot}
use Rattle.path_grammar.specs.Form as form
use Rattle.path_grammar.specs.steps.Machine as m

-- `and` or `or` after a whole condition
abbrev pub joint_words : List m.Frame → m.Joint → form.Condition → Symbol → Option m.Inner
joint_words [] joint c symbol = None
joint_words (frame ∷ outer) joint c symbol = m.joint_words (frame ∷ outer) joint c [] symbol

-- `contains` after steps, or what may stand after the condition that they are
abbrev pub contains_or_joint : List m.Frame → m.Joint → List form.Step → Symbol → Option m.Inner
contains_or_joint frames joint before symbol =
    if is_word (codes "contains") symbol then m.contains_next frames joint [] before
    else m.joint_next frames joint (m.steps_condition joint.ignoring before) [] symbol

-- the parentheses of the root
abbrev pub opened_root : Symbol → m.RootStage → Option m.State
opened_root S.OpenParenthesis inside = Some (m.at_root inside)
opened_root other inside = None

abbrev pub closed_root : Symbol → PathRoot → Option m.State
closed_root S.CloseParenthesis root = Some (m.along root m.start)
closed_root other root = None
