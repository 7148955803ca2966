-- Where a symbol leads, whatever is open: one equation for each kind of step.
use Rattle.std.proofs.Common.{◌≡◌, refl, List, [], ◌∷◌, Option}
use Rattle.selection_grammar.specs.declared.symbol.Symbol.{Symbol}
use Rattle.selection_grammar.specs.declared.symbol.Symbol.TheVariants as S
use Rattle.path_grammar.specs.Form as form
use Rattle.path_grammar.specs.steps.Machine as m
use Rattle.path_subset.specs.steps.Turns.{joint_words}

abbrev pub by_symbol : Symbol → List m.Frame → m.Joint → form.Condition → Option m.Inner
by_symbol S.CloseBracket frames joint c = m.close_bracket frames [] (form.holds (m.condition_with joint c))
by_symbol S.CloseParenthesis frames joint c = m.close_parenthesis frames [] (m.condition_with joint c)
by_symbol other frames joint c = joint_words frames joint c other

pub joint_next_by : (frames : List m.Frame) (joint : m.Joint) (c : form.Condition) (symbol : Symbol) → m.joint_next frames joint c [] symbol ≡ by_symbol symbol frames joint c
joint_next_by [] joint c (S.Name name) = refl
joint_next_by [] joint c (S.Number n) = refl
joint_next_by [] joint c (S.Text text) = refl
joint_next_by [] joint c S.Slash = refl
joint_next_by [] joint c S.DoubleSlash = refl
joint_next_by [] joint c S.OpenBracket = refl
joint_next_by [] joint c S.CloseBracket = refl
joint_next_by [] joint c S.OpenParenthesis = refl
joint_next_by [] joint c S.CloseParenthesis = refl
joint_next_by [] joint c S.OpenBrace = refl
joint_next_by [] joint c S.CloseBrace = refl
joint_next_by [] joint c S.Comma = refl
joint_next_by [] joint c S.At = refl
joint_next_by [] joint c S.Equals = refl
joint_next_by [] joint c S.Period = refl
joint_next_by [] joint c S.Star = refl
joint_next_by [] joint c S.VerticalBar = refl
joint_next_by (frame ∷ outer) joint c (S.Name name) = refl
joint_next_by (frame ∷ outer) joint c (S.Number n) = refl
joint_next_by (frame ∷ outer) joint c (S.Text text) = refl
joint_next_by (frame ∷ outer) joint c S.Slash = refl
joint_next_by (frame ∷ outer) joint c S.DoubleSlash = refl
joint_next_by (frame ∷ outer) joint c S.OpenBracket = refl
joint_next_by (frame ∷ outer) joint c S.CloseBracket = refl
joint_next_by (frame ∷ outer) joint c S.OpenParenthesis = refl
joint_next_by (frame ∷ outer) joint c S.CloseParenthesis = refl
joint_next_by (frame ∷ outer) joint c S.OpenBrace = refl
joint_next_by (frame ∷ outer) joint c S.CloseBrace = refl
joint_next_by (frame ∷ outer) joint c S.Comma = refl
joint_next_by (frame ∷ outer) joint c S.At = refl
joint_next_by (frame ∷ outer) joint c S.Equals = refl
joint_next_by (frame ∷ outer) joint c S.Period = refl
joint_next_by (frame ∷ outer) joint c S.Star = refl
joint_next_by (frame ∷ outer) joint c S.VerticalBar = refl

-- what a condition leads to doesn't depend on whether its last path is an ignored one
pub left_next : (frames : List m.Frame) (ors ands : List form.Condition) (ignoring : Option m.Ignoring) (c : form.Condition) (symbol : Symbol)
    → m.joint_next frames (m.to_left ors ands) c [] symbol ≡ m.joint_next frames (record { ors = ors; ands = ands; ignoring = ignoring }) c [] symbol
left_next [] ors ands ignoring c symbol = refl
left_next (frame ∷ outer) ors ands ignoring c S.CloseBracket = refl
left_next (frame ∷ outer) ors ands ignoring c S.CloseParenthesis = refl
left_next (frame ∷ outer) ors ands ignoring c (S.Name name) = refl
left_next (frame ∷ outer) ors ands ignoring c other = refl
