-- Where the machine goes doesn't depend on the selections that it has.
use Rattle.std.proofs.Common.{◌≡◌, ℕ, Bool, true, false, cond, List, [], ◌∷◌, Option, Some, None, option_map, refl, ◌∙◌, ap}
use Rattle.std.specs.Prelude.{codes}
use Rattle.selection_grammar.specs.declared.symbol.Symbol.{Symbol}
use Rattle.selection_grammar.specs.declared.symbol.Symbol.TheVariants as S
use Rattle.selection_grammar.specs.declared.symbol.Placed.{Placed}
use Rattle.selection_grammar.specs.Shapes.{Shape, is_word}
use Rattle.selection_grammar.specs.steps.Machine as selection
use Rattle.path_grammar.specs.Form as form
use Rattle.path_grammar.specs.Form.{steps, no_paths}
use Rattle.path_grammar.specs.Grammar.{Inside}
use Rattle.path_grammar.specs.steps.Machine as m
use Rattle.path_grammar.specs.steps.Machine.{Ignoring, Joint, Frame, LastStep, Stage, Inner, stand}
use Rattle.path_subset.specs.Answer.{before_selection_at}

-- a stage in which a selection comes next begins with nothing of it
abbrev pub fresh : Stage → Stage
fresh (m.selecting before symbols shape) = m.selecting before [] (Shape.whole selection.start)
fresh other = other

abbrev pub with_all : List Inside → Inner → Inner
with_all all s = stand s.frames s.joint all (fresh s.stage)

abbrev pub with_these : List Inside → Option Inner → Option Inner
with_these all o = option_map (with_all all) o

chosen : (all : List Inside) (b : Bool) (x y x' y' : Option Inner) → x ≡ with_these all x' → y ≡ with_these all y' → cond b x y ≡ with_these all (cond b x' y')
chosen all true x y x' y' h k = h
chosen all false x y x' y' h k = k

module _ (all some : List Inside) where
  contains_same : (frames : List Frame) (joint : Joint) (before : List form.Step) → m.contains_next frames joint all before ≡ with_these all (m.contains_next frames joint some before)
  contains_same [] joint before = refl
  contains_same (frame ∷ outer) joint before = go joint.ignoring
    where
      go : (o : Option Ignoring) → m.unless_ignored o (Some (stand (frame ∷ outer) joint all (m.contains before))) ≡ with_these all (m.unless_ignored o (Some (stand (frame ∷ outer) joint some (m.contains before))))
      go None = refl
      go (Some i) = refl

  bar_same : (frames : List Frame) (joint : Joint) (before : List form.Step) (o : Option Ignoring) → m.bar_next frames joint all before o ≡ with_these all (m.bar_next frames joint some before o)
  bar_same frames joint before None = refl
  bar_same frames joint before (Some i) = refl

  steps_same : (frames : List Frame) (joint : Joint) (before : List form.Step) (z : Symbol) → m.steps_next frames joint all before z ≡ with_these all (m.steps_next frames joint some before z)
  steps_same frames joint before S.Slash = refl
  steps_same frames joint before S.DoubleSlash = refl
  steps_same frames joint before (S.Name name) =
      chosen all (is_word (codes "contains") (S.Name name)) (m.contains_next frames joint all before) None (m.contains_next frames joint some before) None (contains_same frames joint before) refl
  steps_same frames joint before S.VerticalBar = bar_same frames joint before joint.ignoring
  steps_same frames joint before other = refl

  step_same : (frames : List Frame) (joint : Joint) (last : LastStep) (z : Symbol) → m.step_next frames joint all last z ≡ with_these all (m.step_next frames joint some last z)
  step_same frames joint last S.OpenBracket = refl
  step_same frames joint last other = steps_same frames joint (m.all_steps last) other

  test_same : (frames : List Frame) (joint : Joint) (before : List form.Step) (deep : Bool) (z : Symbol) → m.test_next frames joint all before deep z ≡ with_these all (m.test_next frames joint some before deep z)
  test_same frames joint before deep (S.Name name) = refl
  test_same frames joint before deep S.Star = refl
  test_same frames joint before deep other = refl

  number_same : (frames : List Frame) (joint : Joint) (first : Bool) (k : ℕ) → m.number_next frames joint all first k ≡ with_these all (m.number_next frames joint some first k)
  number_same frames joint true k = refl
  number_same frames joint false k = refl

  wanted_same : (frames : List Frame) (joint : Joint) (first : Bool) (z : Symbol) → m.wanted_next frames joint all first z ≡ with_these all (m.wanted_next frames joint some first z)
  wanted_same frames joint first (S.Number k) = number_same frames joint first k
  wanted_same frames joint first S.OpenParenthesis = refl
  wanted_same frames joint first S.At = refl
  wanted_same frames joint first S.Period = refl
  wanted_same frames joint first (S.Name name) =
      chosen all (is_word (codes "not") (S.Name name)) (Some (stand frames joint all m.not_name)) (m.test_next frames joint all [] false (S.Name name)) (Some (stand frames joint some m.not_name)) (m.test_next frames joint some [] false (S.Name name)) refl refl
  wanted_same frames joint first other = test_same frames joint [] false other

  not_same : (frames : List Frame) (joint : Joint) (z : Symbol) → m.not_next frames joint all z ≡ with_these all (m.not_next frames joint some z)
  not_same frames joint S.OpenParenthesis = refl
  not_same frames joint other = step_same frames joint m.not_step other

  bracket_same : (frames : List Frame) (filter : form.Predicate) → m.close_bracket frames all filter ≡ with_these all (m.close_bracket frames some filter)
  bracket_same [] filter = refl
  bracket_same (m.brackets joint last ∷ outer) filter = refl
  bracket_same (m.parentheses joint ∷ outer) filter = refl
  bracket_same (m.negation joint ∷ outer) filter = refl

  parenthesis_same : (frames : List Frame) (c : form.Condition) → m.close_parenthesis frames all c ≡ with_these all (m.close_parenthesis frames some c)
  parenthesis_same [] c = refl
  parenthesis_same (m.brackets joint last ∷ outer) c = refl
  parenthesis_same (m.parentheses joint ∷ outer) c = refl
  parenthesis_same (m.negation joint ∷ outer) c = refl

  ended_same : (frames : List Frame) (k : ℕ) (z : Symbol) → m.number_ended frames all k z ≡ with_these all (m.number_ended frames some k z)
  ended_same frames k S.CloseBracket = bracket_same frames (form.number k)
  ended_same frames k other = refl

  name_same : (frames : List Frame) (joint : Joint) (z : Symbol) → m.name_next frames joint all z ≡ with_these all (m.name_next frames joint some z)
  name_same frames joint (S.Name name) = refl
  name_same frames joint other = refl

  attribute_same : (frames : List Frame) (joint : Joint) (name : List ℕ) (z : Symbol) → m.attribute_next frames joint all name z ≡ with_these all (m.attribute_next frames joint some name z)
  attribute_same frames joint name S.Equals = refl
  attribute_same frames joint name other = refl

  value_same : (frames : List Frame) (joint : Joint) (name : List ℕ) (z : Symbol) → m.value_next frames joint all name z ≡ with_these all (m.value_next frames joint some name z)
  value_same frames joint name (S.Text value) = refl
  value_same frames joint name other = refl

  text_same : (frames : List Frame) (joint : Joint) (before : List form.Step) (z : Symbol) → m.text_next frames joint all before z ≡ with_these all (m.text_next frames joint some before z)
  text_same frames joint before z = chosen all (is_word (codes "text") z) (Some (stand frames joint all (m.selecting before [] (Shape.whole selection.start)))) None (Some (stand frames joint some (m.selecting before [] (Shape.whole selection.start)))) None refl refl

  without_same : (frames : List Frame) (joint : Joint) (before : List form.Step) (k : ℕ) (z : Symbol) → m.without_next frames joint all before k z ≡ with_these all (m.without_next frames joint some before k z)
  without_same frames joint before k z = chosen all (is_word (codes "without") z) (Some (stand frames joint all (m.without before k))) None (Some (stand frames joint some (m.without before k))) None refl refl

  content_same : (frames : List Frame) (joint : Joint) (before : List form.Step) (k : ℕ) (z : Symbol) → m.content_next frames joint all before k z ≡ with_these all (m.content_next frames joint some before k z)
  content_same frames joint before k z = chosen all (is_word (codes "content") z) (there all) None (there some) None refl refl
    where
      there : List Inside → Option Inner
      there these = Some (stand frames (m.ignored joint.ors joint.ands (record { before = before; selection = k; paths = [] })) these m.path_wanted)

  path_same : (frames : List Frame) (joint : Joint) (z : Symbol) → m.path_next frames joint all z ≡ with_these all (m.path_next frames joint some z)
  path_same frames joint S.Period = refl
  path_same frames joint other = test_same frames joint [] false other

  within_same : (frames : List Frame) (joint : Joint) (stage : Stage) (p : Placed) → before_selection_at stage ≡ None → m.within_next frames joint all stage p ≡ with_these all (m.within_next frames joint some stage p)
  within_same frames joint m.no_step p e = steps_same frames joint [] p.symbol
  within_same frames joint (m.slashes before deep) p e = test_same frames joint before deep p.symbol
  within_same frames joint (m.stepped last) p e = step_same frames joint last p.symbol
  within_same frames joint (m.wanted first) p e = wanted_same frames joint first p.symbol
  within_same frames joint (m.number k) p e = ended_same frames k p.symbol
  within_same frames joint m.not_name p e = not_same frames joint p.symbol
  within_same frames joint m.at_sign p e = name_same frames joint p.symbol
  within_same frames joint (m.attribute name) p e = attribute_same frames joint name p.symbol
  within_same frames joint (m.equals name) p e = value_same frames joint name p.symbol
  within_same frames joint (m.ended c) p e = refl
  within_same frames joint (m.contains before) p e = text_same frames joint before p.symbol
  within_same frames joint (m.selecting before symbols shape) p e = cc
  within_same frames joint (m.selected before k) p e = without_same frames joint before k p.symbol
  within_same frames joint (m.without before k) p e = content_same frames joint before k p.symbol
  within_same frames joint m.path_wanted p e = path_same frames joint p.symbol

  words_same : (frames : List Frame) (joint : Joint) (c : form.Condition) (z : Symbol) → m.joint_words frames joint c all z ≡ with_these all (m.joint_words frames joint c some z)
  words_same frames joint c z =
      chosen all (is_word (codes "and") z) (Some (stand frames (and_joint joint c) all (m.wanted false))) (or_words all) (Some (stand frames (and_joint joint c) some (m.wanted false))) (or_words some) refl
      (chosen all (is_word (codes "or") z) (Some (stand frames (or_joint joint c) all (m.wanted false))) None (Some (stand frames (or_joint joint c) some (m.wanted false))) None refl refl)
    where
      and_joint : Joint → form.Condition → Joint
      and_joint joint c = m.to_left joint.ors (m.ands_with joint c)

      or_joint : Joint → form.Condition → Joint
      or_joint joint c = m.to_left (m.ors_with joint c) []

      or_words : List Inside → Option Inner
      or_words these = cond (is_word (codes "or") z) (Some (stand frames (or_joint joint c) these (m.wanted false))) None

  pub joint_same : (frames : List Frame) (joint : Joint) (c : form.Condition) (z : Symbol) → m.joint_next frames joint c all z ≡ with_these all (m.joint_next frames joint c some z)
  joint_same [] joint c z = refl
  joint_same (frame ∷ outer) joint c S.CloseBracket = bracket_same (frame ∷ outer) (form.holds (m.condition_with joint c))
  joint_same (frame ∷ outer) joint c S.CloseParenthesis = parenthesis_same (frame ∷ outer) (m.condition_with joint c)
  joint_same (frame ∷ outer) joint c (S.Name name) = words_same (frame ∷ outer) joint c (S.Name name)
  joint_same (frame ∷ outer) joint c other = refl

  after_same : (frames : List Frame) (joint : Joint) (stage : Stage) (z : Symbol) → before_selection_at stage ≡ None → m.after_next frames joint (m.condition_at joint.ignoring all stage) z ≡ with_these all (m.after_next frames joint (m.condition_at joint.ignoring some stage) z)
  after_same frames joint m.no_step z e = joint_same frames joint (m.steps_condition joint.ignoring []) z
  after_same frames joint (m.slashes before deep) z e = refl
  after_same frames joint (m.stepped last) z e = joint_same frames joint (m.steps_condition joint.ignoring (m.all_steps last)) z
  after_same frames joint (m.wanted first) z e = refl
  after_same frames joint (m.number k) z e = refl
  after_same frames joint m.not_name z e = joint_same frames joint (m.steps_condition joint.ignoring (m.all_steps m.not_step)) z
  after_same frames joint m.at_sign z e = refl
  after_same frames joint (m.attribute name) z e = joint_same frames joint (form.attribute name None) z
  after_same frames joint (m.equals name) z e = refl
  after_same frames joint (m.ended c) z e = joint_same frames joint c z
  after_same frames joint (m.contains before) z e = refl
  after_same frames joint (m.selecting before symbols shape) z e = cc
  after_same frames joint (m.selected before k) z e = joint_same frames joint (form.contains (steps before) k no_paths) z
  after_same frames joint (m.without before k) z e = refl
  after_same frames joint m.path_wanted z e = refl

  either_same : (x y x' y' : Option Inner) → x ≡ with_these all x' → y ≡ with_these all y' → m.otherwise x y ≡ with_these all (m.otherwise x' y')
  either_same x y None y' h k = ap (λ o. m.otherwise o y) h ∙ k
  either_same x y (Some s) y' h k = ap (λ o. m.otherwise o y) h

  pub advance_same : (frames : List Frame) (joint : Joint) (stage : Stage) (p : Placed) → before_selection_at stage ≡ None → m.advance_inner (stand frames joint all stage) p ≡ with_these all (m.advance_inner (stand frames joint some stage) p)
  advance_same frames joint stage p e = either_same (m.within_next frames joint all stage p) (m.after_next frames joint (m.condition_at joint.ignoring all stage) p.symbol) (m.within_next frames joint some stage p) (m.after_next frames joint (m.condition_at joint.ignoring some stage) p.symbol) (within_same frames joint stage p e) (after_same frames joint stage p.symbol e)
