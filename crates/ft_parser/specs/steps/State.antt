-- Where the reader stands, as the machine has it.
use Rattle.std.specs.Prelude.{◌≡◌, ℕ, List, map, reverse, option_map, Result, Ok, Err}
use Rattle.selection_grammar.specs.View.{tree}
use Rattle.selection_grammar.specs.Tree as t
use Rattle.selection_grammar.specs.steps.Machine as m
use Rattle.ft_parser.specs.declared.state.Primary.{Primary}
use Rattle.ft_parser.specs.declared.state.Primary.TheVariants.{Phrases, Inner}
use Rattle.ft_parser.specs.declared.state.Left.{Left}
use Rattle.ft_parser.specs.declared.state.Frame.{Frame}
use Rattle.ft_parser.specs.declared.state.Stage.{Stage}
use Rattle.ft_parser.specs.declared.state.Stage.TheVariants.{Wanted, InBraces, Valued, AnyOf, AllOf, Moded, Given, StopTerms}
use Rattle.ft_parser.specs.declared.state.Stage.TheVariants.{StopStrings, Thesaurus, ThesaurusIn, ThesauriIn, WithFilter}
use Rattle.ft_parser.specs.declared.state.State.{State}
use Rattle.ft_parser.specs.declared.state.Halt.{Halt}
use Rattle.ft_parser.specs.declared.state.Halt.TheVariants.{Stuck, Memory}

abbrev pub primary_of : Primary → t.Primary
primary_of (Phrases strings mode times) = t.phrases strings mode times
primary_of (Inner parsed) = t.inner (tree parsed)

abbrev pub left_of : Left → m.Left
left_of left = record { ors = map tree left.ors.items; ands = map tree left.ands.items; mild = option_map tree left.mild }

abbrev pub frame_of : Frame → m.Frame
frame_of frame = record { left = left_of frame.left; negation = frame.negation }

-- the innermost first
abbrev pub frames_of : List Frame → List m.Frame
frames_of frames = map frame_of (reverse frames)

abbrev pub stage_of : Stage → m.Stage
stage_of (Wanted n) = m.wanted n
stage_of (InBraces n strings) = m.in_braces n strings
stage_of (Valued n strings) = m.valued n strings
stage_of (AnyOf n strings) = m.any_of n strings
stage_of (AllOf n strings) = m.all_of n strings
stage_of (Moded n strings mode) = m.moded n strings mode
stage_of (Given o) = m.given_options o.negation (primary_of o.primary) o.options
stage_of (StopTerms s) = m.stop_terms s.operand.negation (primary_of s.operand.primary) s.operand.options s.at s.terms
stage_of (StopStrings s except strings) = m.stop_strings s.operand.negation (primary_of s.operand.primary) s.operand.options s.at s.terms except strings
stage_of (Thesaurus u) = m.thesaurus u.operand.negation (primary_of u.operand.primary) u.operand.options u.at u.name u.relationship
stage_of (ThesaurusIn u uses) = m.thesaurus_in u.operand.negation (primary_of u.operand.primary) u.operand.options u.at uses u.name u.relationship
stage_of (ThesauriIn o at uses) = m.thesauri_in o.negation (primary_of o.primary) o.options at uses
stage_of (WithFilter parsed) = m.with_filter (tree parsed)

abbrev pub state_of : State → m.State
state_of s = record { outer = frames_of s.context.outer.items; left = left_of s.context.left; stage = stage_of s.stage }

-- What is answered is what is read; want of memory is free
abbrev pub Answers : {A B : Type 0} → (A → B) → Result (A × ℕ) Halt → Result (B × ℕ) ℕ → Type 0
Answers view (Ok (a, n)) expected = Ok (view a, n) ≡ expected
Answers view (Err (Stuck n)) expected = Err n ≡ expected
Answers view (Err Memory) expected = Unit {0}
