-- Which selections under way are filters round others: those in parentheses alone, and those that end with a filter.
use Rattle.std.proofs.Common.{◌≡◌, ℕ, Bool, true, false, ◌&&◌, List, [], ◌∷◌, ◌++◌, Option, Some, None, refl, ◌∙◌, ap}
use Rattle.std.specs.Option.{is_none}
use Rattle.ft_base.specs.Lists.{is_empty}
use Rattle.ft_base.specs.declared.words.Mode.{Mode}
use Rattle.ft_base.specs.declared.words.Mode.TheVariants as M
use Rattle.selection_grammar.specs.declared.parsed.PlacedString.{PlacedString}
use Rattle.selection_grammar.specs.declared.parsed.PlacedOption.{PlacedOption}
use Rattle.selection_grammar.specs.declared.parsed.Parsed.{Parsed}
use Rattle.selection_grammar.specs.steps.Machine.{Left, selection_with, operand_of, selection_at, stop_option, thesaurus_option, thesaurus_use}
use Rattle.selection_grammar.specs.Tree.{Tree, Primary, phrases, inner}
use Rattle.ft_parser.specs.Limits.{has_all_filters}
use Rattle.ft_parser.specs.steps.Scan.{stands_first}
use Rattle.ft_parser.specs.steps.State.{primary_of, stage_of}
use Rattle.ft_parser.specs.declared.state.Operand.{Operand}
use Rattle.ft_parser.specs.declared.state.Stage.{Stage}
use Rattle.ft_parser.specs.declared.state.Stage.TheVariants.{Wanted, InBraces, Valued, AnyOf, AllOf, Moded, Given, StopTerms, StopStrings, Thesaurus, ThesaurusIn, ThesauriIn, WithFilter}

-- something to the left of an operand stands round it
suffix : (ors ands : List Tree) (mild : Option Tree) (x : Tree) → has_all_filters (Some (selection_with (record { ors = ors; ands = ands; mild = mild }) x)) ≡ (is_empty ors && is_empty ands && is_none mild) && has_all_filters (Some x)
suffix [] [] None x = refl
suffix [] [] (Some y) x = refl
suffix [] (y ∷ []) m x = refl
suffix [] (y ∷ z ∷ ys) m x = refl
suffix (y ∷ []) ands m x = refl
suffix (y ∷ z ∷ ys) ands m x = refl

selection_all : (left : Left) (x : Tree) → has_all_filters (Some (selection_with left x)) ≡ stands_first left && has_all_filters (Some x)
selection_all left x = suffix left.ors left.ands left.mild x

none_of : (b : Bool) → b && false ≡ false
none_of true = refl
none_of false = refl

-- words, and what has options
words_operand : (n : Option ℕ) (strings : List PlacedString) (mode : Mode) → has_all_filters (Some (operand_of n (phrases strings mode None) [])) ≡ false
words_operand None strings mode = refl
words_operand (Some at) strings mode = refl

optioned_operand : (n : Option ℕ) (x : Primary) (os : List PlacedOption) (o : PlacedOption) → has_all_filters (Some (operand_of n x (os ++ o ∷ []))) ≡ false
optioned_operand None (phrases strings mode times) os o = refl
optioned_operand None (inner x) [] o = refl
optioned_operand None (inner x) (p ∷ os) o = refl
optioned_operand (Some at) x os o = refl

words_stage : (left : Left) (n : Option ℕ) (strings : List PlacedString) (mode : Mode) → has_all_filters (Some (selection_with left (operand_of n (phrases strings mode None) []))) ≡ false
words_stage left n strings mode = selection_all left (operand_of n (phrases strings mode None) []) ∙ ap (λ b. stands_first left && b) (words_operand n strings mode) ∙ none_of (stands_first left)

option_stage : (left : Left) (n : Option ℕ) (x : Primary) (os : List PlacedOption) (o : PlacedOption) → has_all_filters (Some (selection_with left (operand_of n x (os ++ o ∷ [])))) ≡ false
option_stage left n x os o = selection_all left (operand_of n x (os ++ o ∷ [])) ∙ ap (λ b. stands_first left && b) (optioned_operand n x os o) ∙ none_of (stands_first left)

pub other_stage : (left : Left) (stage : Stage) → ((o : Operand) → stage ≡ Given o → ⊥) → ((x : Parsed) → stage ≡ WithFilter x → ⊥) → has_all_filters (selection_at left (stage_of stage)) ≡ false
other_stage left (Wanted n) g w = refl
other_stage left (InBraces n strings) g w = refl
other_stage left (Valued n strings) g w = words_stage left n strings M.Any
other_stage left (AnyOf n strings) g w = words_stage left n strings M.Any
other_stage left (AllOf n strings) g w = words_stage left n strings M.All
other_stage left (Moded n strings mode) g w = words_stage left n strings mode
other_stage left (Given o) g w = absurd (g o refl)
other_stage left (StopTerms s) g w = option_stage left s.operand.negation (primary_of s.operand.primary) s.operand.options (stop_option s.at s.terms)
other_stage left (StopStrings s except strings) g w = refl
other_stage left (Thesaurus u) g w = option_stage left u.operand.negation (primary_of u.operand.primary) u.operand.options (thesaurus_option u.at (thesaurus_use u.name u.relationship None ∷ []))
other_stage left (ThesaurusIn u uses) g w = refl
other_stage left (ThesauriIn o at uses) g w = refl
other_stage left (WithFilter x) g w = absurd (w x refl)
