-- Whether filters are within their limit in all that the machine has read, wherever it stands.
use Rattle.std.proofs.Common.{◌≡◌, ℕ, Bool, true, false, ◌&&◌, List, [], ◌∷◌, ◌++◌, Option, Some, None, refl, sym, ◌∙◌, ap}
use Rattle.std.specs.Prelude.{not, nat_le}
use Rattle.std.proofs.Math.Bool.{and-true, and_assoc}
use Rattle.ft_base.specs.Limits.{max_filters}
use Rattle.ft_base.specs.declared.filter.Filter.{Filter}
use Rattle.selection_grammar.specs.declared.parsed.PlacedOption.{PlacedOption}
use Rattle.selection_grammar.specs.steps.Machine as m
use Rattle.selection_grammar.specs.steps.Machine.{Left, Frame, Stage, State, next, selection_at, selection_with, ors_with, ands_with, mild_with, operand_of, filtered_state, thesaurus_ended, thesaurus_selection}
use Rattle.selection_grammar.specs.Tree.{Tree, trees_of, joined, Primary, phrases, inner, and_of, or_of}
use Rattle.ft_parser.specs.FilterLimit.{are_filters_within, are_all_within}
use Rattle.ft_parser.specs.Limits.{filters_round}
use Rattle.ft_parser.proofs.FilterShapes.{First, first_or_else}

-- lists of selections
abbrev pub all_within : List Tree → Bool
all_within [] = true
all_within (x ∷ rest) = are_filters_within x && all_within rest

trees_within : (xs : List Tree) → are_all_within (trees_of xs) ≡ all_within xs
unfolding are_filters_within
trees_within [] = refl
trees_within (x ∷ rest) = ap (λ b. are_filters_within x && b) (trees_within rest)

all_append : (xs : List Tree) (y : Tree) → all_within (xs ++ y ∷ []) ≡ (all_within xs && are_filters_within y)
all_append [] y = and-true (are_filters_within y)
all_append (x ∷ xs) y = ap (λ b. are_filters_within x && b) (all_append xs y) ∙ sym (and_assoc (are_filters_within x) (all_within xs) (are_filters_within y))

or_within : (xs : List Tree) → are_filters_within (joined or_of xs) ≡ all_within xs
unfolding are_filters_within
or_within [] = refl
or_within (x ∷ []) = sym (and-true (are_filters_within x))
or_within (x ∷ y ∷ rest) = trees_within (x ∷ y ∷ rest)

and_within : (xs : List Tree) → are_filters_within (joined and_of xs) ≡ all_within xs
unfolding are_filters_within
and_within [] = refl
and_within (x ∷ []) = sym (and-true (are_filters_within x))
and_within (x ∷ y ∷ rest) = trees_within (x ∷ y ∷ rest)

-- what stands to the left, and an operand
abbrev pub mild_within : Option Tree → Bool
mild_within None = true
mild_within (Some x) = are_filters_within x

abbrev pub left_within : Left → Bool
left_within left = all_within left.ors && (all_within left.ands && mild_within left.mild)

abbrev pub primary_within : Primary → Bool
primary_within (phrases strings mode times) = true
primary_within (inner x) = are_filters_within x

pub mild_with_within : (o : Option Tree) (x : Tree) → are_filters_within (mild_with o x) ≡ (mild_within o && are_filters_within x)
unfolding are_filters_within
mild_with_within None x = refl
mild_with_within (Some y) x = refl

pub ands_with_within : (left : Left) (x : Tree) → all_within (ands_with left x) ≡ (all_within left.ands && (mild_within left.mild && are_filters_within x))
ands_with_within left x = all_append left.ands (mild_with left.mild x) ∙ ap (λ b. all_within left.ands && b) (mild_with_within left.mild x)

pub ors_with_within : (left : Left) (x : Tree) → all_within (ors_with left x) ≡ (all_within left.ors && (all_within left.ands && (mild_within left.mild && are_filters_within x)))
ors_with_within left x = all_append left.ors (joined and_of (ands_with left x)) ∙ ap (λ b. all_within left.ors && b) (and_within (ands_with left x) ∙ ands_with_within left x)

pub selection_within : (left : Left) (x : Tree) → are_filters_within (selection_with left x) ≡ (left_within left && are_filters_within x)
selection_within left x = or_within (ors_with left x) ∙ ors_with_within left x ∙ regroup (all_within left.ors) (all_within left.ands) (mild_within left.mild) (are_filters_within x)
  where
    regroup : (a b c d : Bool) → (a && (b && (c && d))) ≡ ((a && (b && c)) && d)
    regroup false b c d = refl
    regroup true false c d = refl
    regroup true true c d = refl

pub operand_within : (n : Option ℕ) (x : Primary) (os : List PlacedOption) → are_filters_within (operand_of n x os) ≡ primary_within x
unfolding are_filters_within
operand_within None (phrases strings mode times) os = refl
operand_within (Some at) (phrases strings mode times) os = refl
operand_within None (inner x) [] = refl
operand_within (Some at) (inner x) [] = refl
operand_within None (inner x) (o ∷ os) = refl
operand_within (Some at) (inner x) (o ∷ os) = refl

-- wherever the machine stands
abbrev pub frames_within : List Frame → Bool
frames_within [] = true
frames_within (frame ∷ outer) = left_within frame.left && frames_within outer

abbrev pub under_within : Left → Stage → Bool
under_within left (m.wanted n) = left_within left && true
under_within left (m.in_braces n xs) = left_within left && true
under_within left (m.valued n xs) = left_within left && true
under_within left (m.any_of n xs) = left_within left && true
under_within left (m.all_of n xs) = left_within left && true
under_within left (m.moded n xs mode) = left_within left && true
under_within left (m.given_options n x os) = left_within left && primary_within x
under_within left (m.stop_terms n x os at ts) = left_within left && primary_within x
under_within left (m.stop_strings n x os at ts except xs) = left_within left && primary_within x
under_within left (m.thesaurus n x os at s r) = left_within left && primary_within x
under_within left (m.thesaurus_in n x os at us s r) = left_within left && primary_within x
under_within left (m.thesauri_in n x os at us) = left_within left && primary_within x
under_within left (m.with_filter x) = are_filters_within x

abbrev pub state_within : State → Bool
state_within s = frames_within s.outer && under_within s.left s.stage

-- a state that has read no more than before, but for symbols
pub old : (a : Bool) → a ≡ (a && true)
old a = sym (and-true a)

-- a selection under way
pub whole_within : (left : Left) (n : Option ℕ) (x : Primary) (os : List PlacedOption) → are_filters_within (selection_with left (operand_of n x os)) ≡ (left_within left && primary_within x)
whole_within left n x os = selection_within left (operand_of n x os) ∙ ap (λ b. left_within left && b) (operand_within n x os)

pub filter_within : (outer : List Frame) (x : Tree) (b : Bool) (f : Filter) → are_filters_within x ≡ b → state_within (filtered_state outer x f) ≡ ((frames_within outer && b) && not (nat_le max_filters (filters_round x)))
unfolding are_filters_within
filter_within outer x b f e = sym (and_assoc (frames_within outer) (are_filters_within x) (not (nat_le max_filters (filters_round x)))) ∙ ap (λ a. (frames_within outer && a) && not (nat_le max_filters (filters_round x))) e

pub close_first : (outer : List Frame) (x : Tree) (full b : Bool) → are_filters_within x ≡ b → First state_within (frames_within outer && b) full (m.close_next outer x)
close_first [] x full b e = tt
close_first (frame ∷ outer) x full b e = (ap (λ a. frames_within outer && (left_within frame.left && a)) e ∙ reorder (frames_within outer) (left_within frame.left) b, tt)
  where
    reorder : (a c d : Bool) → (a && (c && d)) ≡ (((c && a) && d) && true)
    reorder true true true = refl
    reorder true true false = refl
    reorder true false d = refl
    reorder false true d = refl
    reorder false false d = refl

-- after an operand
regroup_or : (f o a c d : Bool) → (f && (((o && (a && (c && d))) && true) && true)) ≡ ((f && ((o && (a && c)) && d)) && true)
regroup_or false o a c d = refl
regroup_or true false a c d = refl
regroup_or true true false c d = refl
regroup_or true true true false d = refl
regroup_or true true true true true = refl
regroup_or true true true true false = refl

regroup_and : (f o a c d : Bool) → (f && ((o && ((a && (c && d)) && true)) && true)) ≡ ((f && ((o && (a && c)) && d)) && true)
regroup_and false o a c d = refl
regroup_and true false a c d = refl
regroup_and true true false c d = refl
regroup_and true true true false d = refl
regroup_and true true true true true = refl
regroup_and true true true true false = refl

regroup_mild : (f o a c d : Bool) → (f && ((o && (a && (c && d))) && true)) ≡ ((f && ((o && (a && c)) && d)) && true)
regroup_mild false o a c d = refl
regroup_mild true false a c d = refl
regroup_mild true true false c d = refl
regroup_mild true true true false d = refl
regroup_mild true true true true true = refl
regroup_mild true true true true false = refl

pub joint_first : (outer : List Frame) (left : Left) (x : Tree) (full b : Bool) → are_filters_within x ≡ b → First state_within (frames_within outer && (left_within left && b)) full (m.joint_next outer left x)
joint_first outer left x full b e = first_or_else state_within (frames_within outer && (left_within left && b)) full (m.joint_words outer left x) (m.close_next outer (selection_with left x))
    ((λ i. by_or), ((λ i. by_and), ((λ i. ((λ j. by_mild), tt)), tt)))
    (close_first outer (selection_with left x) full (left_within left && b) (selection_within left x ∙ ap (λ a. left_within left && a) e))
  where
    by_or : (frames_within outer && ((all_within (ors_with left x) && true) && true)) ≡ ((frames_within outer && (left_within left && b)) && true)
    by_or = ap (λ a. frames_within outer && ((a && true) && true)) (ors_with_within left x ∙ ap (λ a. all_within left.ors && (all_within left.ands && (mild_within left.mild && a))) e)
        ∙ regroup_or (frames_within outer) (all_within left.ors) (all_within left.ands) (mild_within left.mild) b

    by_and : (frames_within outer && ((all_within left.ors && (all_within (ands_with left x) && true)) && true)) ≡ ((frames_within outer && (left_within left && b)) && true)
    by_and = ap (λ a. frames_within outer && ((all_within left.ors && (a && true)) && true)) (ands_with_within left x ∙ ap (λ a. all_within left.ands && (mild_within left.mild && a)) e)
        ∙ regroup_and (frames_within outer) (all_within left.ors) (all_within left.ands) (mild_within left.mild) b

    by_mild : (frames_within outer && ((all_within left.ors && (all_within left.ands && are_filters_within (mild_with left.mild x))) && true)) ≡ ((frames_within outer && (left_within left && b)) && true)
    by_mild = ap (λ a. frames_within outer && ((all_within left.ors && (all_within left.ands && a)) && true)) (mild_with_within left.mild x ∙ ap (λ a. mild_within left.mild && a) e)
        ∙ regroup_mild (frames_within outer) (all_within left.ors) (all_within left.ands) (mild_within left.mild) b
