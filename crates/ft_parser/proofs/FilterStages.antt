-- Whether filters are within their limit after the next symbol.
use Rattle.std.proofs.Common.{◌≡◌, ℕ, Bool, true, false, ◌&&◌, List, [], ◌∷◌, ◌++◌, Option, Some, None, refl, sym, ◌∙◌, ap, subst}
use Rattle.std.specs.Prelude.{not, nat_le, codes}
use Rattle.ft_base.specs.Limits.{max_filters}
use Rattle.ft_base.specs.declared.filter.Filter.{Filter}
use Rattle.ft_base.specs.declared.range.Range.{Range}
use Rattle.ft_base.specs.declared.range.Range.TheVariants as R
use Rattle.ft_base.specs.declared.words.Mode.{Mode}
use Rattle.ft_base.specs.declared.words.Mode.TheVariants as M
use Rattle.selection_grammar.specs.declared.parsed.PlacedString.{PlacedString}
use Rattle.selection_grammar.specs.declared.parsed.PlacedOption.{PlacedOption}
use Rattle.selection_grammar.specs.declared.parsed.PlacedTimes.{PlacedTimes}
use Rattle.selection_grammar.specs.Keywords.{range, bound, one_number, two_bounds, side, key, filters_without_at, plain_option, times}
use Rattle.selection_grammar.specs.steps.Machine as m
use Rattle.selection_grammar.specs.steps.Machine.{Left, Frame, Stage, State, next, selection_at, selection_with, ands_with, ors_with, mild_with, operand_of, filtered_state, thesaurus_ended, thesaurus_selection}
use Rattle.selection_grammar.specs.Shapes.{Shape, whole, nothing, word, number, text, mark, or_else, and_then}
use Rattle.selection_grammar.specs.Tree.{Tree, Trees, joined, Primary, phrases, inner, or_of, and_of}
use Rattle.ft_parser.specs.FilterLimit.{are_filters_within}
use Rattle.ft_parser.specs.Limits.{filters_round, has_all_filters}
use Rattle.ft_parser.specs.steps.Turns.{stands}
use Rattle.ft_parser.proofs.FilterShapes.{AllEnds, all_and_then, First, first_or_else, first_filters, first_side, whole_of}
use Rattle.ft_parser.proofs.FilterStates.{old, left_within, primary_within, operand_within, frames_within, state_within, whole_within, filter_within, close_first, joint_first}

all_or_else : {A : Type 0} (P : A → Type 0) (t r : Shape A) → AllEnds P t → AllEnds P r → AllEnds P (or_else t r)
all_or_else P (whole a) r h k = h
all_or_else P nothing r h k = k
all_or_else P (word key to rest) r h k = (h.0, all_or_else P rest r h.1 k)
all_or_else P (number to rest) r h k = (h.0, all_or_else P rest r h.1 k)
all_or_else P (text to rest) r h k = (h.0, all_or_else P rest r h.1 k)
all_or_else P (mark m to rest) r h k = (h.0, all_or_else P rest r h.1 k)

abbrev before : List Frame → Left → Primary → Bool
before outer left x = frames_within outer && (left_within left && primary_within x)

abbrev Same : Bool → State → Type 0
Same b s = state_within s ≡ (b && true)

using_all : (outer : List Frame) (left : Left) (n : Option ℕ) (x : Primary) (os : List PlacedOption) (at : ℕ) → AllEnds (Same (before outer left x)) (m.using_next outer left n x os at)
using_all outer left n x os at = all_or_else (Same (before outer left x)) (m.listed_next outer left n x os at) (and_then (plain_option at) (λ o. whole (stands outer left (m.given_options n x (os ++ o ∷ [])))))
    ((λ p. ((λ q. ((λ r s. same), tt)), ((((λ q. ((λ r s. same), tt)), tt), tt)))), ((λ p. ((λ q. ((λ r. ((λ t s. same), tt)), (((λ t s. same), tt), tt))), tt)), tt))
    (all_and_then (Same (before outer left x)) (plain_option at) (λ o. whole (stands outer left (m.given_options n x (os ++ o ∷ [])))) (λ o. same))
  where
    same : before outer left x ≡ (before outer left x && true)
    same = old (before outer left x)

unfiltered_first : (outer : List Frame) (left : Left) (n : Option ℕ) (x : Primary) (os : List PlacedOption) (full : Bool) → First state_within (before outer left x) full (m.unfiltered_next outer left n x os)
unfiltered_first outer left n x os full = first_or_else state_within (before outer left x) full (m.using_word outer left n x os) (m.joint_next outer left (operand_of n x os)) ((λ i. using_all outer left n x os i), tt) (joint_first outer left (operand_of n x os) full (primary_within x) (operand_within n x os))

options_first : (outer : List Frame) (left : Left) (n : Option ℕ) (x : Primary) (os : List PlacedOption) → First state_within (before outer left x) (has_all_filters (Some (selection_with left (operand_of n x os)))) (m.options_next outer left n x os)
options_first outer left n x os =
    first_filters state_within (before outer left x) full k (word (codes "at") (λ i. and_then side (whole_of k)) (m.unfiltered_next outer left n x os)) made
    (first_side state_within (before outer left x) full k (m.unfiltered_next outer left n x os) made (unfiltered_first outer left n x os full))
  where
    full : Bool
    full = has_all_filters (Some (selection_with left (operand_of n x os)))

    k : Filter → State
    k f = filtered_state outer (selection_with left (operand_of n x os)) f

    made : (f : Filter) → state_within (filtered_state outer (selection_with left (operand_of n x os)) f) ≡ (before outer left x && not (nat_le max_filters (filters_round (selection_with left (operand_of n x os)))))
    made f = filter_within outer (selection_with left (operand_of n x os)) (left_within left && primary_within x) f (whole_within left n x os)

moded_first : (outer : List Frame) (left : Left) (n : Option ℕ) (xs : List PlacedString) (mode : Mode) → First state_within (frames_within outer && (left_within left && true)) (has_all_filters (Some (selection_with left (operand_of n (phrases xs mode None) [])))) (m.moded_next outer left n xs mode)
moded_first outer left n xs mode = first_or_else state_within (frames_within outer && (left_within left && true)) (has_all_filters (Some (selection_with left (operand_of n (phrases xs mode None) [])))) (and_then times timed) (m.options_next outer left n (phrases xs mode None) [])
    ((λ i. all_and_then (Same (frames_within outer && (left_within left && true))) (and_then range (λ r. key (codes "times") (whole (record { at = i; range = r })))) timed (λ t. old (frames_within outer && (left_within left && true)))), tt)
    (options_first outer left n (phrases xs mode None) [])
  where
    timed : PlacedTimes → Shape State
    timed t = whole (stands outer left (m.given_options n (phrases xs mode (Some t)) []))

-- after options no filter stands directly round another
joined_round : (join : Trees → Tree) → ((ts : Trees) → filters_round (join ts) ≡ 0) → (xs : List Tree) (y : Tree) → filters_round y ≡ 0 → filters_round (joined join (xs ++ y ∷ [])) ≡ 0
joined_round join j [] y h = h
joined_round join j (x ∷ []) y h = j _
joined_round join j (x ∷ z ∷ rest) y h = j _

mild_round : (o : Option Tree) (y : Tree) → filters_round y ≡ 0 → filters_round (mild_with o y) ≡ 0
mild_round None y h = h
mild_round (Some x) y h = refl

selection_round : (left : Left) (y : Tree) → filters_round y ≡ 0 → filters_round (selection_with left y) ≡ 0
selection_round left y h = joined_round or_of (λ ts. refl) left.ors (joined and_of (ands_with left y)) (joined_round and_of (λ ts. refl) left.ands (mild_with left.mild y) (mild_round left.mild y h))

optioned_round : (n : Option ℕ) (x : Primary) (os : List PlacedOption) (o : PlacedOption) → filters_round (operand_of n x (os ++ o ∷ [])) ≡ 0
optioned_round None (phrases xs mode t) os o = refl
optioned_round (Some i) x os o = refl
optioned_round None (inner x) [] o = refl
optioned_round None (inner x) (p ∷ os) o = refl

thesaurus_round : (left : Left) (n : Option ℕ) (x : Primary) (os : List PlacedOption) (at : ℕ) (s : List ℕ) (r : Option (List ℕ)) → filters_round (thesaurus_selection left n x os at s r) ≡ 0
thesaurus_round left n x os at s r = selection_round left (operand_of n x (thesaurus_ended os at s r None)) (optioned_round n x os _)

relationship_first : (b full : Bool) (k : List ℕ → State) (r : Option (List ℕ)) → ((t : List ℕ) → state_within (k t) ≡ b) → First state_within b full (m.relationship_word k r)
relationship_first b full k None e = ((λ i. ((λ j t. e t ∙ old b), tt)), tt)
relationship_first b full k (Some r) e = tt

thesaurus_first : (outer : List Frame) (left : Left) (n : Option ℕ) (x : Primary) (os : List PlacedOption) (at : ℕ) (s : List ℕ) (r : Option (List ℕ)) → First state_within (before outer left x) false (m.thesaurus_rest outer left n x os at s r)
thesaurus_first outer left n x os at s r = first_or_else state_within (before outer left x) false (m.levels_words outer left n x os at s r) (or_else (and_then filters_without_at (whole_of k)) (m.unfiltered_next outer left n x (thesaurus_ended os at s r None))) (
  (λ i. all_or_else (Same (before outer left x)) (and_then bound (m.levels_end with_levels)) (and_then side (whole_of k)) (levels bound) (all_and_then (Same (before outer left x)) side (whole_of k) made)),
  ((λ i. levels (one_number R.Exactly)), ((λ i. levels two_bounds), tt)),
)
    (first_filters state_within (before outer left x) false k (m.unfiltered_next outer left n x (thesaurus_ended os at s r None)) made (unfiltered_first outer left n x (thesaurus_ended os at s r None) false))
  where
    k : Filter → State
    k f = filtered_state outer (thesaurus_selection left n x os at s r) f

    with_levels : Option Range → State
    with_levels l = stands outer left (m.given_options n x (thesaurus_ended os at s r l))

    levels : (t : Shape Range) → AllEnds (Same (before outer left x)) (and_then t (m.levels_end with_levels))
    levels t = all_and_then (Same (before outer left x)) t (m.levels_end with_levels) (λ l. ((λ i. old (before outer left x)), tt))

    made : (f : Filter) → state_within (filtered_state outer (thesaurus_selection left n x os at s r) f) ≡ (before outer left x && true)
    made f = filter_within outer (thesaurus_selection left n x os at s r) (left_within left && primary_within x) f (whole_within left n x (thesaurus_ended os at s r None))
        ∙ ap (λ z. before outer left x && not (nat_le max_filters z)) (thesaurus_round left n x os at s r)

opened_within : (a c : Bool) → ((c && a) && true) ≡ ((a && (c && true)) && true)
opened_within true true = refl
opened_within true false = refl
opened_within false true = refl
opened_within false false = refl

pub stage_first : (outer : List Frame) (left : Left) (stage : Stage) → First state_within (state_within (stands outer left stage)) (has_all_filters (selection_at left stage)) (m.next_at outer left stage)
stage_first outer left (m.wanted None) = let same = old (frames_within outer && (left_within left && true)) in ((λ i. same), ((λ i s. same), (((λ i s. same), tt), (opened_within (frames_within outer) (left_within left), tt))))
stage_first outer left (m.wanted (Some at)) = let same = old (frames_within outer && (left_within left && true)) in ((λ i s. same), (((λ i s. same), tt), (opened_within (frames_within outer) (left_within left), tt)))
stage_first outer left (m.in_braces n xs) = let same = old (frames_within outer && (left_within left && true)) in (((λ i s. same), tt), (same, tt))
stage_first outer left (m.valued n xs) = let same = old (frames_within outer && (left_within left && true)) in first_or_else state_within (frames_within outer && (left_within left && true)) (has_all_filters (selection_at left (m.valued n xs))) (m.mode_words outer left n xs) (m.moded_next outer left n xs M.Any) ((λ i. same), ((λ i. same), ((λ i. same), tt))) (moded_first outer left n xs M.Any)
stage_first outer left (m.any_of n xs) = let same = old (frames_within outer && (left_within left && true)) in first_or_else state_within (frames_within outer && (left_within left && true)) (has_all_filters (selection_at left (m.any_of n xs))) (m.mode_word (codes "word") M.AnyWord outer left n xs) (m.moded_next outer left n xs M.Any) ((λ i. same), tt) (moded_first outer left n xs M.Any)
stage_first outer left (m.all_of n xs) = let same = old (frames_within outer && (left_within left && true)) in first_or_else state_within (frames_within outer && (left_within left && true)) (has_all_filters (selection_at left (m.all_of n xs))) (m.mode_word (codes "words") M.AllWords outer left n xs) (m.moded_next outer left n xs M.All) ((λ i. same), tt) (moded_first outer left n xs M.All)
stage_first outer left (m.moded n xs mode) = moded_first outer left n xs mode
stage_first outer left (m.given_options n x os) = options_first outer left n x os
stage_first outer left (m.stop_terms n x os at ts) = let same = old (before outer left x) in first_or_else state_within (before outer left x) (has_all_filters (selection_at left (m.stop_terms n x os at ts))) (m.term_words outer left n x os at ts) (m.options_next outer left n x (os ++ m.stop_option at ts ∷ []))
    ((λ i. ((λ r. ((λ t s. same), tt)), (((λ t s. same), tt), tt))), ((λ i. ((λ r. ((λ t s. same), tt)), (((λ t s. same), tt), tt))), tt)) (options_first outer left n x (os ++ m.stop_option at ts ∷ []))
stage_first outer left (m.stop_strings n x os at ts except xs) = let same = old (before outer left x) in (((λ i s. same), tt), (same, tt))
stage_first outer left (m.thesaurus n x os at s r) = subst (λ b. First state_within (before outer left x) b (m.thesaurus_next outer left n x os at s r)) (ap (nat_le max_filters) (sym (thesaurus_round left n x os at s r)))
    (first_or_else state_within (before outer left x) false (m.relationship_word (λ t. stands outer left (m.thesaurus n x os at s (Some t))) r) (m.thesaurus_rest outer left n x os at s r) (relationship_first (before outer left x) false (λ t. stands outer left (m.thesaurus n x os at s (Some t))) r (λ t. refl)) (thesaurus_first outer left n x os at s r))
stage_first outer left (m.thesaurus_in n x os at us s r) = first_or_else state_within (before outer left x) false (m.relationship_word (λ t. stands outer left (m.thesaurus_in n x os at us s (Some t))) r) (m.thesaurus_in_rest outer left n x os at us s r)
    (relationship_first (before outer left x) false (λ t. stands outer left (m.thesaurus_in n x os at us s (Some t))) r (λ t. refl))
    ((λ i. levels (one_number R.Exactly)), ((λ i. levels two_bounds), ((λ i. levels bound), ((((λ i. ((λ j t. old (before outer left x)), tt)), tt)), (old (before outer left x), tt)))))
  where
    made : Option Range → State
    made l = stands outer left (m.thesauri_in n x os at (us ++ m.thesaurus_use s r l ∷ []))

    levels : (t : Shape Range) → AllEnds (Same (before outer left x)) (and_then t (m.levels_end made))
    levels t = all_and_then (Same (before outer left x)) t (m.levels_end made) (λ l. ((λ i. old (before outer left x)), tt))
stage_first outer left (m.thesauri_in n x os at us) = let same = old (before outer left x) in (((λ i. ((λ j s. same), tt)), tt), (same, tt))
stage_first outer left (m.with_filter x) =
    first_filters state_within (frames_within outer && are_filters_within x) (nat_le max_filters (filters_round x)) (filtered_state outer x) (word (codes "at") (λ i. and_then side (whole_of (filtered_state outer x))) (m.close_next outer x)) (λ f. filter_within outer x (are_filters_within x) f refl)
    (first_side state_within (frames_within outer && are_filters_within x) (nat_le max_filters (filters_round x)) (filtered_state outer x) (m.close_next outer x) (λ f. filter_within outer x (are_filters_within x) f refl) (close_first outer x (nat_le max_filters (filters_round x)) (are_filters_within x) refl))
