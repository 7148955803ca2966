-- Wherever the machine stands, some further symbols make a whole selection.
use Rattle.std.proofs.Common.{◌≡◌, ℕ, Bool, true, false, cond, List, [], ◌∷◌, ◌++◌, Option, Some, None, refl, sym, ◌∙◌, ap, subst, append_assoc}
use Rattle.std.proofs.lemmas.List.{append-nil}
use Rattle.std.specs.Prelude.{codes}
use Rattle.ft_base.specs.declared.filter.Filter.{Filter}
use Rattle.ft_base.specs.declared.range.Range.{Range}
use Rattle.ft_base.specs.declared.words.Mode.{Mode}
use Rattle.ft_base.specs.declared.words.Mode.TheVariants as M
use Rattle.ft_base.specs.declared.options.StopTerm.{StopTerm}
use Rattle.ft_base.specs.declared.options.StopSource.{StopSource}
use Rattle.ft_base.specs.declared.options.StopSource.TheVariants.{At, Written}
use Rattle.ft_base.specs.declared.options.ThesaurusUse.{ThesaurusUse}
use Rattle.ft_base.proofs.Truth.{pointwise_refl}
use Rattle.selection_grammar.specs.declared.symbol.Symbol.TheVariants as S
use Rattle.selection_grammar.specs.declared.symbol.Placed.{Placed}
use Rattle.selection_grammar.specs.declared.parsed.PlacedString.{PlacedString}
use Rattle.selection_grammar.specs.declared.parsed.PlacedOption.{PlacedOption}
use Rattle.selection_grammar.specs.declared.parsed.PlacedTimes.{PlacedTimes}
use Rattle.selection_grammar.specs.Shapes.{Shape, whole, nothing, word, number, text, mark, is_word, step, run, Spelled, or_else, and_then}
use Rattle.selection_grammar.specs.Keywords.{filters, times, levels, plain_option}
use Rattle.selection_grammar.specs.Tree as tree
use Rattle.selection_grammar.specs.Tree.{Tree, and_of, joined, Primary, phrases, inner}
use Rattle.selection_grammar.specs.Grammar as g
use Rattle.selection_grammar.specs.Grammar.{Spot, at, name, string, joint, Strings, Value, Moded, Timed, Named, Thesaurus, Thesauri, Source, Terms, Given, Options, Negation, Operand, Unary, Mild, Ands, Ors, Selection, texts_of}
use Rattle.selection_grammar.specs.steps.Machine as m
use Rattle.selection_grammar.specs.steps.Machine.{Left, nothing_left_of, Frame, Stage, State, next, advance, run_on, selection_at, selection_with, ors_with, ands_with, mild_with, operand_of, filtered_state, thesaurus_option, thesaurus_use, stop_option, start, close_next}
use Rattle.selection_grammar.specs.Keywords.{filters_without_at, range}
use Rattle.selection_grammar.specs.Shapes.{is_mark, number_leads, text_leads, number_of, text_of}
use Rattle.selection_grammar.proofs.Words.{is_mark_self, symbol_of}
use Rattle.selection_grammar.proofs.Walks.{st, Walks, stays, goes_on, walk, takes_own, run_on_of, run_on-append}

-- Every branch of a shape comes to an end. The Bool says whether the shape is what is left of a choice, which may have no branch but is no end.
abbrev pub Ends : {A : Type 0} → Bool → Shape A → Type 0
Ends true (whole a) = ⊥
Ends false (whole a) = Unit {0}
Ends true nothing = Unit {0}
Ends false nothing = ⊥
Ends b (word key to rest) = ((p : ℕ) → Ends false (to p)) × Ends true rest
Ends b (number to rest) = ((n : ℕ) → Ends false (to n)) × Ends true rest
Ends b (text to rest) = ((p : ℕ) (s : List ℕ) → Ends false (to p s)) × Ends true rest
Ends b (mark m to rest) = Ends false to × Ends true rest

ends_or_else : {A : Type 0} (t r : Shape A) → Ends true t → Ends true r → Ends true (or_else t r)
ends_or_else (whole a) r h k = absurd h
ends_or_else nothing r h k = k
ends_or_else (word key to rest) r h k = (h.0, ends_or_else rest r h.1 k)
ends_or_else (number to rest) r h k = (h.0, ends_or_else rest r h.1 k)
ends_or_else (text to rest) r h k = (h.0, ends_or_else rest r h.1 k)
ends_or_else (mark m to rest) r h k = (h.0, ends_or_else rest r h.1 k)

-- some path to the end
pub record End {A : Type 0} (t : Shape A) : Type 0 where
  pub path : List Placed
  pub last : A
  pub runs : run (Some t) path ≡ Some (whole last)

abbrev here : Spot
here = (0, 0)

pub end_of : {A : Type 0} (t : Shape A) → Ends false t → End t
end_of (whole a) h = record { path = []; last = a; runs = refl }
end_of nothing h = absurd h
end_of (word key to rest) h = let e = end_of (to 0) (h.0 0) in record { path = name here key ∷ e.path; last = e.last; runs = ap (λ b. run (cond b (Some (to 0)) (step rest (name here key))) e.path) (pointwise_refl key) ∙ e.runs }
end_of (number to rest) h = let e = end_of (to 0) (h.0 0) in record { path = at here (S.Number 0) ∷ e.path; last = e.last; runs = e.runs }
end_of (text to rest) h = let e = end_of (to 0 []) (h.0 0 []) in record { path = string here [] ∷ e.path; last = e.last; runs = e.runs }
end_of (mark m to rest) h = let e = end_of to h.0 in record { path = at here (symbol_of m) ∷ e.path; last = e.last; runs = ap (λ b. run (cond b (Some to) (step rest (at here (symbol_of m)))) e.path) (is_mark_self m) ∙ e.runs }

-- a symbol leads to a shape that ends too
by_test : {A : Type 0} (b : Bool) (x y : Option (Shape A)) (t : Shape A) → (x ≡ Some t → Ends false t) → (y ≡ Some t → Ends false t) → cond b x y ≡ Some t → Ends false t
by_test true x y t there past e = there e
by_test false x y t there past e = past e

by_number : {A : Type 0} (o : Option ℕ) (to : ℕ → Shape A) (y : Option (Shape A)) (t : Shape A) → ((n : ℕ) → to n ≡ t → Ends false t) → (y ≡ Some t → Ends false t) → number_leads to y o ≡ Some t → Ends false t
by_number None to y t there past e = past e
by_number (Some n) to y t there past e = there n (let same : to n ≡ t = cc in same)

by_text : {A : Type 0} (o : Option (List ℕ)) (to : List ℕ → Shape A) (y : Option (Shape A)) (t : Shape A) → ((n : List ℕ) → to n ≡ t → Ends false t) → (y ≡ Some t → Ends false t) → text_leads to y o ≡ Some t → Ends false t
by_text None to y t there past e = past e
by_text (Some n) to y t there past e = there n (let same : to n ≡ t = cc in same)

pub step_ends : {A : Type 0} (b : Bool) (t r : Shape A) (p : Placed) → Ends b t → step t p ≡ Some r → Ends false r
step_ends b (whole a) r p h e = cc
step_ends b nothing r p h e = cc
step_ends b (word key to rest) r p h e = by_test (is_word key p.symbol) (Some (to p.from)) (step rest p) r (λ k. let same : to p.from ≡ r = cc in subst (Ends false) same (h.0 p.from)) (λ k. step_ends true rest r p h.1 k) e
step_ends b (number to rest) r p h e = by_number (number_of p.symbol) to (step rest p) r (λ n k. subst (Ends false) k (h.0 n)) (λ k. step_ends true rest r p h.1 k) e
step_ends b (text to rest) r p h e = by_text (text_of p.symbol) (to p.from) (step rest p) r (λ n k. subst (Ends false) k (h.0 p.from n)) (λ k. step_ends true rest r p h.1 k) e
step_ends b (mark m to rest) r p h e = by_test (is_mark m p.symbol) (Some to) (step rest p) r (λ k. let same : to ≡ r = cc in subst (Ends false) same h.0) (λ k. step_ends true rest r p h.1 k) e

-- everything that may stand next comes to an end
close_ends : (outer : List Frame) (x : Tree) → Ends true (close_next outer x)
close_ends [] x = tt
close_ends (frame ∷ outer) x = (tt, tt)

joint_ends : (outer : List Frame) (left : Left) (x : Tree) → Ends true (m.joint_next outer left x)
joint_ends outer left x = ends_or_else (m.joint_words outer left x) (close_next outer (selection_with left x)) ((λ p. tt), ((λ p. tt), ((λ p. ((λ q. tt), tt)), tt))) (close_ends outer (selection_with left x))

using_ends : (outer : List Frame) (left : Left) (n : Option ℕ) (x : Primary) (os : List PlacedOption) (at : ℕ) → Ends true (m.using_next outer left n x os at)
using_ends outer left n x os at = ends_or_else (m.listed_next outer left n x os at) (and_then (plain_option at) (λ o. whole (st outer left (m.given_options n x (os ++ o ∷ [])))))
    ((λ p. ((λ q. ((λ r s. tt), tt)), ((((λ q. ((λ r s. tt), tt)), tt), tt)))), ((λ p. ((λ q. ((λ r. ((λ t s. tt), tt)), (((λ t s. tt), tt), tt))), tt)), tt)) ((λ p. ((λ p. tt), ((λ p. tt), tt))), ((λ p. tt), ((λ p. tt), ((λ p. ((λ p. tt), ((λ p. tt), tt))), ((λ p. tt), ((λ p. tt), ((λ p. ((λ p s. tt), tt)), ((λ p. ((λ p. tt), ((λ p. tt), ((λ p. tt), ((λ p. ((λ p. tt), tt)), tt))))), tt))))))))

unfiltered_ends : (outer : List Frame) (left : Left) (n : Option ℕ) (x : Primary) (os : List PlacedOption) → Ends true (m.unfiltered_next outer left n x os)
unfiltered_ends outer left n x os = ends_or_else (m.using_word outer left n x os) (m.joint_next outer left (operand_of n x os)) ((λ p. using_end p), tt) (joint_ends outer left (operand_of n x os))
  where
    using_end : (p : ℕ) → Ends false (m.using_next outer left n x os p)
    using_end p = using_ends outer left n x os p

filters_end : (k : Filter → State) (rest : Shape State) → Ends true rest → Ends true (or_else (and_then filters (λ f. whole (k f))) rest)
filters_end k rest h = ends_or_else (and_then filters (λ f. whole (k f))) rest ((λ p. tt), ((λ p. ((λ n. ((λ p. tt), ((λ p. tt), ((λ p. tt), tt)))), tt)), ((λ p. ((λ p. ((λ n. ((λ p. tt), ((λ p. tt), ((λ p. tt), tt)))), tt)), ((λ p. ((λ n. ((λ p. ((λ n. ((λ p. tt), ((λ p. tt), ((λ p. tt), tt)))), tt)), tt)), tt)), ((λ p. ((λ p. ((λ n. ((λ p. tt), ((λ p. tt), ((λ p. tt), tt)))), tt)), ((λ p. ((λ n. ((λ p. tt), ((λ p. tt), ((λ p. tt), tt)))), tt)), tt))), tt)))), ((λ p. ((λ p. tt), ((λ p. tt), tt))), ((λ p. ((λ p. tt), ((λ p. tt), tt))), ((λ p. ((λ p. tt), tt)), ((λ p. ((λ p. tt), ((λ p. tt), tt))), tt))))))) h

options_end : (outer : List Frame) (left : Left) (n : Option ℕ) (x : Primary) (os : List PlacedOption) → Ends true (m.options_next outer left n x os)
options_end outer left n x os = filters_end (filtered_state outer (selection_with left (operand_of n x os))) (m.unfiltered_next outer left n x os) (unfiltered_ends outer left n x os)

moded_ends : (outer : List Frame) (left : Left) (n : Option ℕ) (xs : List PlacedString) (mode : Mode) → Ends true (m.moded_next outer left n xs mode)
moded_ends outer left n xs mode = ends_or_else (and_then times (λ t. whole (st outer left (m.given_options n (phrases xs mode (Some t)) [])))) (m.options_next outer left n (phrases xs mode None) []) ((λ p. ((λ p. ((λ n. ((λ p. tt), tt)), tt)), ((λ p. ((λ n. ((λ p. ((λ n. ((λ p. tt), tt)), tt)), tt)), tt)), ((λ p. ((λ p. ((λ n. ((λ p. tt), tt)), tt)), ((λ p. ((λ n. ((λ p. tt), tt)), tt)), tt))), tt)))), tt) (options_end outer left n (phrases xs mode None) [])

thesaurus_rest_ends : (outer : List Frame) (left : Left) (n : Option ℕ) (x : Primary) (os : List PlacedOption) (at : ℕ) (s : List ℕ) (r : Option (List ℕ)) → Ends true (m.thesaurus_rest outer left n x os at s r)
thesaurus_rest_ends outer left n x os at s r = ends_or_else (m.levels_words outer left n x os at s r) (or_else (and_then filters_without_at (λ f. whole (filtered_state outer selection f))) (m.unfiltered_next outer left n x ended)) ((λ p. ((λ p. ((λ n. ((λ p. tt), tt)), tt)), ((λ p. ((λ n. ((λ p. tt), tt)), tt)), ((λ p. tt), ((λ p. tt), tt))))), ((λ p. ((λ n. ((λ p. tt), tt)), tt)), ((λ p. ((λ n. ((λ p. ((λ n. ((λ p. tt), tt)), tt)), tt)), tt)), tt)))
    (ends_or_else (and_then filters_without_at (λ f. whole (filtered_state outer selection f))) (m.unfiltered_next outer left n x ended) ((λ p. tt), ((λ p. ((λ n. ((λ p. tt), ((λ p. tt), ((λ p. tt), tt)))), tt)), ((λ p. ((λ p. ((λ n. ((λ p. tt), ((λ p. tt), ((λ p. tt), tt)))), tt)), ((λ p. ((λ n. ((λ p. ((λ n. ((λ p. tt), ((λ p. tt), ((λ p. tt), tt)))), tt)), tt)), tt)), ((λ p. ((λ p. ((λ n. ((λ p. tt), ((λ p. tt), ((λ p. tt), tt)))), tt)), ((λ p. ((λ n. ((λ p. tt), ((λ p. tt), ((λ p. tt), tt)))), tt)), tt))), tt)))), ((λ p. ((λ p. tt), ((λ p. tt), tt))), ((λ p. ((λ p. tt), ((λ p. tt), tt))), ((λ p. ((λ p. tt), tt)), tt)))))) (unfiltered_ends outer left n x ended))
  where
    selection : Tree
    selection = m.thesaurus_selection left n x os at s r

    ended : List PlacedOption
    ended = m.thesaurus_ended os at s r None

relationship_ends : (stands : List ℕ → State) (r : Option (List ℕ)) → Ends true (m.relationship_word stands r)
relationship_ends stands None = ((λ p. ((λ q s. tt), tt)), tt)
relationship_ends stands (Some r) = tt

thesaurus_in_ends : (outer : List Frame) (left : Left) (n : Option ℕ) (x : Primary) (os : List PlacedOption) (at : ℕ) (us : List ThesaurusUse) (s : List ℕ) (r : Option (List ℕ)) → Ends true (m.thesaurus_in_rest outer left n x os at us s r)
thesaurus_in_ends outer left n x os at us s r = ((λ p. ((λ n. ((λ p. tt), tt)), tt)), ((λ p. ((λ n. ((λ p. ((λ n. ((λ p. tt), tt)), tt)), tt)), tt)), ((λ p. ((λ p. ((λ n. ((λ p. tt), tt)), tt)), ((λ p. ((λ n. ((λ p. tt), tt)), tt)), tt))), ((((λ p. ((λ p s. tt), tt)), tt)), ((tt), tt)))))

stage_ends : (outer : List Frame) (left : Left) (stage : Stage) → Ends true (m.next_at outer left stage)
stage_ends outer left (m.wanted None) = ((λ p. tt), ((λ p s. tt), ((((λ p s. tt), tt), (tt, tt)))))
stage_ends outer left (m.wanted (Some i)) = ((λ p s. tt), ((((λ p s. tt), tt), (tt, tt))))
stage_ends outer left (m.in_braces n xs) = (((λ p s. tt), tt), (tt, tt))
stage_ends outer left (m.valued n xs) = ends_or_else (m.mode_words outer left n xs) (m.moded_next outer left n xs M.Any) ((λ p. tt), ((λ p. tt), ((λ p. tt), tt))) (moded_ends outer left n xs M.Any)
stage_ends outer left (m.any_of n xs) = ends_or_else (m.mode_word (codes "word") M.AnyWord outer left n xs) (m.moded_next outer left n xs M.Any) ((λ p. tt), tt) (moded_ends outer left n xs M.Any)
stage_ends outer left (m.all_of n xs) = ends_or_else (m.mode_word (codes "words") M.AllWords outer left n xs) (m.moded_next outer left n xs M.All) ((λ p. tt), tt) (moded_ends outer left n xs M.All)
stage_ends outer left (m.moded n xs mode) = moded_ends outer left n xs mode
stage_ends outer left (m.given_options n x os) = options_end outer left n x os
stage_ends outer left (m.stop_terms n x os at ts) = ends_or_else (m.term_words outer left n x os at ts) (m.options_next outer left n x (os ++ stop_option at ts ∷ [])) ((λ p. term_end), ((λ p. term_end2), tt)) (options_end outer left n x (os ++ stop_option at ts ∷ []))
  where
    term_end : Ends false (m.term_next outer left n x os at ts false)
    term_end = ((λ r. ((λ t s. tt), tt)), (((λ t s. tt), tt), tt))

    term_end2 : Ends false (m.term_next outer left n x os at ts true)
    term_end2 = ((λ r. ((λ t s. tt), tt)), (((λ t s. tt), tt), tt))
stage_ends outer left (m.stop_strings n x os at ts except xs) = (((λ p s. tt), tt), (tt, tt))
stage_ends outer left (m.thesaurus n x os at s r) = ends_or_else (m.relationship_word (λ t. st outer left (m.thesaurus n x os at s (Some t))) r) (m.thesaurus_rest outer left n x os at s r) (relationship_ends (λ t. st outer left (m.thesaurus n x os at s (Some t))) r) (thesaurus_rest_ends outer left n x os at s r)
stage_ends outer left (m.thesaurus_in n x os at us s r) = ends_or_else (m.relationship_word (λ t. st outer left (m.thesaurus_in n x os at us s (Some t))) r) (m.thesaurus_in_rest outer left n x os at us s r) (relationship_ends (λ t. st outer left (m.thesaurus_in n x os at us s (Some t))) r) (thesaurus_in_ends outer left n x os at us s r)
stage_ends outer left (m.thesauri_in n x os at us) = (((λ p. ((λ q s. tt), tt)), tt), (tt, tt))
stage_ends outer left (m.with_filter x) = filters_end (filtered_state outer x) (close_next outer x) (close_ends outer x)

pub next_ends : (s : State) → Ends true (next s)
unfolding next
next_ends s = stage_ends s.outer s.left s.stage
