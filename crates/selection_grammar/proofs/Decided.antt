-- The machine decides which symbols are selections, and which begin one.
use Rattle.std.proofs.Common.{◌≡◌, ℕ, Bool, true, false, cond, List, [], ◌∷◌, ◌++◌, Option, Some, None, refl, sym, ◌∙◌, ap, subst, append_assoc}
use Rattle.std.proofs.lemmas.List.{append-nil}
use Rattle.std.specs.Prelude.{codes}
use Rattle.ft_base.specs.declared.filter.Filter.{Filter}
use Rattle.ft_base.specs.declared.range.Range.{Range}
use Rattle.ft_base.specs.declared.words.Mode.{Mode}
use Rattle.ft_base.specs.declared.words.Mode.TheVariants as M
use Rattle.ft_base.specs.declared.options.StopTerm.{StopTerm}
use Rattle.ft_base.specs.declared.options.StopSource.{StopSource}
use Rattle.ft_base.specs.declared.options.StopSource.TheVariants.{At, Written}
use Rattle.ft_base.specs.declared.options.ThesaurusUse.{ThesaurusUse}
use Rattle.selection_grammar.specs.declared.symbol.Symbol.TheVariants as S
use Rattle.selection_grammar.specs.declared.symbol.Placed.{Placed}
use Rattle.selection_grammar.specs.declared.parsed.PlacedString.{PlacedString}
use Rattle.selection_grammar.specs.declared.parsed.PlacedOption.{PlacedOption}
use Rattle.selection_grammar.specs.declared.parsed.PlacedTimes.{PlacedTimes}
use Rattle.selection_grammar.specs.Shapes.{Shape, whole, nothing, word, number, text, mark, is_word, step, run, Spelled, or_else, and_then}
use Rattle.selection_grammar.specs.Keywords.{filters, times, levels, plain_option}
use Rattle.selection_grammar.specs.Tree as tree
use Rattle.selection_grammar.specs.Tree.{Tree, and_of, joined, Primary, phrases, inner}
use Rattle.selection_grammar.specs.Grammar as g
use Rattle.selection_grammar.specs.Grammar.{Spot, at, name, string, joint, Strings, Value, Moded, Timed, Named, Thesaurus, Thesauri, Source, Terms, Given, Options, Negation, Operand, Unary, Mild, Ands, Ors, Selection, texts_of}
use Rattle.selection_grammar.specs.steps.Machine as m
use Rattle.selection_grammar.specs.steps.Machine.{Left, nothing_left_of, Frame, Stage, State, next, advance, run_on, selection_at, selection_with, ors_with, ands_with, mild_with, operand_of, filtered_state, thesaurus_option, thesaurus_use, stop_option, start, close_next}
use Rattle.selection_grammar.specs.steps.Machine.{read, finished, finished_at, finished_in}
use Rattle.selection_grammar.specs.Texts.{Begins}
use Rattle.selection_grammar.proofs.Standing as stand
use Rattle.selection_grammar.proofs.Standing.{Base, Under, Within, Outer, Stands, left_selection, base_unary, base_option}
use Rattle.selection_grammar.proofs.OptionMoves.{base_words}
use Rattle.selection_grammar.proofs.Reached.{Stood, stood}
use Rattle.selection_grammar.proofs.Walks.{st, Walks, run_on_of, run_on-append}
use Rattle.selection_grammar.proofs.SelectionWalks.{Closes, CloseWalk, selection_walk}
use Rattle.selection_grammar.proofs.Readings.{reading-and_then, outcome}
use Rattle.selection_grammar.proofs.Ended.{Ends, End, end_of, step_ends, next_ends}

-- whatever is spelled is read, as that selection
pub spells_read : (u : List Placed) (x : Tree) → Selection u x → finished (read u) ≡ Some x
spells_read u x a = go (selection_walk a [])
  where
    go : CloseWalk [] x start u → finished (read u) ≡ Some x
    go w = ap finished w.walks.ends ∙ ap (λ o. finished_in o (selection_at w.there.left w.there.stage)) w.closes.outer_is ∙ w.closes.ends

pub one_reading : (u : List Placed) (x y : Tree) → Selection u x → Selection u y → x ≡ y
one_reading u x y a b = let two : Some x ≡ Some y = sym (spells_read u x a) ∙ spells_read u y b in cc

-- a whole selection where the machine stands is spelled
spelled_as : {u : List Placed} {x y : Tree} → Selection u x → Some x ≡ Some y → Selection u y
spelled_as {u = u} {x = x} {y = y} a e = let same : x ≡ y = cc in subst (Selection u) same a

under_selection : {u w : List Placed} {left : Left} {stage : Stage} {y : Tree} → stand.Lefts u left → Under w stage → selection_at left stage ≡ Some y → Selection (u ++ w) y
under_selection l (Under.wanted n) e = cc
under_selection l (Under.in_braces n p xs) e = cc
under_selection {u = u} l (Under.valued {u = v} {v = w} n xs) e = spelled_as (left_selection l (base_unary (stand.base_same (base_words n xs Moded.unwritten) (append-nil (v ++ w))))) e
under_selection l (Under.any_of n xs p) e = spelled_as (left_selection l (base_unary (base_words n xs (Moded.any p)))) e
under_selection l (Under.all_of n xs p) e = spelled_as (left_selection l (base_unary (base_words n xs (Moded.all p)))) e
under_selection l (Under.moded n xs mode) e = spelled_as (left_selection l (base_unary (base_words n xs mode))) e
under_selection l (Under.given_options b) e = spelled_as (left_selection l (base_unary b)) e
under_selection l (Under.stop_terms b p q r ts) e = spelled_as (left_selection l (base_unary (base_option b (Given.stop_words p q r ts)))) e
under_selection l (Under.stop_strings b p q r ts t xs) e = cc
under_selection l (Under.thesaurus b p q named) e = spelled_as (left_selection l (base_unary (base_option b (Given.thesaurus p q (Thesaurus.all_levels named))))) e
under_selection l (Under.thesaurus_in b p q t us named) e = cc
under_selection l (Under.thesauri_in b p q t us) e = cc

pub within_selection : {u : List Placed} {left : Left} {stage : Stage} {y : Tree} → Within u left stage → selection_at left stage ≡ Some y → Selection u y
within_selection (Within.operand l x) e = under_selection l x e
within_selection (Within.filtered x) e = spelled_as x e

stands_selection : {u : List Placed} {s : State} {y : Tree} → Stands u s → finished_in s.outer (selection_at s.left s.stage) ≡ Some y → Selection u y
stands_selection {u = u} {y = y} x e = go x.outer x.within e x.spelled
  where
    go : {o i : List Placed} {outer : List Frame} {left : Left} {stage : Stage} → Outer o outer → Within i left stage → finished_in outer (selection_at left stage) ≡ Some y → u ≡ o ++ i → Selection u y
    go Outer.none within e same = stand.selection_same (within_selection within e) (sym same)
    go (Outer.open_one o l n p) within e same = cc

pub read_spells : (u : List Placed) (x : Tree) → finished (read u) ≡ Some x → Selection u x
read_spells u x e = go (read u) refl e
  where
    at_shape : (t : Shape State) → read u ≡ Some t → finished_at t ≡ Some x → Selection u x
    at_shape (whole s) r e = stands_selection (stood u (whole s) r) e
    at_shape nothing r e = cc
    at_shape (word key to rest) r e = cc
    at_shape (number to rest) r e = cc
    at_shape (text to rest) r e = cc
    at_shape (mark m to rest) r e = cc

    go : (o : Option (Shape State)) → read u ≡ o → finished o ≡ Some x → Selection u x
    go None r e = cc
    go (Some t) r e = at_shape t r e

-- some further symbols end the selection
record Finish (t : Shape State) : Type 0 where
  rest : List Placed
  tree : Tree
  ends : finished (run_on (Some t) rest) ≡ Some tree

here : ℕ × ℕ
here = (0, 0)

closing : Placed
closing = at here S.CloseParenthesis

finish_given : (outer : List Frame) (left : Left) (n : Option ℕ) (x : Primary) (os : List PlacedOption) → Finish (whole (st outer left (m.given_options n x os)))
unfolding next closing
finish_given [] left n x os = record { rest = []; tree = selection_with left (operand_of n x os); ends = refl }
finish_given (frame ∷ outer) left n x os = let f = finish_given outer frame.left frame.negation (inner (selection_with left (operand_of n x os))) [] in record { rest = closing ∷ f.rest; tree = f.tree; ends = f.ends }

then_given : (t : Shape State) (u : List Placed) (outer : List Frame) (left : Left) (n : Option ℕ) (x : Primary) (os : List PlacedOption) → run_on (Some t) u ≡ Some (whole (st outer left (m.given_options n x os))) → Finish t
then_given t u outer left n x os e = let f = finish_given outer left n x os in record { rest = u ++ f.rest; tree = f.tree; ends = ap finished (run_on-append (Some t) u f.rest ∙ ap (λ o. run_on o f.rest) e) ∙ f.ends }

then_finish : (t r : Shape State) (u : List Placed) → run_on (Some t) u ≡ Some r → Finish r → Finish t
then_finish t r u e f = record { rest = u ++ f.rest; tree = f.tree; ends = ap finished (run_on-append (Some t) u f.rest ∙ ap (λ o. run_on o f.rest) e) ∙ f.ends }

finish_stops : (outer : List Frame) (left : Left) (n : Option ℕ) (x : Primary) (os : List PlacedOption) (i : ℕ) (ts : List StopTerm) → Finish (whole (st outer left (m.stop_terms n x os i ts)))
unfolding next closing here
finish_stops [] left n x os i ts = record { rest = []; tree = _; ends = refl }
finish_stops (frame ∷ outer) left n x os i ts = then_given (whole (st (frame ∷ outer) left (m.stop_terms n x os i ts))) (closing ∷ []) outer frame.left frame.negation (inner (selection_with left (operand_of n x (os ++ stop_option i ts ∷ [])))) [] refl

finish_stage : (outer : List Frame) (left : Left) (stage : Stage) → Finish (whole (st outer left stage))
unfolding next closing here
finish_stage [] left (m.valued n xs) = record { rest = []; tree = _; ends = refl }
finish_stage (frame ∷ outer) left (m.valued n xs) = then_given (whole (st (frame ∷ outer) left (m.valued n xs))) (closing ∷ []) outer frame.left frame.negation (inner (selection_with left (operand_of n (phrases xs M.Any None) []))) [] refl
finish_stage [] left (m.any_of n xs) = record { rest = []; tree = _; ends = refl }
finish_stage (frame ∷ outer) left (m.any_of n xs) = then_given (whole (st (frame ∷ outer) left (m.any_of n xs))) (closing ∷ []) outer frame.left frame.negation (inner (selection_with left (operand_of n (phrases xs M.Any None) []))) [] refl
finish_stage [] left (m.all_of n xs) = record { rest = []; tree = _; ends = refl }
finish_stage (frame ∷ outer) left (m.all_of n xs) = then_given (whole (st (frame ∷ outer) left (m.all_of n xs))) (closing ∷ []) outer frame.left frame.negation (inner (selection_with left (operand_of n (phrases xs M.All None) []))) [] refl
finish_stage [] left (m.moded n xs mode) = record { rest = []; tree = _; ends = refl }
finish_stage (frame ∷ outer) left (m.moded n xs mode) = then_given (whole (st (frame ∷ outer) left (m.moded n xs mode))) (closing ∷ []) outer frame.left frame.negation (inner (selection_with left (operand_of n (phrases xs mode None) []))) [] refl
finish_stage outer left (m.given_options n x os) = finish_given outer left n x os
finish_stage outer left (m.stop_terms n x os i ts) = finish_stops outer left n x os i ts
finish_stage [] left (m.thesaurus n x os i s None) = record { rest = []; tree = _; ends = refl }
finish_stage (frame ∷ outer) left (m.thesaurus n x os i s None) = then_given (whole (st (frame ∷ outer) left (m.thesaurus n x os i s None))) (closing ∷ []) outer frame.left frame.negation (inner (m.thesaurus_selection left n x os i s None)) [] refl
finish_stage [] left (m.thesaurus n x os i s (Some r)) = record { rest = []; tree = _; ends = refl }
finish_stage (frame ∷ outer) left (m.thesaurus n x os i s (Some r)) = then_given (whole (st (frame ∷ outer) left (m.thesaurus n x os i s (Some r)))) (closing ∷ []) outer frame.left frame.negation (inner (m.thesaurus_selection left n x os i s (Some r))) [] refl
finish_stage [] left (m.with_filter x) = record { rest = []; tree = _; ends = refl }
finish_stage (frame ∷ outer) left (m.with_filter x) = then_given (whole (st (frame ∷ outer) left (m.with_filter x))) (closing ∷ []) outer frame.left frame.negation (inner (x)) [] refl
finish_stage outer left (m.thesauri_in n x os i us) = then_given (whole (st outer left (m.thesauri_in n x os i us))) (closing ∷ []) outer left n x (os ++ thesaurus_option i us ∷ []) refl
finish_stage outer left (m.thesaurus_in n x os i us s None) = then_given (whole (st outer left (m.thesaurus_in n x os i us s None))) (closing ∷ []) outer left n x (os ++ thesaurus_option i (us ++ thesaurus_use s None None ∷ []) ∷ []) refl
finish_stage outer left (m.thesaurus_in n x os i us s (Some r)) = then_given (whole (st outer left (m.thesaurus_in n x os i us s (Some r)))) (closing ∷ []) outer left n x (os ++ thesaurus_option i (us ++ thesaurus_use s (Some r) None ∷ []) ∷ []) refl
finish_stage outer left (m.in_braces n xs) = then_given (whole (st outer left (m.in_braces n xs))) (at here S.CloseBrace ∷ name here (codes "occurs") ∷ name here (codes "exactly") ∷ at here (S.Number 0) ∷ name here (codes "times") ∷ []) outer left n (phrases xs M.Any (Some (record { at = 0; range = _ }))) [] refl
finish_stage outer left (m.wanted None) = then_given (whole (st outer left (m.wanted None))) (string here [] ∷ name here (codes "occurs") ∷ name here (codes "exactly") ∷ at here (S.Number 0) ∷ name here (codes "times") ∷ []) outer left None (phrases (g.placed here [] ∷ []) M.Any (Some (record { at = 0; range = _ }))) [] refl
finish_stage outer left (m.wanted (Some i)) = then_given (whole (st outer left (m.wanted (Some i)))) (string here [] ∷ name here (codes "occurs") ∷ name here (codes "exactly") ∷ at here (S.Number 0) ∷ name here (codes "times") ∷ []) outer left (Some i) (phrases (g.placed here [] ∷ []) M.Any (Some (record { at = 0; range = _ }))) [] refl
finish_stage outer left (m.stop_strings n x os i ts except xs) = then_finish (whole (st outer left (m.stop_strings n x os i ts except xs))) (whole (st outer left (m.stop_terms n x os i (ts ++ record { except = except; source = Written (texts_of xs) } ∷ [])))) (closing ∷ []) refl (finish_stops outer left n x os i (ts ++ record { except = except; source = Written (texts_of xs) } ∷ []))

finish_shape : (t : Shape State) → Ends false t → Finish t
finish_shape t h = let e = end_of t h in then_finish t (whole e.last) e.path (run_on_of e.path (Some t) e.last e.runs) (finish_stage e.last.outer e.last.left e.last.stage)

advance_ends : (t r : Shape State) (p : Placed) → Ends false t → advance t p ≡ Some r → Ends false r
advance_ends (whole s) r p h e = step_ends true (next s) r p (next_ends s) e
advance_ends nothing r p h e = cc
advance_ends (word key to rest) r p h e = step_ends false (word key to rest) r p h e
advance_ends (number to rest) r p h e = step_ends false (number to rest) r p h e
advance_ends (text to rest) r p h e = step_ends false (text to rest) r p h e
advance_ends (mark m to rest) r p h e = step_ends false (mark m to rest) r p h e

by_shape : (o : Option (Shape State)) (u : List Placed) (r : Shape State) → ((t : Shape State) → o ≡ Some t → run_on (Some t) u ≡ Some r → Ends false r) → run_on o u ≡ Some r → Ends false r
by_shape None u r go e = cc
by_shape (Some t) u r go e = go t refl e

reached_ends : (u : List Placed) (t r : Shape State) → Ends false t → run_on (Some t) u ≡ Some r → Ends false r
reached_ends [] t r h e = let same : t ≡ r = cc in subst (Ends false) same h
reached_ends (p ∷ u) t r h e = by_shape (advance t p) u r (λ q k f. reached_ends u q r (advance_ends t q p h k) f) e

pub read-append : (u v : List Placed) → read (u ++ v) ≡ run_on (read u) v
read-append u v = run_on-append (Some (whole start)) u v

-- what the machine has read begins a selection
pub read_begins : (u : List Placed) (t : Shape State) → read u ≡ Some t → Begins u
read_begins u t e =
    let f = finish_shape t (reached_ends u (whole start) t tt e) in
    (f.rest, f.tree, read_spells (u ++ f.rest) f.tree (ap finished (read-append u f.rest ∙ ap (λ o. run_on o f.rest) e) ∙ f.ends))

-- and what it refuses begins none
pub refused_begins : (u : List Placed) → read u ≡ None → Begins u → ⊥
refused_begins u e (rest, x, a) =
    let two : None ≡ Some x = sym (ap finished (read-append u rest ∙ ap (λ o. run_on o rest) e)) ∙ spells_read (u ++ rest) x a in
    cc

pub not_begun : (u : List Placed) → (Begins u → ⊥) → read u ≡ None
not_begun u h = go (read u) refl
  where
    go : (o : Option (Shape State)) → read u ≡ o → o ≡ None
    go None e = refl
    go (Some t) e = absurd (h (read_begins u t e))
