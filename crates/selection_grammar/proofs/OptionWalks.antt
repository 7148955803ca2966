-- The machine goes through the options that the grammar spells.
use Rattle.std.proofs.Common.{◌≡◌, ℕ, Bool, true, false, cond, List, [], ◌∷◌, ◌++◌, Option, Some, None, refl, sym, ◌∙◌, ap, subst, append_assoc}
use Rattle.std.proofs.lemmas.List.{append-nil}
use Rattle.std.specs.Prelude.{codes}
use Rattle.ft_base.specs.declared.filter.Filter.{Filter}
use Rattle.ft_base.specs.declared.range.Range.{Range}
use Rattle.ft_base.specs.declared.words.Mode.{Mode}
use Rattle.ft_base.specs.declared.words.Mode.TheVariants as M
use Rattle.ft_base.specs.declared.options.StopTerm.{StopTerm}
use Rattle.ft_base.specs.declared.options.StopSource.{StopSource}
use Rattle.ft_base.specs.declared.options.StopSource.TheVariants.{At, Written}
use Rattle.ft_base.specs.declared.options.ThesaurusUse.{ThesaurusUse}
use Rattle.selection_grammar.specs.declared.symbol.Symbol.TheVariants as S
use Rattle.selection_grammar.specs.declared.symbol.Placed.{Placed}
use Rattle.selection_grammar.specs.declared.parsed.PlacedString.{PlacedString}
use Rattle.selection_grammar.specs.declared.parsed.PlacedOption.{PlacedOption}
use Rattle.selection_grammar.specs.declared.parsed.PlacedTimes.{PlacedTimes}
use Rattle.selection_grammar.specs.Shapes.{Shape, whole, nothing, word, number, text, mark, is_word, step, run, Spelled, or_else, and_then}
use Rattle.selection_grammar.specs.Keywords.{filters, filters_without_at, range, times, levels, plain_option}
use Rattle.selection_grammar.specs.Tree as tree
use Rattle.selection_grammar.specs.Tree.{Tree, and_of, joined, Primary, phrases, inner}
use Rattle.selection_grammar.specs.Grammar as g
use Rattle.selection_grammar.specs.Grammar.{Spot, at, name, string, joint, Strings, Value, Moded, Timed, Named, Thesaurus, Thesauri, Source, Terms, Given, Options, Negation, Operand, Unary, Mild, Ands, Ors, Selection, texts_of}
use Rattle.selection_grammar.specs.steps.Machine as m
use Rattle.selection_grammar.specs.steps.Machine.{Left, nothing_left_of, Frame, Stage, State, next, advance, run_on, selection_at, selection_with, ors_with, ands_with, mild_with, operand_of, filtered_state, thesaurus_option, thesaurus_use, stop_option, start, close_next}
use Rattle.selection_grammar.proofs.Walks.{st, Walks, stays, goes_on, walks_same, Takes, walk, walk_all, takes_own, takes_past, close_word}
use Rattle.selection_grammar.proofs.PartRuns.{filters_run, times_run, option_run, thesaurus_filters_run, thesaurus_levels_run, thesauri_levels_run}

-- after an operand with whole options
pub record Ready (outer : List Frame) (left : Left) (n : Option ℕ) (x : Primary) (os : List PlacedOption) (s : State) : Type 0 where
  pub takes : Takes s (m.unfiltered_next outer left n x os)
  pub filter : (u : List Placed) (f : Filter) → Spelled filters u f → Walks s u (filtered_state outer (selection_with left (operand_of n x os)) f)
  pub outer_is : s.outer ≡ outer
  pub ends : selection_at s.left s.stage ≡ Some (selection_with left (operand_of n x os))

pub options_ready : {outer : List Frame} {left : Left} {n : Option ℕ} {x : Primary} {os : List PlacedOption} {s : State} → Takes s (m.options_next outer left n x os) → s.outer ≡ outer → selection_at s.left s.stage ≡ Some (selection_with left (operand_of n x os)) → Ready outer left n x os s
options_ready {outer = outer} {left = left} {n = n} {x = x} {os = os} takes same ends = record {
  takes = takes_past (and_then filters (λ f. whole (filtered_state outer selection f))) rest takes
      ((λ p. close_word outer selection p (codes "ordered")), ((λ p. close_word outer selection p (codes "window")), ((λ p. close_word outer selection p (codes "distance")), ((λ p. close_word outer selection p (codes "same")), ((λ p. close_word outer selection p (codes "different")), ((λ p. close_word outer selection p (codes "entire")), ((λ p. close_word outer selection p (codes "at")), tt)))))));
  filter = λ u f h. walk_all takes u (filtered_state outer selection f) (λ e. cc) (filters_run (filtered_state outer selection) rest u f h);
  outer_is = same;
  ends = ends;
}
  where
    selection : Tree
    selection = selection_with left (operand_of n x os)

    rest : Shape State
    rest = m.unfiltered_next outer left n x os

-- after whole options, whatever they are
pub given_ready : (outer : List Frame) (left : Left) (n : Option ℕ) (x : Primary) (os : List PlacedOption) → Ready outer left n x os (st outer left (m.given_options n x os))
unfolding next
given_ready outer left n x os = options_ready (takes_own (st outer left (m.given_options n x os)) (m.options_next outer left n x os) refl) refl refl

-- after stop words
stops_ready : (outer : List Frame) (left : Left) (n : Option ℕ) (x : Primary) (os : List PlacedOption) (at : ℕ) (ts : List StopTerm) → Ready outer left n x (os ++ stop_option at ts ∷ []) (st outer left (m.stop_terms n x os at ts))
unfolding next
stops_ready outer left n x os at ts = options_ready (takes_past (m.term_words outer left n x os at ts) (m.options_next outer left n x (os ++ stop_option at ts ∷ [])) (takes_own (st outer left (m.stop_terms n x os at ts)) (m.next_at outer left (m.stop_terms n x os at ts)) refl)
    ((λ p. close_word outer selection p (codes "union")), ((λ p. close_word outer selection p (codes "except")), tt))) refl refl
  where
    selection : Tree
    selection = selection_with left (operand_of n x (os ++ stop_option at ts ∷ []))

-- after a thesaurus
thesaurus_takes : (outer : List Frame) (left : Left) (n : Option ℕ) (x : Primary) (os : List PlacedOption) (at : ℕ) (s : List ℕ) (r : Option (List ℕ)) → Takes (st outer left (m.thesaurus n x os at s r)) (m.thesaurus_rest outer left n x os at s r)
unfolding next
thesaurus_takes outer left n x os at s None = takes_past (m.relationship_word (λ t. st outer left (m.thesaurus n x os at s (Some t))) None) (m.thesaurus_rest outer left n x os at s None) (takes_own (st outer left (m.thesaurus n x os at s None)) (m.thesaurus_next outer left n x os at s None) refl)
    ((λ p. close_word outer selection p (codes "relationship")), tt)
  where
    selection : Tree
    selection = m.thesaurus_selection left n x os at s None
thesaurus_takes outer left n x os at s (Some r) = takes_own (st outer left (m.thesaurus n x os at s (Some r))) (m.thesaurus_rest outer left n x os at s (Some r)) refl

thesaurus_ready : (outer : List Frame) (left : Left) (n : Option ℕ) (x : Primary) (os : List PlacedOption) (at : ℕ) (s : List ℕ) (r : Option (List ℕ)) → Ready outer left n x (m.thesaurus_ended os at s r None) (st outer left (m.thesaurus n x os at s r))
thesaurus_ready outer left n x os at s r = record {
  takes = takes_past (and_then filters_without_at (λ f. whole (filtered_state outer selection f))) rest
      (takes_past (m.levels_words outer left n x os at s r) (or_else (and_then filters_without_at (λ f. whole (filtered_state outer selection f))) rest) (thesaurus_takes outer left n x os at s r) ((λ p. close_word outer selection p (codes "at")), ((λ p. close_word outer selection p (codes "exactly")), ((λ p. close_word outer selection p (codes "from")), tt))))
      ((λ p. close_word outer selection p (codes "ordered")), ((λ p. close_word outer selection p (codes "window")), ((λ p. close_word outer selection p (codes "distance")), ((λ p. close_word outer selection p (codes "same")), ((λ p. close_word outer selection p (codes "different")), ((λ p. close_word outer selection p (codes "entire")), tt))))));
  filter = λ u f h. walk_all (thesaurus_takes outer left n x os at s r) u (filtered_state outer selection f) (λ e. cc) (thesaurus_filters_run outer left n x os at s r u f h);
  outer_is = refl;
  ends = refl;
}
  where
    selection : Tree
    selection = m.thesaurus_selection left n x os at s r

    rest : Shape State
    rest = m.unfiltered_next outer left n x (m.thesaurus_ended os at s r None)

-- how a thesaurus begins, before its relationship and its levels
named_walk : {outer : List Frame} {left : Left} {n : Option ℕ} {x : Primary} {os : List PlacedOption} {s : State} (p q : Spot) → Ready outer left n x os s → {v : List Placed} {t : List ℕ} {r : Option (List ℕ)} → Named v t r
    → Walks s (name p (codes "using") ∷ name q (codes "thesaurus") ∷ v) (st outer left (m.thesaurus n x os p.0 t r))
unfolding next
named_walk {outer = outer} {left = left} {n = n} {x = x} {os = os} p q ready (Named.plain i j t) = walk ready.takes (name p (codes "using")) (name q (codes "thesaurus") ∷ name i (codes "at") ∷ string j t ∷ []) (st outer left (m.thesaurus n x os p.0 t None)) refl
named_walk {outer = outer} {left = left} {n = n} {x = x} {os = os} p q ready (Named.related i j k l t r) =
    goes_on (walk ready.takes (name p (codes "using")) (name q (codes "thesaurus") ∷ name i (codes "at") ∷ string j t ∷ []) (st outer left (m.thesaurus n x os p.0 t None)) refl)
    (walk (takes_own (st outer left (m.thesaurus n x os p.0 t None)) (m.thesaurus_next outer left n x os p.0 t None) refl) (name k (codes "relationship")) (string l r ∷ []) (st outer left (m.thesaurus n x os p.0 t (Some r))) refl)

-- a place after one more option
pub record OptionWalk (outer : List Frame) (left : Left) (n : Option ℕ) (x : Primary) (os : List PlacedOption) (s : State) (u : List Placed) : Type 0 where
  pub there : State
  pub walks : Walks s u there
  pub ready : Ready outer left n x os there

one_thesaurus : {outer : List Frame} {left : Left} {n : Option ℕ} {x : Primary} {os : List PlacedOption} {s : State} (p q : Spot) → Ready outer left n x os s → {v : List Placed} {t : ThesaurusUse} → Thesaurus v t
    → OptionWalk outer left n x (os ++ thesaurus_option p.0 (t ∷ []) ∷ []) s (name p (codes "using") ∷ name q (codes "thesaurus") ∷ v)
one_thesaurus {outer = outer} {left = left} {n = n} {x = x} {os = os} p q ready (Thesaurus.all_levels {s = t} {r = r} named) = record { there = st outer left (m.thesaurus n x os p.0 t r); walks = named_walk p q ready named; ready = thesaurus_ready outer left n x os p.0 t r }
one_thesaurus {outer = outer} {left = left} {n = n} {x = x} {os = os} p q ready (Thesaurus.some_levels {v = v} {s = t} {r = r} {range = l} named h) = record {
  there = st outer left (m.given_options n x (m.thesaurus_ended os p.0 t r (Some l)));
  walks = goes_on (named_walk p q ready named) (walk_all (thesaurus_takes outer left n x os p.0 t r) v _ (λ e. cc) (thesaurus_levels_run outer left n x os p.0 t r v l h));
  ready = given_ready outer left n x (m.thesaurus_ended os p.0 t r (Some l));
}

-- thesauri in parentheses: after one, where no more of it comes
record UseWalk (outer : List Frame) (left : Left) (n : Option ℕ) (x : Primary) (os : List PlacedOption) (at : ℕ) (us : List ThesaurusUse) (s : State) (u : List Placed) : Type 0 where
  there : State
  walks : Walks s u there
  takes : Takes there (m.thesauri_next outer left n x os at us)

in_takes : (outer : List Frame) (left : Left) (n : Option ℕ) (x : Primary) (os : List PlacedOption) (at : ℕ) (us : List ThesaurusUse) (s : List ℕ) (r : Option (List ℕ)) → Takes (st outer left (m.thesaurus_in n x os at us s r)) (m.thesaurus_in_rest outer left n x os at us s r)
unfolding next
in_takes outer left n x os at us s None = takes_past (m.relationship_word (λ t. st outer left (m.thesaurus_in n x os at us s (Some t))) None) (m.thesaurus_in_rest outer left n x os at us s None) (takes_own (st outer left (m.thesaurus_in n x os at us s None)) (m.thesaurus_in_next outer left n x os at us s None) refl) ((λ p. refl), tt)
in_takes outer left n x os at us s (Some r) = takes_own (st outer left (m.thesaurus_in n x os at us s (Some r))) (m.thesaurus_in_rest outer left n x os at us s (Some r)) refl

-- from where the name and the relationship stand
named_in : {outer : List Frame} {left : Left} {n : Option ℕ} {x : Primary} {os : List PlacedOption} {s : State} {us : List ThesaurusUse} (at : ℕ) (pre : List Placed) → ((i j : Spot) (t : List ℕ) → Walks s (pre ++ name i (codes "at") ∷ string j t ∷ []) (st outer left (m.thesaurus_in n x os at us t None)))
    → {v : List Placed} {t : List ℕ} {r : Option (List ℕ)} → Named v t r → Walks s (pre ++ v) (st outer left (m.thesaurus_in n x os at us t r))
unfolding next
named_in at pre entry (Named.plain i j t) = entry i j t
named_in {outer = outer} {left = left} {n = n} {x = x} {os = os} {us = us} at pre entry (Named.related i j k l t r) =
    walks_same (goes_on (entry i j t) (walk (takes_own (st outer left (m.thesaurus_in n x os at us t None)) (m.thesaurus_in_next outer left n x os at us t None) refl) (name k (codes "relationship")) (string l r ∷ []) (st outer left (m.thesaurus_in n x os at us t (Some r))) refl))
    (append_assoc pre (name i (codes "at") ∷ string j t ∷ []) (name k (codes "relationship") ∷ string l r ∷ []))

use_in : {outer : List Frame} {left : Left} {n : Option ℕ} {x : Primary} {os : List PlacedOption} {s : State} {us : List ThesaurusUse} (at : ℕ) (pre : List Placed) → ((i j : Spot) (t : List ℕ) → Walks s (pre ++ name i (codes "at") ∷ string j t ∷ []) (st outer left (m.thesaurus_in n x os at us t None)))
    → {v : List Placed} {t : ThesaurusUse} → Thesaurus v t → UseWalk outer left n x os at (us ++ t ∷ []) s (pre ++ v)
unfolding next
use_in {outer = outer} {left = left} {n = n} {x = x} {os = os} {us = us} at pre entry (Thesaurus.all_levels {s = t} {r = r} named) = record {
  there = st outer left (m.thesaurus_in n x os at us t r);
  walks = named_in at pre entry named;
  takes = takes_past (and_then range (m.levels_end (λ l. st outer left (m.thesauri_in n x os at (us ++ thesaurus_use t r l ∷ []))))) (m.thesauri_next outer left n x os at (us ++ thesaurus_use t r None ∷ [])) (in_takes outer left n x os at us t r) ((λ p. refl), ((λ p. refl), ((λ p. refl), tt)));
}
use_in {outer = outer} {left = left} {n = n} {x = x} {os = os} {us = us} at pre entry (Thesaurus.some_levels {u = u} {v = v} {s = t} {r = r} {range = l} named h) = record {
  there = st outer left (m.thesauri_in n x os at (us ++ thesaurus_use t r (Some l) ∷ []));
  walks = walks_same (goes_on (named_in at pre entry named) (walk_all (in_takes outer left n x os at us t r) v _ (λ e. cc) (thesauri_levels_run outer left n x os at us t r v l h))) (append_assoc pre u v);
  takes = takes_own (st outer left (m.thesauri_in n x os at (us ++ thesaurus_use t r (Some l) ∷ []))) (m.thesauri_next outer left n x os at (us ++ thesaurus_use t r (Some l) ∷ [])) refl;
}

use_same : {outer : List Frame} {left : Left} {n : Option ℕ} {x : Primary} {os : List PlacedOption} {at : ℕ} {us : List ThesaurusUse} {s : State} {u w : List Placed} → UseWalk outer left n x os at us s u → u ≡ w → UseWalk outer left n x os at us s w
use_same {outer = outer} {left = left} {n = n} {x = x} {os = os} {at = at} {us = us} {s = s} y e = subst (λ z. UseWalk outer left n x os at us s z) e y

thesauri_walk : {outer : List Frame} {left : Left} {n : Option ℕ} {x : Primary} {os : List PlacedOption} {s : State} (p q t : Spot) → Ready outer left n x os s → {v : List Placed} {us : List ThesaurusUse} → Thesauri v us
    → UseWalk outer left n x os p.0 us s (name p (codes "using") ∷ name q (codes "thesaurus") ∷ at t S.OpenParenthesis ∷ v)
thesauri_walk {outer = outer} {left = left} {n = n} {x = x} {os = os} p q t ready (Thesauri.first taken) =
    use_in p.0 (name p (codes "using") ∷ name q (codes "thesaurus") ∷ at t S.OpenParenthesis ∷ []) (λ i j y. walk ready.takes (name p (codes "using")) (name q (codes "thesaurus") ∷ at t S.OpenParenthesis ∷ name i (codes "at") ∷ string j y ∷ []) (st outer left (m.thesaurus_in n x os p.0 [] y None)) refl) taken
thesauri_walk {outer = outer} {left = left} {n = n} {x = x} {os = os} {s = s} p q t ready (Thesauri.further {u = u} {v = v} {xs = us} {x = last} uses k taken) = go (thesauri_walk p q t ready uses)
  where
    go : UseWalk outer left n x os p.0 us s (name p (codes "using") ∷ name q (codes "thesaurus") ∷ at t S.OpenParenthesis ∷ u) → UseWalk outer left n x os p.0 (us ++ last ∷ []) s (name p (codes "using") ∷ name q (codes "thesaurus") ∷ at t S.OpenParenthesis ∷ u ++ at k S.Comma ∷ v)
    go before = use_same (use_in p.0 (name p (codes "using") ∷ name q (codes "thesaurus") ∷ at t S.OpenParenthesis ∷ u ++ at k S.Comma ∷ [])
        (λ i j y. walks_same (goes_on before.walks (walk before.takes (at k S.Comma) (name i (codes "at") ∷ string j y ∷ []) (st outer left (m.thesaurus_in n x os p.0 us y None)) refl)) (sym (append_assoc (name p (codes "using") ∷ name q (codes "thesaurus") ∷ at t S.OpenParenthesis ∷ u) (at k S.Comma ∷ []) (name i (codes "at") ∷ string j y ∷ [])))) taken)
        (append_assoc (name p (codes "using") ∷ name q (codes "thesaurus") ∷ at t S.OpenParenthesis ∷ u) (at k S.Comma ∷ []) v)

-- stop words
strings_walk : {outer : List Frame} {left : Left} {n : Option ℕ} {x : Primary} {os : List PlacedOption} {s : State} {ts : List StopTerm} {except : Bool} (p : ℕ) (pre : List Placed) → ((j : Spot) (y : List ℕ) → Walks s (pre ++ string j y ∷ []) (st outer left (m.stop_strings n x os p ts except (g.placed j y ∷ []))))
    → {v : List Placed} {xs : List PlacedString} → Strings v xs → Walks s (pre ++ v) (st outer left (m.stop_strings n x os p ts except xs))
unfolding next
strings_walk p pre entry (Strings.first j y) = entry j y
strings_walk {outer = outer} {left = left} {n = n} {x = x} {os = os} {ts = ts} {except = except} p pre entry (Strings.further {u = u} {xs = xs} before i j y) =
    walks_same (goes_on (strings_walk p pre entry before) (walk (takes_own (st outer left (m.stop_strings n x os p ts except xs)) (m.next_at outer left (m.stop_strings n x os p ts except xs)) refl) (at i S.Comma) (string j y ∷ []) (st outer left (m.stop_strings n x os p ts except (xs ++ g.placed j y ∷ []))) refl))
    (append_assoc pre u (at i S.Comma ∷ string j y ∷ []))

-- from where a term is wanted
source_walk : {outer : List Frame} {left : Left} {n : Option ℕ} {x : Primary} {os : List PlacedOption} {s : State} {ts : List StopTerm} {except : Bool} (p : ℕ) (pre : List Placed)
    → ((i j : Spot) (y : List ℕ) → Walks s (pre ++ name i (codes "at") ∷ string j y ∷ []) (st outer left (m.stop_terms n x os p (ts ++ record { except = except; source = At y } ∷ []))))
    → ((i j : Spot) (y : List ℕ) → Walks s (pre ++ at i S.OpenParenthesis ∷ string j y ∷ []) (st outer left (m.stop_strings n x os p ts except (g.placed j y ∷ []))))
    → {v : List Placed} {z : StopSource} → Source v z → Walks s (pre ++ v) (st outer left (m.stop_terms n x os p (ts ++ record { except = except; source = z } ∷ [])))
unfolding next
source_walk p pre listed written (Source.list i j y) = listed i j y
source_walk {outer = outer} {left = left} {n = n} {x = x} {os = os} {ts = ts} {except = except} p pre listed written (Source.written {u = u} {xs = xs} i strings j) =
    walks_same (goes_on (strings_walk p (pre ++ at i S.OpenParenthesis ∷ []) (λ k y. walks_same (written i k y) (sym (append_assoc pre (at i S.OpenParenthesis ∷ []) (string k y ∷ [])))) strings)
    (walk (takes_own (st outer left (m.stop_strings n x os p ts except xs)) (m.next_at outer left (m.stop_strings n x os p ts except xs)) refl) (at j S.CloseParenthesis) [] (st outer left (m.stop_terms n x os p (ts ++ record { except = except; source = Written (texts_of xs) } ∷ []))) refl))
    (flat pre (at i S.OpenParenthesis ∷ []) u (at j S.CloseParenthesis ∷ []))
  where
    flat : (a b c d : List Placed) → a ++ b ++ c ++ d ≡ a ++ (b ++ c ++ d)
    flat a b c d = simp append_assoc

terms_walk : {outer : List Frame} {left : Left} {n : Option ℕ} {x : Primary} {os : List PlacedOption} {s : State} (p q r : Spot) → Ready outer left n x os s → {v : List Placed} {ts : List StopTerm} → Terms v ts
    → Walks s (name p (codes "using") ∷ name q (codes "stop") ∷ name r (codes "words") ∷ v) (st outer left (m.stop_terms n x os p.0 ts))
unfolding next
terms_walk {outer = outer} {left = left} {n = n} {x = x} {os = os} p q r ready (Terms.first source) = source_walk {ts = []} {except = false} p.0 (name p (codes "using") ∷ name q (codes "stop") ∷ name r (codes "words") ∷ [])
    (λ i j y. walk ready.takes (name p (codes "using")) (name q (codes "stop") ∷ name r (codes "words") ∷ name i (codes "at") ∷ string j y ∷ []) (st outer left (m.stop_terms n x os p.0 (record { except = false; source = At y } ∷ []))) refl)
    (λ i j y. walk ready.takes (name p (codes "using")) (name q (codes "stop") ∷ name r (codes "words") ∷ at i S.OpenParenthesis ∷ string j y ∷ []) (st outer left (m.stop_strings n x os p.0 [] false (g.placed j y ∷ []))) refl) source
terms_walk {outer = outer} {left = left} {n = n} {x = x} {os = os} {s = s} p q r ready (Terms.further {u = u} {v = v} {xs = ts} {x = z} terms k except source) = go except (terms_walk p q r ready terms)
  where
    pre : List Placed
    pre = name p (codes "using") ∷ name q (codes "stop") ∷ name r (codes "words") ∷ u

    further : (e : Bool) (c d : Placed) (t : State) → run (Some (next (st outer left (m.stop_terms n x os p.0 ts)))) (name k (joint e) ∷ c ∷ d ∷ []) ≡ Some (whole t) → Walks s pre (st outer left (m.stop_terms n x os p.0 ts)) → Walks s (pre ++ name k (joint e) ∷ [] ++ c ∷ d ∷ []) t
    further e c d t h before = walks_same (goes_on before (walk (takes_own (st outer left (m.stop_terms n x os p.0 ts)) (next (st outer left (m.stop_terms n x os p.0 ts))) refl) (name k (joint e)) (c ∷ d ∷ []) t h)) (sym (append_assoc pre (name k (joint e) ∷ []) (c ∷ d ∷ [])))

    go : (e : Bool) → Walks s pre (st outer left (m.stop_terms n x os p.0 ts)) → Walks s (pre ++ name k (joint e) ∷ v) (st outer left (m.stop_terms n x os p.0 (ts ++ record { except = e; source = z } ∷ [])))
    go e before = walks_same (source_walk {ts = ts} {except = e} p.0 (pre ++ name k (joint e) ∷ []) (λ i j y. further e _ _ _ (listed e i j y) before) (λ i j y. further e _ _ _ (written e i j y) before) source) (append_assoc pre (name k (joint e) ∷ []) v)
      where
        listed : (e : Bool) (i j : Spot) (y : List ℕ) → run (Some (next (st outer left (m.stop_terms n x os p.0 ts)))) (name k (joint e) ∷ name i (codes "at") ∷ string j y ∷ []) ≡ Some (whole (st outer left (m.stop_terms n x os p.0 (ts ++ record { except = e; source = At y } ∷ []))))
        listed true i j y = refl
        listed false i j y = refl

        written : (e : Bool) (i j : Spot) (y : List ℕ) → run (Some (next (st outer left (m.stop_terms n x os p.0 ts)))) (name k (joint e) ∷ at i S.OpenParenthesis ∷ string j y ∷ []) ≡ Some (whole (st outer left (m.stop_strings n x os p.0 ts e (g.placed j y ∷ []))))
        written true i j y = refl
        written false i j y = refl

-- an option
pub given_walk : {outer : List Frame} {left : Left} {n : Option ℕ} {x : Primary} {os : List PlacedOption} {s : State} {u : List Placed} {o : PlacedOption} → Ready outer left n x os s → Given u o → OptionWalk outer left n x (os ++ o ∷ []) s u
given_walk {outer = outer} {left = left} {n = n} {x = x} {os = os} ready (Given.plain {u = u} {o = o} p h) = record {
  there = st outer left (m.given_options n x (os ++ o ∷ []));
  walks = walk ready.takes (name p (codes "using")) u (st outer left (m.given_options n x (os ++ o ∷ []))) (option_run outer left n x os p.0 u o h);
  ready = given_ready outer left n x (os ++ o ∷ []);
}
given_walk ready (Given.thesaurus p q taken) = one_thesaurus p q ready taken
given_walk {outer = outer} {left = left} {n = n} {x = x} {os = os} {s = s} ready (Given.thesauri {u = u} {xs = us} p q r uses t) = go (thesauri_walk p q r ready uses)
  where
    go : UseWalk outer left n x os p.0 us s (name p (codes "using") ∷ name q (codes "thesaurus") ∷ at r S.OpenParenthesis ∷ u) → OptionWalk outer left n x (os ++ thesaurus_option p.0 us ∷ []) s (name p (codes "using") ∷ name q (codes "thesaurus") ∷ at r S.OpenParenthesis ∷ u ++ at t S.CloseParenthesis ∷ [])
    go before = record {
      there = st outer left (m.given_options n x (os ++ thesaurus_option p.0 us ∷ []));
      walks = goes_on before.walks (walk before.takes (at t S.CloseParenthesis) [] (st outer left (m.given_options n x (os ++ thesaurus_option p.0 us ∷ []))) refl);
      ready = given_ready outer left n x (os ++ thesaurus_option p.0 us ∷ []);
    }
given_walk {outer = outer} {left = left} {n = n} {x = x} {os = os} ready (Given.stop_words {xs = ts} p q r terms) = record { there = st outer left (m.stop_terms n x os p.0 ts); walks = terms_walk p q r ready terms; ready = stops_ready outer left n x os p.0 ts }

pub options_walk : {outer : List Frame} {left : Left} {n : Option ℕ} {x : Primary} {s : State} {u : List Placed} {os : List PlacedOption} → Ready outer left n x [] s → Options u os → OptionWalk outer left n x os s u
options_walk {s = s} ready Options.none = record { there = s; walks = stays s; ready = ready }
options_walk ready (Options.further options o) = go (options_walk ready options) o
  where
    go : {outer : List Frame} {left : Left} {n : Option ℕ} {x : Primary} {s : State} {u v : List Placed} {os : List PlacedOption} {o : PlacedOption} → OptionWalk outer left n x os s u → Given v o → OptionWalk outer left n x (os ++ o ∷ []) s (u ++ v)
    go before o = let more = given_walk before.ready o in record { there = more.there; walks = goes_on before.walks more.walks; ready = more.ready }
