-- The machine goes through every selection that the grammar spells.
use Rattle.std.proofs.Common.{◌≡◌, ℕ, Bool, true, false, cond, List, [], ◌∷◌, ◌++◌, Option, Some, None, refl, sym, ◌∙◌, ap, subst, append_assoc}
use Rattle.std.proofs.lemmas.List.{append-nil}
use Rattle.std.specs.Prelude.{codes}
use Rattle.ft_base.specs.declared.filter.Filter.{Filter}
use Rattle.ft_base.specs.declared.range.Range.{Range}
use Rattle.ft_base.specs.declared.words.Mode.{Mode}
use Rattle.ft_base.specs.declared.words.Mode.TheVariants as M
use Rattle.ft_base.specs.declared.options.StopTerm.{StopTerm}
use Rattle.ft_base.specs.declared.options.StopSource.{StopSource}
use Rattle.ft_base.specs.declared.options.StopSource.TheVariants.{At, Written}
use Rattle.ft_base.specs.declared.options.ThesaurusUse.{ThesaurusUse}
use Rattle.selection_grammar.specs.declared.symbol.Symbol.TheVariants as S
use Rattle.selection_grammar.specs.declared.symbol.Placed.{Placed}
use Rattle.selection_grammar.specs.declared.parsed.PlacedString.{PlacedString}
use Rattle.selection_grammar.specs.declared.parsed.PlacedOption.{PlacedOption}
use Rattle.selection_grammar.specs.declared.parsed.PlacedTimes.{PlacedTimes}
use Rattle.selection_grammar.specs.Shapes.{Shape, whole, nothing, word, number, text, mark, is_word, step, run, Spelled, or_else, and_then}
use Rattle.selection_grammar.specs.Keywords.{filters, times, levels, plain_option}
use Rattle.selection_grammar.specs.Tree as tree
use Rattle.selection_grammar.specs.Tree.{Tree, and_of, joined, Primary, phrases, inner}
use Rattle.selection_grammar.specs.Grammar as g
use Rattle.selection_grammar.specs.Grammar.{Spot, at, name, string, joint, Strings, Value, Moded, Timed, Named, Thesaurus, Thesauri, Source, Terms, Given, Options, Negation, Operand, Unary, Mild, Ands, Ors, Selection, texts_of}
use Rattle.selection_grammar.specs.steps.Machine as m
use Rattle.selection_grammar.specs.steps.Machine.{Left, nothing_left_of, Frame, Stage, State, next, advance, run_on, selection_at, selection_with, ors_with, ands_with, mild_with, operand_of, filtered_state, thesaurus_option, thesaurus_use, stop_option, start, close_next}
use Rattle.selection_grammar.proofs.Walks.{st, Walks, stays, goes_on, walks_same, Takes, walk, walk_all, takes_own, takes_past, close_word}
use Rattle.selection_grammar.proofs.PartRuns.{filters_run, times_run}
use Rattle.selection_grammar.proofs.OptionWalks.{Ready, OptionWalk, options_ready, given_ready, options_walk}

-- a value
braces_walk : {outer : List Frame} {left : Left} {n : Option ℕ} (p : Spot) {u : List Placed} {xs : List PlacedString} → Strings u xs → Walks (st outer left (m.wanted n)) (at p S.OpenBrace ∷ u) (st outer left (m.in_braces n xs))
unfolding next
braces_walk {outer = outer} {left = left} {n = None} p (Strings.first q s) = walk (takes_own (st outer left (m.wanted None)) (m.wanted_next outer left None) refl) (at p S.OpenBrace) (string q s ∷ []) (st outer left (m.in_braces None (g.placed q s ∷ []))) refl
braces_walk {outer = outer} {left = left} {n = Some i} p (Strings.first q s) = walk (takes_own (st outer left (m.wanted (Some i))) (m.wanted_next outer left (Some i)) refl) (at p S.OpenBrace) (string q s ∷ []) (st outer left (m.in_braces (Some i) (g.placed q s ∷ []))) refl
braces_walk {outer = outer} {left = left} {n = n} p (Strings.further {xs = xs} before q r s) = goes_on (braces_walk p before) (walk (takes_own (st outer left (m.in_braces n xs)) (m.next_at outer left (m.in_braces n xs)) refl) (at q S.Comma) (string r s ∷ []) (st outer left (m.in_braces n (xs ++ g.placed r s ∷ []))) refl)

pub value_walk : {outer : List Frame} {left : Left} (n : Option ℕ) {u : List Placed} {xs : List PlacedString} → Value u xs → Walks (st outer left (m.wanted n)) u (st outer left (m.valued n xs))
unfolding next
value_walk {outer = outer} {left = left} None (Value.one p s) = walk (takes_own (st outer left (m.wanted None)) (m.wanted_next outer left None) refl) (string p s) [] (st outer left (m.valued None (g.placed p s ∷ []))) refl
value_walk {outer = outer} {left = left} (Some i) (Value.one p s) = walk (takes_own (st outer left (m.wanted (Some i))) (m.wanted_next outer left (Some i)) refl) (string p s) [] (st outer left (m.valued (Some i) (g.placed p s ∷ []))) refl
value_walk {outer = outer} {left = left} n (Value.several {xs = xs} p strings q) = goes_on (braces_walk p strings) (walk (takes_own (st outer left (m.in_braces n xs)) (m.next_at outer left (m.in_braces n xs)) refl) (at q S.CloseBrace) [] (st outer left (m.valued n xs)) refl)

-- after a value and its mode
record ModeWalk (outer : List Frame) (left : Left) (n : Option ℕ) (xs : List PlacedString) (mode : Mode) (s : State) (u : List Placed) : Type 0 where
  there : State
  walks : Walks s u there
  takes : Takes there (m.moded_next outer left n xs mode)
  outer_is : there.outer ≡ outer
  ends : selection_at there.left there.stage ≡ Some (selection_with left (operand_of n (phrases xs mode None) []))

moded_walk : (outer : List Frame) (left : Left) (n : Option ℕ) (xs : List PlacedString) {mode : Mode} {u : List Placed} → Moded u mode → ModeWalk outer left n xs mode (st outer left (m.valued n xs)) u
unfolding next
moded_walk outer left n xs Moded.unwritten = record {
  there = st outer left (m.valued n xs);
  walks = stays (st outer left (m.valued n xs));
  takes = takes_past (m.mode_words outer left n xs) (m.moded_next outer left n xs M.Any) (takes_own (st outer left (m.valued n xs)) (m.next_at outer left (m.valued n xs)) refl) ((λ p. close_word outer _ p (codes "any")), ((λ p. close_word outer _ p (codes "all")), ((λ p. close_word outer _ p (codes "phrase")), tt)));
  outer_is = refl;
  ends = refl;
}
moded_walk outer left n xs (Moded.any p) = record {
  there = st outer left (m.any_of n xs);
  walks = walk (takes_own (st outer left (m.valued n xs)) (m.next_at outer left (m.valued n xs)) refl) (name p (codes "any")) [] (st outer left (m.any_of n xs)) refl;
  takes = takes_past (m.mode_word (codes "word") M.AnyWord outer left n xs) (m.moded_next outer left n xs M.Any) (takes_own (st outer left (m.any_of n xs)) (m.next_at outer left (m.any_of n xs)) refl) ((λ p. close_word outer _ p (codes "word")), tt);
  outer_is = refl;
  ends = refl;
}
moded_walk outer left n xs (Moded.any_word p q) = record {
  there = st outer left (m.moded n xs M.AnyWord);
  walks = goes_on (walk (takes_own (st outer left (m.valued n xs)) (m.next_at outer left (m.valued n xs)) refl) (name p (codes "any")) [] (st outer left (m.any_of n xs)) refl) (walk (takes_own (st outer left (m.any_of n xs)) (m.next_at outer left (m.any_of n xs)) refl) (name q (codes "word")) [] (st outer left (m.moded n xs M.AnyWord)) refl);
  takes = takes_own (st outer left (m.moded n xs M.AnyWord)) (m.moded_next outer left n xs M.AnyWord) refl;
  outer_is = refl;
  ends = refl;
}
moded_walk outer left n xs (Moded.all p) = record {
  there = st outer left (m.all_of n xs);
  walks = walk (takes_own (st outer left (m.valued n xs)) (m.next_at outer left (m.valued n xs)) refl) (name p (codes "all")) [] (st outer left (m.all_of n xs)) refl;
  takes = takes_past (m.mode_word (codes "words") M.AllWords outer left n xs) (m.moded_next outer left n xs M.All) (takes_own (st outer left (m.all_of n xs)) (m.next_at outer left (m.all_of n xs)) refl) ((λ p. close_word outer _ p (codes "words")), tt);
  outer_is = refl;
  ends = refl;
}
moded_walk outer left n xs (Moded.all_words p q) = record {
  there = st outer left (m.moded n xs M.AllWords);
  walks = goes_on (walk (takes_own (st outer left (m.valued n xs)) (m.next_at outer left (m.valued n xs)) refl) (name p (codes "all")) [] (st outer left (m.all_of n xs)) refl) (walk (takes_own (st outer left (m.all_of n xs)) (m.next_at outer left (m.all_of n xs)) refl) (name q (codes "words")) [] (st outer left (m.moded n xs M.AllWords)) refl);
  takes = takes_own (st outer left (m.moded n xs M.AllWords)) (m.moded_next outer left n xs M.AllWords) refl;
  outer_is = refl;
  ends = refl;
}
moded_walk outer left n xs (Moded.phrase p) = record {
  there = st outer left (m.moded n xs M.Phrase);
  walks = walk (takes_own (st outer left (m.valued n xs)) (m.next_at outer left (m.valued n xs)) refl) (name p (codes "phrase")) [] (st outer left (m.moded n xs M.Phrase)) refl;
  takes = takes_own (st outer left (m.moded n xs M.Phrase)) (m.moded_next outer left n xs M.Phrase) refl;
  outer_is = refl;
  ends = refl;
}

timed_walk : {outer : List Frame} {left : Left} {n : Option ℕ} {xs : List PlacedString} {mode : Mode} {s : State} {u v : List Placed} {t : Option PlacedTimes} → ModeWalk outer left n xs mode s u → Timed v t → OptionWalk outer left n (phrases xs mode t) [] s (u ++ v)
timed_walk {outer = outer} {left = left} {n = n} {xs = xs} {mode = mode} {u = u} before Timed.always = record {
  there = before.there;
  walks = walks_same before.walks (sym (append-nil u));
  ready = options_ready (takes_past (and_then times (λ t. whole (st outer left (m.given_options n (phrases xs mode (Some t)) [])))) (m.options_next outer left n (phrases xs mode None) []) before.takes ((λ p. close_word outer _ p (codes "occurs")), tt)) before.outer_is before.ends;
}
timed_walk {outer = outer} {left = left} {n = n} {xs = xs} {mode = mode} before (Timed.some {u = v} {t = t} h) = record {
  there = st outer left (m.given_options n (phrases xs mode (Some t)) []);
  walks = goes_on before.walks (walk_all before.takes v _ (λ e. cc) (times_run (λ t. st outer left (m.given_options n (phrases xs mode (Some t)) [])) (m.options_next outer left n (phrases xs mode None) []) v t h));
  ready = given_ready outer left n (phrases xs mode (Some t)) [];
}

-- after a whole operand, and after a whole selection
record Joins (outer : List Frame) (left : Left) (x : Tree) (s : State) : Type 0 where
  takes : Takes s (m.joint_next outer left x)
  filter : (u : List Placed) (f : Filter) → Spelled filters u f → Walks s u (filtered_state outer (selection_with left x) f)
  outer_is : s.outer ≡ outer
  ends : selection_at s.left s.stage ≡ Some (selection_with left x)

pub record Closes (outer : List Frame) (x : Tree) (s : State) : Type 0 where
  pub takes : Takes s (close_next outer x)
  pub filter : (u : List Placed) (f : Filter) → Spelled filters u f → Walks s u (filtered_state outer x f)
  pub outer_is : s.outer ≡ outer
  pub ends : selection_at s.left s.stage ≡ Some x

ready_joins : {outer : List Frame} {left : Left} {n : Option ℕ} {x : Primary} {os : List PlacedOption} {s : State} → Ready outer left n x os s → Joins outer left (operand_of n x os) s
ready_joins {outer = outer} {left = left} {n = n} {x = x} {os = os} r = record { takes = takes_past (m.using_word outer left n x os) (m.joint_next outer left (operand_of n x os)) r.takes ((λ p. close_word outer _ p (codes "using")), tt); filter = r.filter; outer_is = r.outer_is; ends = r.ends }

joins_closes : {outer : List Frame} {left : Left} {x : Tree} {s : State} → Joins outer left x s → Closes outer (selection_with left x) s
joins_closes {outer = outer} {left = left} {x = x} j = record {
  takes = takes_past (m.joint_words outer left x) (close_next outer (selection_with left x)) j.takes ((λ p. close_word outer _ p (codes "ftor")), ((λ p. close_word outer _ p (codes "ftand")), ((λ p. close_word outer _ p (codes "not")), tt)));
  filter = j.filter;
  outer_is = j.outer_is;
  ends = j.ends;
}

record JoinWalk (outer : List Frame) (left : Left) (x : Tree) (s : State) (u : List Placed) : Type 0 where
  there : State
  walks : Walks s u there
  joins : Joins outer left x there

pub record CloseWalk (outer : List Frame) (x : Tree) (s : State) (u : List Placed) : Type 0 where
  pub there : State
  pub walks : Walks s u there
  pub closes : Closes outer x there

-- after operands joined by `ftand`, and those joined by `ftor`
record AndWalk (outer : List Frame) (ors : List Tree) (xs : List Tree) (s : State) (u : List Placed) : Type 0 where
  there : State
  walks : Walks s u there
  first : List Tree
  last : Tree
  all : first ++ last ∷ [] ≡ xs
  joins : Joins outer (record { ors = ors; ands = first; mild = None }) last there

record OrWalk (outer : List Frame) (xs : List Tree) (s : State) (u : List Placed) : Type 0 where
  there : State
  walks : Walks s u there
  ors : List Tree
  first : List Tree
  last : Tree
  all : ors ++ joined and_of (first ++ last ∷ []) ∷ [] ≡ xs
  joins : Joins outer (record { ors = ors; ands = first; mild = None }) last there

opened_walk : (outer : List Frame) (left : Left) (n : Option ℕ) (p : Spot) → Walks (st outer left (m.wanted n)) (at p S.OpenParenthesis ∷ []) (st (record { left = left; negation = n } ∷ outer) nothing_left_of (m.wanted None))
unfolding next
opened_walk outer left None p = walk (takes_own (st outer left (m.wanted None)) (m.wanted_next outer left None) refl) (at p S.OpenParenthesis) [] (st (record { left = left; negation = None } ∷ outer) nothing_left_of (m.wanted None)) refl
opened_walk outer left (Some i) p = walk (takes_own (st outer left (m.wanted (Some i))) (m.wanted_next outer left (Some i)) refl) (at p S.OpenParenthesis) [] (st (record { left = left; negation = Some i } ∷ outer) nothing_left_of (m.wanted None)) refl

negation_walk : (outer : List Frame) (left : Left) {u : List Placed} {n : Option ℕ} → Negation u n → Walks (st outer left (m.wanted None)) u (st outer left (m.wanted n))
unfolding next
negation_walk outer left Negation.none = stays (st outer left (m.wanted None))
negation_walk outer left (Negation.some p) = walk (takes_own (st outer left (m.wanted None)) (m.wanted_next outer left None) refl) (name p (codes "ftnot")) [] (st outer left (m.wanted (Some p.0))) refl

filtered_closes : (outer : List Frame) (x : Tree) → Closes outer x (st outer nothing_left_of (m.with_filter x))
unfolding next
filtered_closes outer x = record {
  takes = takes_past (and_then filters (λ f. whole (filtered_state outer x f))) (close_next outer x) own (
    (λ p. close_word outer x p (codes "ordered")),
    (
      (λ p. close_word outer x p (codes "window")),
      (
        (λ p. close_word outer x p (codes "distance")),
        (
          (λ p. close_word outer x p (codes "same")),
          ((λ p. close_word outer x p (codes "different")), ((λ p. close_word outer x p (codes "entire")), ((λ p. close_word outer x p (codes "at")), tt))),
        ),
      ),
    ),
  );
  filter = λ u f h. walk_all own u (filtered_state outer x f) (λ e. cc) (filters_run (filtered_state outer x) (close_next outer x) u f h);
  outer_is = refl;
  ends = refl;
}
  where
    own : Takes (st outer nothing_left_of (m.with_filter x)) (m.filtered_next outer x)
    own = takes_own (st outer nothing_left_of (m.with_filter x)) (m.filtered_next outer x) refl

closed : {outer : List Frame} {left : Left} {n : Option ℕ} {x : Tree} {u : List Placed} (p q : Spot) → CloseWalk (record { left = left; negation = n } ∷ outer) x (st (record { left = left; negation = n } ∷ outer) nothing_left_of (m.wanted None)) u
    → OptionWalk outer left n (inner x) [] (st outer left (m.wanted n)) (at p S.OpenParenthesis ∷ u ++ at q S.CloseParenthesis ∷ [])
closed {outer = outer} {left = left} {n = n} {x = x} p q inside = record {
  there = st outer left (m.given_options n (inner x) []);
  walks = goes_on (goes_on (opened_walk outer left n p) inside.walks) (walk inside.closes.takes (at q S.CloseParenthesis) [] (st outer left (m.given_options n (inner x) [])) refl);
  ready = given_ready outer left n (inner x) [];
}

unary_joins : {outer : List Frame} {left : Left} {n : Option ℕ} {x : Primary} {os : List PlacedOption} {u v w : List Placed} → Negation u n → OptionWalk outer left n x [] (st outer left (m.wanted n)) v → Options w os → JoinWalk outer left (operand_of n x os) (st outer left (m.wanted None)) (u ++ v ++ w)
unary_joins {outer = outer} {left = left} {n = n} {x = x} {os = os} {u = u} {v = v} {w = w} negation operand options = go (options_walk operand.ready options)
  where
    go : OptionWalk outer left n x os operand.there w → JoinWalk outer left (operand_of n x os) (st outer left (m.wanted None)) (u ++ v ++ w)
    go more = record { there = more.there; walks = goes_on (goes_on (negation_walk outer left negation) operand.walks) more.walks; joins = ready_joins more.ready }

mild_joins : {outer : List Frame} {ors ands : List Tree} {x y : Tree} {s : State} {u v : List Placed} (p q : Spot) → JoinWalk outer (record { ors = ors; ands = ands; mild = None }) x s u
    → JoinWalk outer (record { ors = ors; ands = ands; mild = Some x }) y (st outer (record { ors = ors; ands = ands; mild = Some x }) (m.wanted None)) v
    → JoinWalk outer (record { ors = ors; ands = ands; mild = None }) (tree.mild_not x y) s (u ++ name p (codes "not") ∷ name q (codes "in") ∷ v)
mild_joins {outer = outer} {ors = ors} {ands = ands} {x = x} {u = u} {v = v} p q before more = record {
  there = more.there;
  walks = goes_on before.walks (goes_on (walk before.joins.takes (name p (codes "not")) (name q (codes "in") ∷ []) (st outer (record { ors = ors; ands = ands; mild = Some x }) (m.wanted None)) refl) more.walks);
  joins = record { takes = more.joins.takes; filter = more.joins.filter; outer_is = more.joins.outer_is; ends = more.joins.ends };
}

and_joins : {outer : List Frame} {ors xs : List Tree} {y : Tree} {s : State} {u v : List Placed} (p : Spot) (before : AndWalk outer ors xs s u) → JoinWalk outer (record { ors = ors; ands = before.first ++ before.last ∷ []; mild = None }) y (st outer (record { ors = ors; ands = before.first ++ before.last ∷ []; mild = None }) (m.wanted None)) v
    → AndWalk outer ors (xs ++ y ∷ []) s (u ++ name p (codes "ftand") ∷ v)
and_joins {outer = outer} {ors = ors} {y = y} p before more = record {
  there = more.there;
  walks = goes_on before.walks (goes_on (walk before.joins.takes (name p (codes "ftand")) [] (st outer (record { ors = ors; ands = before.first ++ before.last ∷ []; mild = None }) (m.wanted None)) refl) more.walks);
  first = before.first ++ before.last ∷ [];
  last = y;
  all = ap (λ z. z ++ y ∷ []) before.all;
  joins = more.joins;
}

or_joins : {outer : List Frame} {xs ys : List Tree} {s : State} {u v : List Placed} (p : Spot) (before : OrWalk outer xs s u)
    → AndWalk outer (before.ors ++ joined and_of (before.first ++ before.last ∷ []) ∷ []) ys (st outer (record { ors = before.ors ++ joined and_of (before.first ++ before.last ∷ []) ∷ []; ands = []; mild = None }) (m.wanted None)) v
    → OrWalk outer (xs ++ joined and_of ys ∷ []) s (u ++ name p (codes "ftor") ∷ v)
or_joins {outer = outer} {xs = xs} p before more = record {
  there = more.there;
  walks = goes_on before.walks (goes_on (walk before.joins.takes (name p (codes "ftor")) [] (st outer (record { ors = before.ors ++ joined and_of (before.first ++ before.last ∷ []) ∷ []; ands = []; mild = None }) (m.wanted None)) refl) more.walks);
  ors = before.ors ++ joined and_of (before.first ++ before.last ∷ []) ∷ [];
  first = more.first;
  last = more.last;
  all = ap (λ z. z ++ joined and_of (more.first ++ more.last ∷ []) ∷ []) before.all ∙ ap (λ z. xs ++ joined and_of z ∷ []) more.all;
  joins = more.joins;
}

or_closes : {outer : List Frame} {xs : List Tree} {s : State} {u : List Placed} → OrWalk outer xs s u → CloseWalk outer (joined tree.or_of xs) s u
or_closes {outer = outer} a = record { there = a.there; walks = a.walks; closes = subst (λ z. Closes outer (joined tree.or_of z) a.there) a.all (joins_closes a.joins) }

filter_closes : {outer : List Frame} {x : Tree} {f : Filter} {s : State} {u v : List Placed} → CloseWalk outer x s u → Spelled filters v f → CloseWalk outer (tree.filtered x f) s (u ++ v)
filter_closes {outer = outer} {x = x} {f = f} {v = v} a h = record { there = filtered_state outer x f; walks = goes_on a.walks (a.closes.filter v f h); closes = filtered_closes outer (tree.filtered x f) }

with_value : {outer : List Frame} {left : Left} {n : Option ℕ} {xs : List PlacedString} {mode : Mode} {s t : State} {u v : List Placed} → Walks s u t → ModeWalk outer left n xs mode t v → ModeWalk outer left n xs mode s (u ++ v)
with_value w x = record { there = x.there; walks = goes_on w x.walks; takes = x.takes; outer_is = x.outer_is; ends = x.ends }

one_and : {outer : List Frame} {ors : List Tree} {x : Tree} {s : State} {u : List Placed} → JoinWalk outer (record { ors = ors; ands = []; mild = None }) x s u → AndWalk outer ors (x ∷ []) s u
one_and {x = x} a = record { there = a.there; walks = a.walks; first = []; last = x; all = refl; joins = a.joins }

one_or : {outer : List Frame} {xs : List Tree} {s : State} {u : List Placed} → AndWalk outer [] xs s u → OrWalk outer (joined and_of xs ∷ []) s u
one_or a = record { there = a.there; walks = a.walks; ors = []; first = a.first; last = a.last; all = ap (λ z. joined and_of z ∷ []) a.all; joins = a.joins }

mutual
  operand_walk : {u : List Placed} {x : Primary} → Operand u x → (outer : List Frame) (left : Left) (n : Option ℕ) → OptionWalk outer left n x [] (st outer left (m.wanted n)) u
  operand_walk (Operand.words {xs = xs} value mode t) outer left n = timed_walk (with_value (value_walk n value) (moded_walk outer left n xs mode)) t
  operand_walk (Operand.parentheses p inside q) outer left n = closed p q (selection_walk inside (record { left = left; negation = n } ∷ outer))

  unary_walk : {u : List Placed} {x : Tree} → Unary u x → (outer : List Frame) (left : Left) → JoinWalk outer left x (st outer left (m.wanted None)) u
  unary_walk (Unary.unary {n = n} negation operand options) outer left = unary_joins negation (operand_walk operand outer left n) options

  mild_walk : {u : List Placed} {x : Tree} → Mild u x → (outer : List Frame) (ors ands : List Tree) → JoinWalk outer (record { ors = ors; ands = ands; mild = None }) x (st outer (record { ors = ors; ands = ands; mild = None }) (m.wanted None)) u
  mild_walk (Mild.first_mild x) outer ors ands = unary_walk x outer (record { ors = ors; ands = ands; mild = None })
  mild_walk (Mild.further_mild {x = x} before p q y) outer ors ands = mild_joins p q (mild_walk before outer ors ands) (unary_walk y outer (record { ors = ors; ands = ands; mild = Some x }))

  ands_walk : {u : List Placed} {xs : List Tree} → Ands u xs → (outer : List Frame) (ors : List Tree) → AndWalk outer ors xs (st outer (record { ors = ors; ands = []; mild = None }) (m.wanted None)) u
  ands_walk (Ands.first_and x) outer ors = one_and (mild_walk x outer ors [])
  ands_walk (Ands.further_and before p y) outer ors = let b = ands_walk before outer ors in and_joins p b (mild_walk y outer ors (b.first ++ b.last ∷ []))

  ors_walk : {u : List Placed} {xs : List Tree} → Ors u xs → (outer : List Frame) → OrWalk outer xs (st outer nothing_left_of (m.wanted None)) u
  ors_walk (Ors.first_or x) outer = one_or (ands_walk x outer [])
  ors_walk (Ors.further_or before p y) outer = let b = ors_walk before outer in or_joins p b (ands_walk y outer (b.ors ++ joined and_of (b.first ++ b.last ∷ []) ∷ []))

  pub selection_walk : {u : List Placed} {x : Tree} → Selection u x → (outer : List Frame) → CloseWalk outer x (st outer nothing_left_of (m.wanted None)) u
  selection_walk (Selection.plain x) outer = or_closes (ors_walk x outer)
  selection_walk (Selection.filtered x h) outer = filter_closes (selection_walk x outer) h
