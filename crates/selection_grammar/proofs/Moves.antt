-- Wherever the machine stands, what may stand next leads to where it stands after that.
use Rattle.std.proofs.Common.{◌≡◌, ℕ, Bool, true, false, List, [], ◌∷◌, ◌++◌, Option, Some, None, refl, sym, ◌∙◌, ap, subst, append_assoc}
use Rattle.std.proofs.lemmas.List.{append-nil}
use Rattle.std.specs.Prelude.{codes}
use Rattle.ft_base.specs.declared.filter.Filter.{Filter}
use Rattle.ft_base.specs.declared.range.Range.{Range}
use Rattle.ft_base.specs.declared.words.Mode.{Mode}
use Rattle.ft_base.specs.declared.words.Mode.TheVariants as M
use Rattle.ft_base.specs.declared.options.StopTerm.{StopTerm}
use Rattle.ft_base.specs.declared.options.StopSource.{StopSource}
use Rattle.ft_base.specs.declared.options.ThesaurusUse.{ThesaurusUse}
use Rattle.selection_grammar.specs.declared.symbol.Symbol.TheVariants as S
use Rattle.selection_grammar.specs.declared.symbol.Placed.{Placed}
use Rattle.selection_grammar.specs.declared.parsed.PlacedString.{PlacedString}
use Rattle.selection_grammar.specs.declared.parsed.PlacedOption.{PlacedOption}
use Rattle.selection_grammar.specs.declared.parsed.PlacedTimes.{PlacedTimes}
use Rattle.selection_grammar.specs.Shapes.{Shape, whole, Spelled, or_else, and_then}
use Rattle.selection_grammar.specs.Keywords.{filters, filters_without_at, times, levels, plain_option, range_without_at}
use Rattle.selection_grammar.specs.Tree.{Tree, Primary, phrases, inner}
use Rattle.selection_grammar.specs.Grammar as g
use Rattle.selection_grammar.specs.Grammar.{Spot, at, name, string, joint, Strings, Value, Moded, Timed, Named, Thesaurus, Thesauri, Source, Terms, Given, Options, Negation, Operand, Unary, Selection}
use Rattle.selection_grammar.specs.steps.Machine as m
use Rattle.selection_grammar.specs.steps.Machine.{Left, nothing_left_of, Frame, Stage, State, next, selection_with, operand_of, filtered_state, thesaurus_option, thesaurus_use, stop_option}
use Rattle.selection_grammar.proofs.Paths.{Paths, paths_or_else, paths_then, paths_map}
use Rattle.selection_grammar.proofs.Parts.{filters_each, other_filters_each, times_each, plain_option_each}
use Rattle.selection_grammar.proofs.Standing as st
use Rattle.selection_grammar.proofs.Standing.{Lefts, Base, TermsBefore, UsesBefore, using_stop, using_thesaurus, Under, Within, Outer, Stands, base_same, left_selection, left_or, left_and, left_mild, nothing_left, base_unary, base_option}

-- the open parentheses, what stands to the left, and the operand under way
pub record In (u : List Placed) (outer : List Frame) (left : Left) (w : List Placed) : Type 0 where
  pub outside : List Placed
  pub before : List Placed
  pub spelled : u ≡ outside ++ (before ++ w)
  pub opened : Outer outside outer
  pub lefts : Lefts before left

regrouped : (o l w v : List Placed) → o ++ (l ++ w) ++ v ≡ o ++ (l ++ (w ++ v))
regrouped o l w v = simp append_assoc

pub grown : {u w : List Placed} {outer : List Frame} {left : Left} → In u outer left w → (v : List Placed) → In (u ++ v) outer left (w ++ v)
grown {w = w} a v = record { outside = a.outside; before = a.before; spelled = ap (λ z. z ++ v) a.spelled ∙ regrouped a.outside a.before w v; opened = a.opened; lefts = a.lefts }

pub in_same : {u w z : List Placed} {outer : List Frame} {left : Left} → In u outer left w → w ≡ z → In u outer left z
in_same {u = u} {outer = outer} {left = left} a e = subst (λ z. In u outer left z) e a

pub stands_in : {u w : List Placed} {outer : List Frame} {left : Left} {stage : Stage} → In u outer left w → Under w stage → Stands u (record { outer = outer; left = left; stage = stage })
stands_in {w = w} a x = record { outside = a.outside; inside = a.before ++ w; spelled = a.spelled; outer = a.opened; within = Within.operand a.lefts x }

pub stands_same : {u w : List Placed} {s : State} → Stands u s → u ≡ w → Stands w s
stands_same {s = s} a e = subst (λ z. Stands z s) e a

pub under_same : {u w : List Placed} {s : Stage} → Under u s → u ≡ w → Under w s
under_same {s = s} a e = subst (λ z. Under z s) e a

-- the operand goes on by these symbols
pub leads : {u w : List Placed} {outer : List Frame} {left : Left} {stage : Stage} → In u outer left w → (v z : List Placed) → Under z stage → z ≡ w ++ v → Stands (u ++ v) (record { outer = outer; left = left; stage = stage })
leads a v z x e = stands_in (grown a v) (under_same x e)

abbrev pub After : List Placed → List Placed → State → Type 0
After u v s = Stands (u ++ v) s

-- a filter
pub filter_leads : {u i o v : List Placed} {outer : List Frame} {x : Tree} {f : Filter} → Outer o outer → u ≡ o ++ i → Selection i x → Spelled filters v f → Stands (u ++ v) (filtered_state outer x f)
filter_leads {i = i} {o = o} {v = v} x e y h = record { outside = o; inside = i ++ v; spelled = ap (λ z. z ++ v) e ∙ append_assoc o i v; outer = x; within = Within.filtered (g.Selection.filtered y h) }

pub filter_leads_on : {u i o v : List Placed} {outer : List Frame} {x : Tree} {f : Filter} → Outer o outer → u ≡ o ++ i → Selection i x → Spelled filters v f → Stands (u ++ (v ++ [])) (filtered_state outer x f)
filter_leads_on {u = u} {v = v} x e y h = stands_same (filter_leads x e y h) (ap (λ z. u ++ z) (sym (append-nil v)))

-- a closing parenthesis
pub close_moves : {u i o : List Placed} {outer : List Frame} {x : Tree} → Outer o outer → u ≡ o ++ i → Selection i x → Paths (m.close_next outer x) (After u)
close_moves Outer.none e y = tt
close_moves {u = u} {i = i} (Outer.open_one {u = o} {v = l} {w = n} outer left negation p) e y = (
  (λ q. record {
    outside = o;
    inside = l ++ (n ++ (at p S.OpenParenthesis ∷ i ++ at q S.CloseParenthesis ∷ []) ++ []);
    spelled = ap (λ z. z ++ at q S.CloseParenthesis ∷ []) e ∙ closed o l n i (at p S.OpenParenthesis) (at q S.CloseParenthesis ∷ []);
    outer = outer;
    within = Within.operand left (Under.given_options (Base.base negation (g.Operand.parentheses p y q) g.Options.none));
  }),
  tt,
)
  where
    closed : (o l n i : List Placed) (p : Placed) (q : List Placed) → o ++ l ++ n ++ p ∷ [] ++ i ++ q ≡ o ++ (l ++ (n ++ (p ∷ i ++ q) ++ []))
    closed o l n i p q = simp (append_assoc, append-nil)

-- after a whole operand
pub joint_moves : {u w : List Placed} {outer : List Frame} {left : Left} {x : Tree} → In u outer left w → Unary w x → Paths (m.joint_next outer left x) (After u)
joint_moves {u = u} {w = w} {outer = outer} a x = (
  (λ p. began (name p (codes "ftor") ∷ []) (left_or a.lefts x p)),
  (
    (λ p. began (name p (codes "ftand") ∷ []) (left_and a.lefts x p)),
    (
      (λ p. ((λ q. began (name p (codes "not") ∷ name q (codes "in") ∷ []) (left_mild a.lefts x p q)), tt)),
      close_moves a.opened a.spelled (left_selection a.lefts x),
    ),
  ),
)
  where
    began : {left : Left} (v : List Placed) → Lefts (a.before ++ w ++ v) left → Stands (u ++ v) (record { outer = outer; left = left; stage = m.wanted None })
    began v l = record { outside = a.outside; inside = a.before ++ w ++ v ++ []; spelled = ap (λ z. z ++ v) a.spelled ∙ append_assoc a.outside (a.before ++ w) v ∙ ap (λ z. a.outside ++ z) (sym (append-nil (a.before ++ w ++ v))); outer = a.opened; within = Within.operand l (Under.wanted g.Negation.none) }

pub terms_same : {u w : List Placed} {ts : List StopTerm} → Terms u ts → u ≡ w → Terms w ts
terms_same {ts = ts} x e = subst (λ z. Terms z ts) e x

-- a term of a stop word option
pub terms_with : {u v : List Placed} {ts : List StopTerm} {except : Bool} {x : StopSource} → TermsBefore u ts except → Source v x → Terms (u ++ v) (ts ++ record { except = except; source = x } ∷ [])
terms_with TermsBefore.none x = g.Terms.first x
terms_with {v = v} (TermsBefore.some {u = u} ts p except) x = terms_same (g.Terms.further ts p except x) (sym (append_assoc u (name p (joint except) ∷ []) v))

pub term_moves : {u w v : List Placed} {outer : List Frame} {left : Left} {n : Option ℕ} {x : Primary} {os : List PlacedOption} {ts : List StopTerm} {except : Bool} (p q r : Spot) → In u outer left (w ++ using_stop p q r v) → Base w n x os → TermsBefore v ts except
    → Paths (m.term_next outer left n x os p.0 ts except) (After u)
term_moves {w = w} {v = v} p q r a b before = (
  (λ i. ((λ j s. leads a (name i (codes "at") ∷ string j s ∷ []) _ (Under.stop_terms b p q r (terms_with before (g.Source.list i j s))) (sym (append_assoc w (using_stop p q r v) (name i (codes "at") ∷ string j s ∷ [])))), tt)),
  ((λ i. ((λ j s. leads a (at i S.OpenParenthesis ∷ string j s ∷ []) _ (Under.stop_strings b p q r before i (g.Strings.first j s)) (sym (append_assoc w (using_stop p q r v) (at i S.OpenParenthesis ∷ string j s ∷ [])))), tt)), tt),
)
