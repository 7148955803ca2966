-- Whatever the machine has read is spelled by the grammar.
use Rattle.std.proofs.Common.{◌≡◌, ℕ, Bool, true, false, List, [], ◌∷◌, ◌++◌, Option, Some, None, refl, sym, ◌∙◌, ap, subst, append_assoc}
use Rattle.std.proofs.lemmas.List.{append-nil}
use Rattle.std.specs.Prelude.{codes}
use Rattle.ft_base.specs.declared.words.Mode.TheVariants as M
use Rattle.selection_grammar.specs.declared.symbol.Symbol.TheVariants as S
use Rattle.selection_grammar.specs.declared.symbol.Placed.{Placed}
use Rattle.selection_grammar.specs.declared.parsed.PlacedString.{PlacedString}
use Rattle.selection_grammar.specs.Shapes as shapes
use Rattle.selection_grammar.specs.Shapes.{Shape, whole, nothing, word, number, text, mark, step, run}
use Rattle.ft_base.specs.declared.options.StopTerm.{StopTerm}
use Rattle.selection_grammar.specs.declared.parsed.PlacedOption.{PlacedOption}
use Rattle.selection_grammar.specs.Tree.{Tree, Primary}
use Rattle.selection_grammar.specs.Grammar as g
use Rattle.selection_grammar.specs.Grammar.{Spot, at, name, string, Strings, Negation, Selection}
use Rattle.selection_grammar.specs.steps.Machine as m
use Rattle.selection_grammar.specs.steps.Machine.{Left, nothing_left_of, Frame, Stage, State, next, next_at, advance, run_on, read, start, finished, finished_at, finished_in, selection_at, stop_option, thesaurus_option, thesaurus_use}
use Rattle.selection_grammar.proofs.Paths.{Paths, along, run-append, paths_map}
use Rattle.selection_grammar.proofs.Standing as st
use Rattle.selection_grammar.proofs.Standing.{Lefts, Base, TermsBefore, UsesBefore, using_stop, using_thesaurus, Under, Within, Outer, Stands, left_selection, nothing_left, base_unary, base_option, selection_same}
use Rattle.selection_grammar.proofs.Moves.{In, grown, in_same, leads, After, stands_same, filter_leads_on, close_moves, term_moves, terms_with}
use Rattle.selection_grammar.proofs.OptionMoves.{base_words, options_moves, moded_moves, thesaurus_moves, thesaurus_in_moves, thesauri_moves, filters_then}

-- where an operand is wanted
operand_moves : {u w : List Placed} {outer : List Frame} {left : Left} {n : Option ℕ} → In u outer left w → Negation w n → Paths (m.operand_next outer left n) (After u)
operand_moves {u = u} {w = w} {outer = outer} {left = left} {n = n} a x = (
  (λ p s. leads a (string p s ∷ []) _ (Under.valued x (g.Value.one p s)) refl),
  (
    (λ p. ((λ q s. leads a (at p S.OpenBrace ∷ string q s ∷ []) _ (Under.in_braces x p (g.Strings.first q s)) refl), tt)),
    (
      (λ p. record {
        outside = a.outside ++ a.before ++ w ++ at p S.OpenParenthesis ∷ [];
        inside = [];
        spelled = ap (λ z. z ++ at p S.OpenParenthesis ∷ []) a.spelled ∙ flat a.outside a.before w (at p S.OpenParenthesis ∷ []);
        outer = Outer.open_one a.opened a.lefts x p;
        within = Within.operand nothing_left (Under.wanted g.Negation.none);
      }),
      tt,
    ),
  ),
)
  where
    flat : (o l w p : List Placed) → o ++ (l ++ w) ++ p ≡ o ++ l ++ w ++ p ++ []
    flat o l w p = simp (append_assoc, append-nil)

no_negation : {w : List Placed} → Negation w None → w ≡ []
no_negation g.Negation.none = refl

wanted_moves : {u w : List Placed} {outer : List Frame} {left : Left} (n : Option ℕ) → In u outer left w → Negation w n → Paths (m.wanted_next outer left n) (After u)
wanted_moves None a x = ((λ p. leads a (name p (codes "ftnot") ∷ []) _ (Under.wanted (g.Negation.some p)) (ap (λ z. z ++ name p (codes "ftnot") ∷ []) (sym (no_negation x)))), operand_moves a x)
wanted_moves (Some i) a x = operand_moves a x

-- a further term of a stop word option
further_term : {u w v : List Placed} {outer : List Frame} {left : Left} {n : Option ℕ} {x : Primary} {os : List PlacedOption} {ts : List StopTerm} (p q r j : Spot) (except : Bool) → In u outer left (w ++ using_stop p q r v) → Base w n x os → g.Terms v ts
    → Paths (m.term_next outer left n x os p.0 ts except) (λ z s. After u (name j (g.joint except) ∷ z) s)
further_term {u = u} {w = w} {v = v} {outer = outer} {left = left} {n = n} {x = x} {os = os} {ts = ts} p q r j except a b terms =
    paths_map (m.term_next outer left n x os p.0 ts except) (After (u ++ name j (g.joint except) ∷ [])) (λ z s. After u (name j (g.joint except) ∷ z) s) (λ z s h. stands_same h (append_assoc u (name j (g.joint except) ∷ []) z))
    (term_moves p q r (in_same (grown a (name j (g.joint except) ∷ [])) (append_assoc w (using_stop p q r v) (name j (g.joint except) ∷ []))) b (TermsBefore.some terms j except))

-- wherever the operand under way stands
pub under_moves : {u w : List Placed} {outer : List Frame} {left : Left} {stage : Stage} → In u outer left w → Under w stage → Paths (next_at outer left stage) (After u)
under_moves a (Under.wanted {n = n} x) = wanted_moves n a x
under_moves a (Under.in_braces {u = i} {v = v} x p xs) = (
  (λ q. ((λ r s. leads a (at q S.Comma ∷ string r s ∷ []) _ (Under.in_braces x p (g.Strings.further xs q r s)) (sym (append_assoc i (at p S.OpenBrace ∷ v) (at q S.Comma ∷ string r s ∷ [])))), tt)),
  ((λ q. leads a (at q S.CloseBrace ∷ []) _ (Under.valued x (g.Value.several p xs q)) (sym (append_assoc i (at p S.OpenBrace ∷ v) (at q S.CloseBrace ∷ [])))), tt),
)
under_moves a (Under.valued {u = i} {v = v} x xs) = (
  (λ p. leads a (name p (codes "any") ∷ []) _ (Under.any_of x xs p) refl),
  (
    (λ p. leads a (name p (codes "all") ∷ []) _ (Under.all_of x xs p) refl),
    (
      (λ p. leads a (name p (codes "phrase") ∷ []) _ (Under.moded x xs (g.Moded.phrase p)) refl),
      moded_moves (in_same a (sym (append-nil (i ++ v)))) x xs g.Moded.unwritten,
    ),
  ),
)
under_moves a (Under.any_of {u = i} {v = v} x xs p) = (
  (λ q. leads a (name q (codes "word") ∷ []) _ (Under.moded x xs (g.Moded.any_word p q)) (sym (append_assoc (i ++ v) (name p (codes "any") ∷ []) (name q (codes "word") ∷ [])))),
  moded_moves a x xs (g.Moded.any p),
)
under_moves a (Under.all_of {u = i} {v = v} x xs p) = (
  (λ q. leads a (name q (codes "words") ∷ []) _ (Under.moded x xs (g.Moded.all_words p q)) (sym (append_assoc (i ++ v) (name p (codes "all") ∷ []) (name q (codes "words") ∷ [])))),
  moded_moves a x xs (g.Moded.all p),
)
under_moves a (Under.moded x xs y) = moded_moves a x xs y
under_moves a (Under.given_options b) = options_moves a b
under_moves a (Under.stop_terms b p q r ts) = ((λ j. further_term p q r j false a b ts), ((λ j. further_term p q r j true a b ts), options_moves a (base_option b (g.Given.stop_words p q r ts))))
under_moves a (Under.stop_strings {u = i} {v = v} {w = w} b p q r ts t xs) = (
  (λ j. ((λ k s. leads a (at j S.Comma ∷ string k s ∷ []) _ (Under.stop_strings b p q r ts t (g.Strings.further xs j k s)) (flat i v w p q r t (at j S.Comma ∷ string k s ∷ []))), tt)),
  ((λ j. leads a (at j S.CloseParenthesis ∷ []) _ (Under.stop_terms b p q r (terms_with ts (g.Source.written t xs j))) (flat i v w p q r t (at j S.CloseParenthesis ∷ []))), tt),
)
  where
    flat : (i v w : List Placed) (p q r t : Spot) (z : List Placed) → i ++ using_stop p q r (v ++ at t S.OpenParenthesis ∷ (w ++ z)) ≡ i ++ using_stop p q r (v ++ at t S.OpenParenthesis ∷ w) ++ z
    flat i v w p q r t z = ap (λ y. i ++ using_stop p q r y) (sym (append_assoc v (at t S.OpenParenthesis ∷ w) z)) ∙ sym (append_assoc i (using_stop p q r (v ++ at t S.OpenParenthesis ∷ w)) z)
under_moves a (Under.thesaurus {r = r} b p q named) = thesaurus_moves r p q a b named
under_moves a (Under.thesaurus_in {r = r} b p q t before named) = thesaurus_in_moves r p q t a b before named
under_moves a (Under.thesauri_in b p q t us) = thesauri_moves p q t a b us

moves : {u : List Placed} (s : State) → Stands u s → Paths (next s) (After u)
unfolding next
moves {u = u} s x = within_moves x.within x.outer x.spelled
  where
    within_moves : {i o : List Placed} {outer : List Frame} {left : Left} {stage : Stage} → Within i left stage → Outer o outer → u ≡ o ++ i → Paths (next_at outer left stage) (After u)
    within_moves {o = o} (Within.operand {u = l} {v = w} before under) outer e = under_moves (record { outside = o; before = l; spelled = e; opened = outer; lefts = before }) under
    within_moves {outer = outer} (Within.filtered {x = y} selection) opened e = filters_then (m.filtered_state outer y) (m.close_next outer y) (After u) (λ v f h. filter_leads_on opened e selection h) (close_moves opened e selection)

-- symbols up to a place between two constructs, and those of a construct under way
pub record Partly (u : List Placed) (t : Shape State) : Type 0 where
  pub state : State
  pub prefix : List Placed
  pub part : List Placed
  pub spelled : u ≡ prefix ++ part
  pub stands : Stands prefix state
  pub runs : run (Some (next state)) part ≡ Some t

-- where the machine is after symbols
abbrev pub Stood : List Placed → Shape State → Type 0
Stood u (whole s) = Stands u s
Stood u nothing = Partly u nothing
Stood u (word key to rest) = Partly u (word key to rest)
Stood u (number to rest) = Partly u (number to rest)
Stood u (text to rest) = Partly u (text to rest)
Stood u (mark m to rest) = Partly u (mark m to rest)

settled : {u : List Placed} (t : Shape State) → Partly u t → Stood u t
settled (whole s) x = stands_same (along (next x.state) (After x.prefix) (moves x.state x.stands) x.part s x.runs) (sym x.spelled)
settled nothing x = x
settled (word key to rest) x = x
settled (number to rest) x = x
settled (text to rest) x = x
settled (mark m to rest) x = x

run_on-nil : {A : Type 0} (o : Option (Shape A)) → run o [] ≡ o
run_on-nil None = refl
run_on-nil (Some t) = refl

further : {u : List Placed} {t r : Shape State} (p : Placed) → Partly u t → step t p ≡ Some r → Stood (u ++ p ∷ []) r
further {t = t} {r = r} p x e = settled r (record {
  state = x.state;
  prefix = x.prefix;
  part = x.part ++ p ∷ [];
  spelled = ap (λ z. z ++ p ∷ []) x.spelled ∙ append_assoc x.prefix x.part (p ∷ []);
  stands = x.stands;
  runs = run-append (Some (next x.state)) x.part (p ∷ []) ∙ ap (λ o. run o (p ∷ [])) x.runs ∙ run_on-nil (step t p) ∙ e;
})

stood_further : (u : List Placed) (t r : Shape State) (p : Placed) → Stood u t → advance t p ≡ Some r → Stood (u ++ p ∷ []) r
stood_further u (whole s) r p x e = settled r (record { state = s; prefix = u; part = p ∷ []; spelled = refl; stands = x; runs = run_on-nil (step (next s) p) ∙ e })
stood_further u nothing r p x e = cc
stood_further u (word key to rest) r p x e = further p x e
stood_further u (number to rest) r p x e = further p x e
stood_further u (text to rest) r p x e = further p x e
stood_further u (mark m to rest) r p x e = further p x e

stood_by : (u v : List Placed) (p : Placed) (r : Shape State) (o : Option (Shape State)) → ((y : Shape State) → o ≡ Some y → run_on (Some y) v ≡ Some r → Stood ((u ++ p ∷ []) ++ v) r) → run_on o v ≡ Some r → Stood (u ++ p ∷ v) r
stood_by u v p r None go e = cc
stood_by u v p r (Some y) go e = subst (λ z. Stood z r) (append_assoc u (p ∷ []) v) (go y refl e)

stood_on : (u v : List Placed) (t r : Shape State) → Stood u t → run_on (Some t) v ≡ Some r → Stood (u ++ v) r
stood_on u [] t r x e = let same : t ≡ r = cc in subst (λ z. Stood z r) (sym (append-nil u)) (subst (λ z. Stood u z) same x)
stood_on u (p ∷ v) t r x e = stood_by u v p r (advance t p) (λ y k h. stood_on (u ++ p ∷ []) v y r (stood_further u t y p x k) h) e

pub stood : (u : List Placed) (t : Shape State) → read u ≡ Some t → Stood u t
stood u t e = stood_on [] u (whole start) t (record { outside = []; inside = []; spelled = refl; outer = Outer.none; within = Within.operand nothing_left (Under.wanted Negation.none) }) e
