-- The same for values, options and filters.
use Rattle.std.proofs.Common.{◌≡◌, ℕ, Bool, true, false, List, [], ◌∷◌, ◌++◌, Option, Some, None, refl, sym, ◌∙◌, ap, subst, append_assoc}
use Rattle.std.proofs.lemmas.List.{append-nil}
use Rattle.std.specs.Prelude.{codes}
use Rattle.ft_base.specs.declared.filter.Filter.{Filter}
use Rattle.ft_base.specs.declared.range.Range.{Range}
use Rattle.ft_base.specs.declared.words.Mode.{Mode}
use Rattle.ft_base.specs.declared.words.Mode.TheVariants as M
use Rattle.ft_base.specs.declared.options.StopTerm.{StopTerm}
use Rattle.ft_base.specs.declared.options.ThesaurusUse.{ThesaurusUse}
use Rattle.selection_grammar.specs.declared.symbol.Symbol.TheVariants as S
use Rattle.selection_grammar.specs.declared.symbol.Placed.{Placed}
use Rattle.selection_grammar.specs.declared.parsed.PlacedString.{PlacedString}
use Rattle.selection_grammar.specs.declared.parsed.PlacedOption.{PlacedOption}
use Rattle.selection_grammar.specs.declared.parsed.PlacedTimes.{PlacedTimes}
use Rattle.selection_grammar.specs.Shapes.{Shape, whole, Spelled, or_else, and_then}
use Rattle.selection_grammar.specs.Keywords.{filters, filters_without_at, times, levels, plain_option, range_without_at}
use Rattle.selection_grammar.specs.Tree.{Tree, Primary, phrases, inner}
use Rattle.selection_grammar.specs.Grammar as g
use Rattle.selection_grammar.specs.Grammar.{Spot, at, name, string, joint, Strings, Value, Moded, Timed, Named, Thesaurus, Thesauri, Source, Terms, Given, Options, Negation, Operand, Unary, Selection}
use Rattle.selection_grammar.specs.steps.Machine as m
use Rattle.selection_grammar.specs.steps.Machine.{Left, nothing_left_of, Frame, Stage, State, next, selection_with, operand_of, filtered_state, thesaurus_option, thesaurus_use, stop_option}
use Rattle.selection_grammar.proofs.Paths.{Paths, paths_or_else, paths_then, paths_map}
use Rattle.selection_grammar.proofs.Parts.{filters_each, other_filters_each, times_each, plain_option_each}
use Rattle.selection_grammar.proofs.Standing as st
use Rattle.selection_grammar.proofs.Standing.{Lefts, Base, TermsBefore, UsesBefore, using_stop, using_thesaurus, Under, Within, Outer, Stands, base_same, left_selection, nothing_left, base_unary, base_option}
use Rattle.selection_grammar.proofs.Moves.{In, grown, in_same, stands_in, stands_same, under_same, leads, After, filter_leads, filter_leads_on, close_moves, joint_moves, term_moves, terms_with}

pub filters_then : (k : Filter → State) (rest : Shape State) (P : List Placed → State → Type 0) → ((v : List Placed) (x : Filter) → Spelled filters v x → P (v ++ []) (k x)) → Paths rest P → Paths (or_else (and_then filters (λ x. whole (k x))) rest) P
filters_then k rest P h = paths_or_else (and_then filters (λ x. whole (k x))) rest P (paths_then filters (λ x. whole (k x)) P (filters_each (λ v x. P (v ++ []) (k x)) h))

other_filters_then : (k : Filter → State) (rest : Shape State) (P : List Placed → State → Type 0) → ((v : List Placed) (x : Filter) → Spelled filters v x → P (v ++ []) (k x)) → Paths rest P → Paths (or_else (and_then filters_without_at (λ x. whole (k x))) rest) P
other_filters_then k rest P h = paths_or_else (and_then filters_without_at (λ x. whole (k x))) rest P (paths_then filters_without_at (λ x. whole (k x)) P (other_filters_each (λ v x. P (v ++ []) (k x)) h))

times_then : (k : PlacedTimes → State) (rest : Shape State) (P : List Placed → State → Type 0) → ((v : List Placed) (x : PlacedTimes) → Spelled times v x → P (v ++ []) (k x)) → Paths rest P → Paths (or_else (and_then times (λ x. whole (k x))) rest) P
times_then k rest P h = paths_or_else (and_then times (λ x. whole (k x))) rest P (paths_then times (λ x. whole (k x)) P (times_each (λ v x. P (v ++ []) (k x)) h))

options_then : (at : ℕ) (k : PlacedOption → State) (P : List Placed → State → Type 0) → ((v : List Placed) (x : PlacedOption) → Spelled (plain_option at) v x → P (v ++ []) (k x)) → Paths (and_then (plain_option at) (λ x. whole (k x))) P
options_then at k P h = paths_then (plain_option at) (λ x. whole (k x)) P (plain_option_each at (λ v x. P (v ++ []) (k x)) h)

-- an option
pub option_leads : {u w v : List Placed} {outer : List Frame} {left : Left} {n : Option ℕ} {x : Primary} {os : List PlacedOption} {o : PlacedOption} → In u outer left w → Base w n x os → Given v o → Stands (u ++ v) (record { outer = outer; left = left; stage = m.given_options n x (os ++ o ∷ []) })
option_leads {w = w} {v = v} a b o = leads a v (w ++ v) (Under.given_options (base_option b o)) refl

using_moves : {u w : List Placed} {outer : List Frame} {left : Left} {n : Option ℕ} {x : Primary} {os : List PlacedOption} → In u outer left w → Base w n x os → (p : Spot) → Paths (m.using_next outer left n x os p.0) (λ v s. Stands (u ++ name p (codes "using") ∷ v) s)
using_moves {u = u} {w = w} {outer = outer} {left = left} {n = n} {x = x} {os = os} a b p =
    paths_or_else (m.listed_next outer left n x os p.0) (and_then (plain_option p.0) (λ o. whole (record { outer = outer; left = left; stage = m.given_options n x (os ++ o ∷ []) }))) (λ v s. Stands (u ++ name p (codes "using") ∷ v) s) (
      (λ q. (
        (λ r. ((λ t s. leads a (using_thesaurus p q (name r (codes "at") ∷ string t s ∷ [])) _ (Under.thesaurus b p q (g.Named.plain r t s)) refl), tt)),
        ((λ r. ((λ t. ((λ i s. leads a (using_thesaurus p q (at r S.OpenParenthesis ∷ name t (codes "at") ∷ string i s ∷ [])) _ (Under.thesaurus_in b p q r UsesBefore.none (g.Named.plain t i s)) refl), tt)), tt)), tt),
      )),
      ((λ q. ((λ r. paths_map (m.term_next outer left n x os p.0 [] false) (After (u ++ using_stop p q r [])) (λ v s. Stands (u ++ using_stop p q r v) s) (λ v s h. stands_same h (append_assoc u (using_stop p q r []) v)) (term_moves p q r (grown a (using_stop p q r [])) b TermsBefore.none)), tt)), tt),
    )
    (options_then p.0 (λ o. record { outer = outer; left = left; stage = m.given_options n x (os ++ o ∷ []) }) (λ v s. Stands (u ++ name p (codes "using") ∷ v) s)
    (λ v o h. stands_same (option_leads a b (g.Given.plain p h)) (ap (λ z. u ++ name p (codes "using") ∷ z) (sym (append-nil v)))))

pub unfiltered_moves : {u w : List Placed} {outer : List Frame} {left : Left} {n : Option ℕ} {x : Primary} {os : List PlacedOption} → In u outer left w → Base w n x os → Paths (m.unfiltered_next outer left n x os) (After u)
unfiltered_moves a b = ((λ p. using_moves a b p), joint_moves a (base_unary b))

pub options_moves : {u w : List Placed} {outer : List Frame} {left : Left} {n : Option ℕ} {x : Primary} {os : List PlacedOption} → In u outer left w → Base w n x os → Paths (m.options_next outer left n x os) (After u)
options_moves {u = u} {outer = outer} {left = left} {n = n} {x = x} {os = os} a b = filters_then (filtered_state outer (selection_with left (operand_of n x os))) (m.unfiltered_next outer left n x os) (After u) (λ v f h. filter_leads_on a.opened a.spelled (left_selection a.lefts (base_unary b)) h) (unfiltered_moves a b)

-- a value
pub base_words : {u v w : List Placed} {n : Option ℕ} {xs : List PlacedString} {mode : Mode} → Negation u n → Value v xs → Moded w mode → Base (u ++ v ++ w) n (phrases xs mode None) []
base_words {u = u} {v = v} {w = w} n x y = base_same (Base.base n (g.Operand.words x y g.Timed.always) g.Options.none) (flat u v w)
  where
    flat : (u v w : List Placed) → u ++ (v ++ w ++ []) ++ [] ≡ u ++ v ++ w
    flat u v w = simp (append_assoc, append-nil)

base_timed : {u v w z : List Placed} {n : Option ℕ} {xs : List PlacedString} {mode : Mode} {t : PlacedTimes} → Negation u n → Value v xs → Moded w mode → Spelled times z t → Base (u ++ v ++ w ++ z) n (phrases xs mode (Some t)) []
base_timed {u = u} {v = v} {w = w} {z = z} n x y t = base_same (Base.base n (g.Operand.words x y (g.Timed.some t)) g.Options.none) (flat u v w z)
  where
    flat : (u v w z : List Placed) → u ++ (v ++ w ++ z) ++ [] ≡ u ++ v ++ w ++ z
    flat u v w z = simp (append_assoc, append-nil)

pub moded_moves : {u n0 v w : List Placed} {outer : List Frame} {left : Left} {n : Option ℕ} {xs : List PlacedString} {mode : Mode} → In u outer left (n0 ++ v ++ w) → Negation n0 n → Value v xs → Moded w mode → Paths (m.moded_next outer left n xs mode) (After u)
moded_moves {u = u} {n0 = n0} {v = v} {w = w} {outer = outer} {left = left} {n = i} {xs = xs} {mode = mode} a n x y = times_then (λ t. record { outer = outer; left = left; stage = m.given_options i (phrases xs mode (Some t)) [] }) (m.options_next outer left i (phrases xs mode None) []) (After u)
    (λ z t h. stands_same (leads a z (n0 ++ v ++ w ++ z) (Under.given_options (base_timed n x y h)) refl) (ap (λ q. u ++ q) (sym (append-nil z))))
    (options_moves a (base_words n x y))

-- after a thesaurus
pub related : {u : List Placed} {s : List ℕ} → Named u s None → (p q : Spot) (r : List ℕ) → Named (u ++ name p (codes "relationship") ∷ string q r ∷ []) s (Some r)
related (g.Named.plain i j s) p q r = g.Named.related i j p q s r

pub thesaurus_moves : {u w v : List Placed} {outer : List Frame} {left : Left} {n : Option ℕ} {x : Primary} {os : List PlacedOption} {s : List ℕ} (r : Option (List ℕ)) (p q : Spot) → In u outer left (w ++ using_thesaurus p q v) → Base w n x os → Named v s r
    → Paths (m.thesaurus_next outer left n x os p.0 s r) (After u)
thesaurus_moves {u = u} {w = w} {v = v} {outer = outer} {left = left} {n = n} {x = x} {os = os} {s = s} r p q a b named = with_relationship r named rest
  where
    levels_lead : {z : List Placed} {l : Range} → Spelled levels z l → Stands (u ++ z) (record { outer = outer; left = left; stage = m.given_options n x (os ++ thesaurus_option p.0 (thesaurus_use s r (Some l) ∷ []) ∷ []) })
    levels_lead {z = z} h = leads a z (w ++ using_thesaurus p q (v ++ z)) (Under.given_options (base_option b (g.Given.thesaurus p q (g.Thesaurus.some_levels named h)))) (sym (append_assoc w (using_thesaurus p q v) z))

    ended : Base (w ++ using_thesaurus p q v) n x (os ++ thesaurus_option p.0 (thesaurus_use s r None ∷ []) ∷ [])
    ended = base_option b (g.Given.thesaurus p q (g.Thesaurus.all_levels named))

    filter_next : {z : List Placed} {f : Filter} → Spelled filters z f → Stands (u ++ z) (filtered_state outer (selection_with left (operand_of n x (os ++ thesaurus_option p.0 (thesaurus_use s r None ∷ []) ∷ []))) f)
    filter_next h = filter_leads a.opened a.spelled (left_selection a.lefts (base_unary ended)) h

    rest : Paths (m.thesaurus_rest outer left n x os p.0 s r) (After u)
    rest = (
      (λ i. ((λ j. ((λ k n. ((λ m. levels_lead (record { runs = refl })), tt)), tt)), ((λ j. ((λ k n. ((λ m. levels_lead (record { runs = refl })), tt)), tt)), ((λ j. filter_next (record { runs = refl })), ((λ j. filter_next (record { runs = refl })), tt))))),
      (
        (λ i. ((λ k n. ((λ m. levels_lead (record { runs = refl })), tt)), tt)),
        (
          (λ i. ((λ j low. ((λ k. ((λ h high. ((λ m. levels_lead (record { runs = refl })), tt)), tt)), tt)), tt)),
          other_filters_then (filtered_state outer (selection_with left (operand_of n x (os ++ thesaurus_option p.0 (thesaurus_use s r None ∷ []) ∷ [])))) (m.unfiltered_next outer left n x (os ++ thesaurus_option p.0 (thesaurus_use s r None ∷ []) ∷ [])) (After u)
              (λ z f h. stands_same (filter_next h) (ap (λ y. u ++ y) (sym (append-nil z)))) (unfiltered_moves a ended),
        ),
      ),
    )

    with_relationship : (o : Option (List ℕ)) → Named v s o → Paths (m.thesaurus_rest outer left n x os p.0 s r) (After u)
        → Paths (m.relationship_next (λ t. record { outer = outer; left = left; stage = m.thesaurus n x os p.0 s (Some t) }) o (m.thesaurus_rest outer left n x os p.0 s r)) (After u)
    with_relationship None named rest = ((λ i. ((λ j t. leads a (name i (codes "relationship") ∷ string j t ∷ []) _ (Under.thesaurus b p q (related named i j t)) (sym (append_assoc w (using_thesaurus p q v) (name i (codes "relationship") ∷ string j t ∷ [])))), tt)), rest)
    with_relationship (Some t) named rest = rest

-- in parentheses
thesauri_same : {u w : List Placed} {us : List ThesaurusUse} → Thesauri u us → u ≡ w → Thesauri w us
thesauri_same {us = us} x e = subst (λ z. Thesauri z us) e x

uses_with : {u v : List Placed} {us : List ThesaurusUse} {x : ThesaurusUse} → UsesBefore u us → Thesaurus v x → Thesauri (u ++ v) (us ++ x ∷ [])
uses_with UsesBefore.none x = g.Thesauri.first x
uses_with {v = v} (UsesBefore.some {u = u} us p) x = thesauri_same (g.Thesauri.further us p x) (sym (append_assoc u (at p S.Comma ∷ []) v))

pub thesauri_moves : {u w v : List Placed} {outer : List Frame} {left : Left} {n : Option ℕ} {x : Primary} {os : List PlacedOption} {us : List ThesaurusUse} (p q t : Spot) → In u outer left (w ++ using_thesaurus p q (at t S.OpenParenthesis ∷ v)) → Base w n x os → Thesauri v us
    → Paths (m.thesauri_next outer left n x os p.0 us) (After u)
thesauri_moves {u = u} {w = w} {v = v} {outer = outer} {left = left} p q t a b us = (
  (λ i. ((λ j. ((λ k s. leads a (at i S.Comma ∷ name j (codes "at") ∷ string k s ∷ []) _ (Under.thesaurus_in b p q t (UsesBefore.some us i) (g.Named.plain j k s)) (closer i (name j (codes "at") ∷ string k s ∷ []))), tt)), tt)),
  ((λ i. leads a (at i S.CloseParenthesis ∷ []) _ (Under.given_options (base_option b (g.Given.thesauri p q t us i))) (sym (append_assoc w (using_thesaurus p q (at t S.OpenParenthesis ∷ v)) (at i S.CloseParenthesis ∷ [])))), tt),
)
  where
    closer : (i : Spot) (z : List Placed) → w ++ using_thesaurus p q (at t S.OpenParenthesis ∷ (v ++ at i S.Comma ∷ []) ++ z) ≡ w ++ using_thesaurus p q (at t S.OpenParenthesis ∷ v) ++ at i S.Comma ∷ z
    closer i z = ap (λ y. w ++ using_thesaurus p q (at t S.OpenParenthesis ∷ y)) (append_assoc v (at i S.Comma ∷ []) z) ∙ sym (append_assoc w (using_thesaurus p q (at t S.OpenParenthesis ∷ v)) (at i S.Comma ∷ z))

pub thesaurus_in_moves : {u w v y : List Placed} {outer : List Frame} {left : Left} {n : Option ℕ} {x : Primary} {os : List PlacedOption} {us : List ThesaurusUse} {s : List ℕ} (r : Option (List ℕ)) (p q t : Spot)
    → In u outer left (w ++ using_thesaurus p q (at t S.OpenParenthesis ∷ v ++ y)) → Base w n x os → UsesBefore v us → Named y s r → Paths (m.thesaurus_in_next outer left n x os p.0 us s r) (After u)
thesaurus_in_moves {u = u} {w = w} {v = v} {y = y} {outer = outer} {left = left} {n = n} {x = x} {os = os} {us = us} {s = s} r p q t a b before named = with_relationship r named rest
  where
    flat : (z : List Placed) → w ++ using_thesaurus p q (at t S.OpenParenthesis ∷ v ++ (y ++ z)) ≡ w ++ using_thesaurus p q (at t S.OpenParenthesis ∷ v ++ y) ++ z
    flat z = ap (λ i. w ++ using_thesaurus p q (at t S.OpenParenthesis ∷ i)) (sym (append_assoc v y z)) ∙ sym (append_assoc w (using_thesaurus p q (at t S.OpenParenthesis ∷ v ++ y)) z)

    levels_lead : {z : List Placed} {l : Range} → Spelled levels z l → Stands (u ++ z) (record { outer = outer; left = left; stage = m.thesauri_in n x os p.0 (us ++ thesaurus_use s r (Some l) ∷ []) })
    levels_lead {z = z} h = leads a z _ (Under.thesauri_in b p q t (uses_with before (g.Thesaurus.some_levels named h))) (flat z)

    rest : Paths (m.thesaurus_in_rest outer left n x os p.0 us s r) (After u)
    rest = (
      (λ i. ((λ k n. ((λ m. levels_lead (record { runs = refl })), tt)), tt)),
      (
        (λ i. ((λ j low. ((λ k. ((λ h high. ((λ m. levels_lead (record { runs = refl })), tt)), tt)), tt)), tt)),
        (
          (λ i. ((λ j. ((λ k n. ((λ m. levels_lead (record { runs = refl })), tt)), tt)), ((λ j. ((λ k n. ((λ m. levels_lead (record { runs = refl })), tt)), tt)), tt))),
          thesauri_moves p q t a b (uses_with before (g.Thesaurus.all_levels named)),
        ),
      ),
    )

    with_relationship : (o : Option (List ℕ)) → Named y s o → Paths (m.thesaurus_in_rest outer left n x os p.0 us s r) (After u)
        → Paths (m.relationship_next (λ l. record { outer = outer; left = left; stage = m.thesaurus_in n x os p.0 us s (Some l) }) o (m.thesaurus_in_rest outer left n x os p.0 us s r)) (After u)
    with_relationship None named rest = ((λ i. ((λ j l. leads a (name i (codes "relationship") ∷ string j l ∷ []) _ (Under.thesaurus_in b p q t before (related named i j l)) (flat (name i (codes "relationship") ∷ string j l ∷ []))), tt)), rest)
    with_relationship (Some l) named rest = rest
