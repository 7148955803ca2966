-- A selection that was read fits.
use Rattle.std.proofs.Common.{◌+◌, ℕ, List, [], ◌∷◌, ◌++◌, Option, Some, None, option_map, arith}
use Rattle.std.specs.Prelude.{codes}
use Rattle.ft_base.specs.declared.filter.Filter.{Filter}
use Rattle.selection_grammar.specs.Form.{form_of, forms_of, options_of}
use Rattle.selection_grammar.specs.declared.symbol.Placed.{Placed}
use Rattle.selection_grammar.specs.declared.parsed.PlacedOption.{PlacedOption}
use Rattle.selection_grammar.specs.declared.parsed.PlacedTimes.{PlacedTimes}
use Rattle.selection_grammar.specs.Grammar.{name, texts_of, Operand, Unary, Mild, Ands, Ors, Selection}
use Rattle.selection_grammar.specs.Tree as tree
use Rattle.selection_grammar.specs.Tree.{Tree, trees_of, joined, Primary, phrases, inner, optioned, negated}
use Rattle.selection_round_trip.proofs.Fits.{Room, FitTimes, FitFilter, FitTexts, FitOptions, Fit, FitAll, FitAt, fit_closed, fit_plain, fit_weaker}
use Rattle.selection_round_trip.proofs.Known.{Kept, kept_both, kept_name, kept_closed, kept_as}
use Rattle.selection_round_trip.proofs.KnownParts.{value_kept, moded_kept, timed_kept, negation_kept, options_kept, filter_kept}

abbrev FitPrimary : Primary → ℕ → Type 0
FitPrimary (phrases strings mode times) d = FitTexts (texts_of strings) × FitTimes (option_map (λ (x : PlacedTimes). x.range) times)
FitPrimary (inner t) d = Room d × Fit (form_of t) (d + 1)

-- with its options, in the places of `ftnot` and of `not in`
optioned_fits : (x : Primary) (os : List PlacedOption) (d : ℕ) → FitPrimary x d → FitOptions (options_of os) d → FitAt 5 (form_of (optioned x os)) d × FitAt 4 (form_of (optioned x os)) d
unfolding form_of Fit
optioned_fits (phrases strings mode times) os d h k = ((h.0, h.1, k), (h.0, h.1, k))
optioned_fits (inner t) [] d h k = (fit_closed (form_of t) 5 d h.0 h.1, fit_closed (form_of t) 4 d h.0 h.1)
optioned_fits (inner t) (first ∷ rest) d h k = ((h.0, h.1, k), (h.0, h.1, k))

negated_fits : (n : Option ℕ) (t : Tree) (d : ℕ) → FitAt 5 (form_of t) d × FitAt 4 (form_of t) d → FitAt 4 (form_of (negated n t)) d
unfolding form_of Fit
negated_fits None t d h = h.1
negated_fits (Some p) t d h = h.0

mild_fits : (x y : Tree) (d : ℕ) → FitAt 3 (form_of x) d → FitAt 4 (form_of y) d → FitAt 3 (form_of (tree.mild_not x y)) d
unfolding form_of Fit
mild_fits x y d h k = (h, k)

abbrev FitTrees : ℕ → List Tree → ℕ → Type 0
FitTrees wanted xs d = FitAll (forms_of (trees_of xs)) wanted d

one_fits : (wanted : ℕ) (t : Tree) (d : ℕ) → FitAt wanted (form_of t) d → FitTrees wanted (t ∷ []) d
unfolding form_of Fit
one_fits wanted t d h = (h, tt)

more_fits : (wanted : ℕ) (xs : List Tree) (t : Tree) (d : ℕ) → FitTrees wanted xs d → FitAt wanted (form_of t) d → FitTrees wanted (xs ++ t ∷ []) d
unfolding form_of Fit
more_fits wanted [] t d h k = (k, tt)
more_fits wanted (x ∷ xs) t d h k = (h.0, more_fits wanted xs t d h.1 k)

and_fits : (xs : List Tree) (d : ℕ) → FitTrees 3 xs d → FitAt 2 (form_of (joined tree.and_of xs)) d
unfolding form_of Fit
and_fits [] d h = h
and_fits (t ∷ []) d h = fit_weaker (form_of t) 3 2 d (omega arith) h.0
and_fits (t ∷ next ∷ rest) d h = h

or_fits : (xs : List Tree) (d : ℕ) → FitTrees 2 xs d → Fit (form_of (joined tree.or_of xs)) d
unfolding form_of Fit
or_fits [] d h = h
or_fits (t ∷ []) d h = fit_plain (form_of t) 2 d h.0
or_fits (t ∷ next ∷ rest) d h = h

filtered_fits : (t : Tree) (f : Filter) (d : ℕ) → Fit (form_of t) d → FitFilter f → Fit (form_of (tree.filtered t f)) d
unfolding form_of Fit
filtered_fits t f d h k = (h, k)

mutual
  operand_kept : {u : List Placed} {x : Primary} → Operand u x → Kept (FitPrimary x) u
  operand_kept (Operand.words {u = u} {v = v} {w = w} a b c) = kept_as (u ++ v ++ w) (λ d h. (h.0.0, h.1)) (kept_both (u ++ v) w (kept_both u v (value_kept a) (moded_kept b)) (timed_kept c))
  operand_kept (Operand.parentheses {u = u} p a q) = kept_closed p q u (selection_kept a)

  unary_kept : {u : List Placed} {t : Tree} → Unary u t → Kept (FitAt 4 (form_of t)) u
  unary_kept (Unary.unary {u = u} {v = v} {w = w} {n = n} {x = x} {os = os} a b c) =
      kept_as (u ++ v ++ w) (λ d h. negated_fits n (optioned x os) d (optioned_fits x os d h.0.1 h.1)) (kept_both (u ++ v) w (kept_both u v (negation_kept a) (operand_kept b)) (options_kept c))

  mild_kept : {u : List Placed} {t : Tree} → Mild u t → Kept (FitAt 3 (form_of t)) u
  mild_kept (Mild.first_mild {u = u} {x = x} a) = kept_as u (λ d h. fit_weaker (form_of x) 4 3 d (omega arith) h) (unary_kept a)
  mild_kept (Mild.further_mild {u = u} {v = v} {x = x} {y = y} a p q b) =
      kept_as (u ++ name p (codes "not") ∷ name q (codes "in") ∷ v) (λ d h. mild_fits x y d h.0 h.1) (kept_both u (name p (codes "not") ∷ name q (codes "in") ∷ v) (mild_kept a) (kept_name p (codes "not") (name q (codes "in") ∷ v) (kept_name q (codes "in") v (unary_kept b))))

  ands_kept : {u : List Placed} {xs : List Tree} → Ands u xs → Kept (FitTrees 3 xs) u
  ands_kept (Ands.first_and {u = u} {x = x} a) = kept_as u (λ d h. one_fits 3 x d h) (mild_kept a)
  ands_kept (Ands.further_and {u = u} {v = v} {xs = xs} {x = x} a p b) =
      kept_as (u ++ name p (codes "ftand") ∷ v) (λ d h. more_fits 3 xs x d h.0 h.1) (kept_both u (name p (codes "ftand") ∷ v) (ands_kept a) (kept_name p (codes "ftand") v (mild_kept b)))

  ors_kept : {u : List Placed} {xs : List Tree} → Ors u xs → Kept (FitTrees 2 xs) u
  ors_kept (Ors.first_or {u = u} {xs = xs} a) = kept_as u (λ d h. one_fits 2 (joined tree.and_of xs) d (and_fits xs d h)) (ands_kept a)
  ors_kept (Ors.further_or {u = u} {v = v} {xs = xs} {ys = ys} a p b) =
      kept_as (u ++ name p (codes "ftor") ∷ v) (λ d h. more_fits 2 xs (joined tree.and_of ys) d h.0 (and_fits ys d h.1)) (kept_both u (name p (codes "ftor") ∷ v) (ors_kept a) (kept_name p (codes "ftor") v (ands_kept b)))

  pub selection_kept : {u : List Placed} {t : Tree} → Selection u t → Kept (Fit (form_of t)) u
  selection_kept (Selection.plain {u = u} {xs = xs} a) = kept_as u (λ d h. or_fits xs d h) (ors_kept a)
  selection_kept (Selection.filtered {u = u} {v = v} {x = x} {f = f} a b) = kept_as (u ++ v) (λ d h. filtered_fits x f d h.0 h.1) (kept_both u v (selection_kept a) (filter_kept f v b))
