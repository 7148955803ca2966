-- Each `ftand` of a selection that symbols spell has an operand.
use Rattle.std.proofs.Common.{◌≡◌, ℕ, Bool, true, ◌&&◌, List, [], ◌∷◌, ◌++◌, Option, Some, None, refl}
use Rattle.std.proofs.lemmas.Bool.{and_from}
use Rattle.ft_base.specs.declared.filter.Filter.{Filter}
use Rattle.ft_base.specs.Selection as form
use Rattle.ft_base.specs.Selection.{Form, Forms}
use Rattle.all_matches.specs.Allowed.{has_operands}
use Rattle.selection_grammar.specs.Form.{form_of, forms_of}
use Rattle.selection_grammar.specs.declared.symbol.Placed.{Placed}
use Rattle.selection_grammar.specs.declared.parsed.PlacedOption.{PlacedOption}
use Rattle.selection_grammar.specs.Tree as tree
use Rattle.selection_grammar.specs.Tree.{Tree, trees_of, joined, Primary, phrases, inner, optioned, negated}
use Rattle.selection_grammar.specs.Grammar.{Operand, Unary, Mild, Ands, Ors, Selection}

unfoldable mutual
  pub has_full_ands : Form → Bool
  has_full_ands (form.words value) = true
  has_full_ands (form.or_of forms) = each_has_full_ands forms
  has_full_ands (form.and_of forms) = has_operands forms && each_has_full_ands forms
  has_full_ands (form.mild_not left right) = has_full_ands left && has_full_ands right
  has_full_ands (form.not_of form) = has_full_ands form
  has_full_ands (form.filtered form kind) = has_full_ands form
  has_full_ands (form.with_options form options) = has_full_ands form

  pub each_has_full_ands : Forms → Bool
  each_has_full_ands form.none = true
  each_has_full_ands (form.more form rest) = has_full_ands form && each_has_full_ands rest

abbrev Full : Tree → Type 0
Full t = has_full_ands (form_of t) ≡ true

-- each of these, and there is one
abbrev EachFull : List Tree → Type 0
EachFull [] = Unit {0}
EachFull (t ∷ rest) = Full t × EachFull rest

abbrev IsSome : List Tree → Type 0
IsSome [] = ⊥
IsSome (t ∷ rest) = Unit {0}

abbrev SomeFull : List Tree → Type 0
SomeFull ts = IsSome ts × EachFull ts

each_full : (ts : List Tree) → EachFull ts → each_has_full_ands (forms_of (trees_of ts)) ≡ true
unfolding has_full_ands form_of
each_full [] all = refl
each_full (t ∷ rest) all = and_from (has_full_ands (form_of t)) (each_has_full_ands (forms_of (trees_of rest))) all.0 (each_full rest all.1)

one_more : (ts : List Tree) (t : Tree) → SomeFull ts → Full t → SomeFull (ts ++ t ∷ [])
one_more ts t some full = (is_some ts, each ts some.1)
  where
    is_some : (xs : List Tree) → IsSome (xs ++ t ∷ [])
    is_some [] = tt
    is_some (x ∷ xs) = tt

    each : (xs : List Tree) → EachFull xs → EachFull (xs ++ t ∷ [])
    each [] all = (full, tt)
    each (x ∷ xs) all = (all.0, each xs all.1)

and_full : (ts : List Tree) → SomeFull ts → Full (joined tree.and_of ts)
unfolding has_full_ands form_of
and_full [] some = absurd some.0
and_full (t ∷ []) some = some.1.0
and_full (t ∷ next ∷ rest) some = each_full (t ∷ next ∷ rest) some.1

or_full : (ts : List Tree) → SomeFull ts → Full (joined tree.or_of ts)
unfolding has_full_ands form_of
or_full [] some = absurd some.0
or_full (t ∷ []) some = some.1.0
or_full (t ∷ next ∷ rest) some = each_full (t ∷ next ∷ rest) some.1

abbrev PrimaryFull : Primary → Type 0
PrimaryFull (phrases strings mode times) = Unit {0}
PrimaryFull (inner t) = Full t

optioned_full : (x : Primary) (os : List PlacedOption) → PrimaryFull x → Full (optioned x os)
unfolding has_full_ands form_of
optioned_full (phrases strings mode times) os full = refl
optioned_full (inner t) [] full = full
optioned_full (inner t) (first ∷ rest) full = full

negated_full : (n : Option ℕ) (t : Tree) → Full t → Full (negated n t)
unfolding has_full_ands form_of
negated_full None t full = full
negated_full (Some at) t full = full

mild_full : (left right : Tree) → Full left → Full right → Full (tree.mild_not left right)
unfolding has_full_ands form_of
mild_full left right first second = and_from (has_full_ands (form_of left)) (has_full_ands (form_of right)) first second

filter_full : (t : Tree) (f : Filter) → Full t → Full (tree.filtered t f)
unfolding has_full_ands form_of
filter_full t f full = full

mutual
  operand_spelled : {u : List Placed} {x : Primary} → Operand u x → PrimaryFull x
  operand_spelled (Operand.words a b c) = tt
  operand_spelled (Operand.parentheses p a q) = spelled_full a

  unary_spelled : {u : List Placed} {t : Tree} → Unary u t → Full t
  unary_spelled (Unary.unary {n = n} {x = x} {os = os} a b c) = negated_full n (optioned x os) (optioned_full x os (operand_spelled b))

  mild_spelled : {u : List Placed} {t : Tree} → Mild u t → Full t
  mild_spelled (Mild.first_mild a) = unary_spelled a
  mild_spelled (Mild.further_mild {x = x} {y = y} a p q b) = mild_full x y (mild_spelled a) (unary_spelled b)

  ands_spelled : {u : List Placed} {xs : List Tree} → Ands u xs → SomeFull xs
  ands_spelled (Ands.first_and a) = (tt, (mild_spelled a, tt))
  ands_spelled (Ands.further_and {xs = xs} {x = x} a p b) = one_more xs x (ands_spelled a) (mild_spelled b)

  ors_spelled : {u : List Placed} {xs : List Tree} → Ors u xs → SomeFull xs
  ors_spelled (Ors.first_or {xs = xs} a) = (tt, (and_full xs (ands_spelled a), tt))
  ors_spelled (Ors.further_or {xs = xs} {ys = ys} a p b) = one_more xs (joined tree.and_of ys) (ors_spelled a) (and_full ys (ands_spelled b))

  pub spelled_full : {u : List Placed} {t : Tree} → Selection u t → has_full_ands (form_of t) ≡ true
  spelled_full (Selection.plain {xs = xs} a) = or_full xs (ors_spelled a)
  spelled_full (Selection.filtered {x = x} {f = f} a b) = filter_full x f (spelled_full a)
