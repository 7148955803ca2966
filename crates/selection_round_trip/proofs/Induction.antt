-- By the grammar: each selection that symbols spell is spelled again by its printed form.
use Rattle.std.proofs.Common.{◌≡◌, ℕ, false, cond, List, [], ◌∷◌, ◌++◌, Option, Some, None, refl, sym, ◌∙◌, ap, subst}
use Rattle.std.specs.Prelude.{codes, nat_lt, option_map}
use Rattle.ft_base.specs.declared.filter.Filter.{Filter}
use Rattle.ft_base.specs.Selection as form
use Rattle.ft_base.specs.Selection.{no_options, Form}
use Rattle.ft_syntax.specs.OptionSymbols.{filter_symbols}
use Rattle.ft_syntax.specs.Symbols.{level, symbols, in_parentheses}
use Rattle.selection_grammar.specs.Form.{form_of, forms_of, options_of}
use Rattle.selection_grammar.specs.declared.symbol.Placed.{Placed}
use Rattle.selection_grammar.specs.declared.parsed.PlacedOption.{PlacedOption}
use Rattle.selection_grammar.specs.declared.parsed.PlacedTimes.{PlacedTimes}
use Rattle.selection_grammar.specs.Tree as tree
use Rattle.selection_grammar.specs.Tree.{Tree, trees_of, joined, Primary, phrases, inner, optioned, negated}
use Rattle.selection_grammar.specs.Grammar as g
use Rattle.selection_grammar.specs.Grammar.{name, Operand, Unary, Negation, Mild, Ands, Ors, Selection}
use Rattle.selection_faults.specs.Faults.{fault_of}
use Rattle.selection_round_trip.specs.Printed.{PrintedSpells, FaultlessAgain}
use Rattle.selection_round_trip.proofs.Parts as parts
use Rattle.selection_round_trip.proofs.Parts.{o, filter_printed}
use Rattle.selection_round_trip.proofs.Once.{once_not, once_mild, once_filtered, once_and, once_or}
use Rattle.selection_round_trip.proofs.Faultless.{faultless_again}
use Rattle.selection_round_trip.proofs.Choices.{Sound, options_printed}
use Rattle.selection_round_trip.proofs.Sound.{NotEmpty, not_empty, value_some, options_sound, some_given}
use Rattle.selection_round_trip.proofs.Fits.{Fit}
use Rattle.selection_round_trip.proofs.Good.{good_append, good_word}
use Rattle.selection_round_trip.proofs.Levels.{Anded, Everywhere, from_operated, from_unary, from_mild, from_anded, from_selection, selection_up}
use Rattle.selection_round_trip.proofs.Operands.{words_again, closed_again, AllEverywhere, several}

-- a value or a selection in parentheses
abbrev PrimaryAgain : Primary → Type 0
PrimaryAgain (phrases strings mode times) = NotEmpty strings
PrimaryAgain (inner t) = Everywhere (form_of t)

optioned_again : (x : Primary) (os : List PlacedOption) → PrimaryAgain x → Sound (options_of os) → ((first : PlacedOption) (rest : List PlacedOption) → os ≡ first ∷ rest → options_of os ≡ no_options → ⊥) → Everywhere (form_of (optioned x os))
unfolding form_of symbols Fit
optioned_again (phrases [] mode times) os h sound some = absurd h
optioned_again (phrases (s ∷ rest) mode times) os h sound some = from_operated (form_of (optioned (phrases (s ∷ rest) mode times) os)) refl (words_again s.text (g.texts_of rest) mode (option_map (λ (x : PlacedTimes). x.range) times) (options_of os) sound)
optioned_again (inner t) [] h sound some = h
optioned_again (inner t) (first ∷ rest) h sound some = from_operated (form.with_options (form_of t) (options_of (first ∷ rest))) refl
    (closed_again (form_of t) (options_of (first ∷ rest)) (symbols (form_of t)) _ (some first rest refl) h.alone (options_printed (options_of (first ∷ rest)) sound))

negated_again : (n : Option ℕ) (t : Tree) → Everywhere (form_of t) → Everywhere (form_of (negated n t))
unfolding form_of symbols Fit
negated_again None t h = h
negated_again (Some p) t h = let x = h.in_not.spells in
    from_unary (form.not_of (form_of t)) refl (record {
      placed = name o (codes "ftnot") ∷ h.in_not.placed;
      tree = tree.not_of 0 h.in_not.tree;
      spells = parts.moved Unary (name o (codes "ftnot") ∷ x.prefix ++ x.back) (name o (codes "ftnot") ∷ h.in_not.placed) (tree.not_of 0 (optioned x.operand x.options)) (tree.not_of 0 h.in_not.tree) (Unary.unary (Negation.some o) x.spells x.chosen) (ap (λ z. name o (codes "ftnot") ∷ z) (sym x.split)) (ap (tree.not_of 0) (sym x.is));
      written_so = ap (λ z. codes "ftnot" ∷ z) h.in_not.written_so;
      is = ap form.not_of h.in_not.is;
      once = once_not 0 h.in_not.tree h.in_not.once;
      good = λ d k. good_word o (codes "ftnot") _ d refl (h.in_not.good d k);
    })

mild_again : (left right : Tree) → Everywhere (form_of left) → Everywhere (form_of right) → Everywhere (form_of (tree.mild_not left right))
unfolding form_of symbols Fit
mild_again left right h k = from_mild (form.mild_not (form_of left) (form_of right)) refl (record {
  placed = h.in_and.placed ++ name o (codes "not") ∷ name o (codes "in") ∷ k.in_mild.placed;
  tree = tree.mild_not h.in_and.tree k.in_mild.tree;
  spells = Mild.further_mild h.in_and.spells o o k.in_mild.spells;
  written_so = parts.joined h.in_and.placed (name o (codes "not") ∷ name o (codes "in") ∷ k.in_mild.placed) _ _ h.in_and.written_so (ap (λ w. codes "not" ∷ codes "in" ∷ w) k.in_mild.written_so);
  is = ap (λ z. form.mild_not z (form_of k.in_mild.tree)) h.in_and.is ∙ ap (λ z. form.mild_not (form_of left) z) k.in_mild.is;
  once = once_mild h.in_and.tree k.in_mild.tree h.in_and.once k.in_mild.once;
  good = λ d l. good_append h.in_and.placed (name o (codes "not") ∷ name o (codes "in") ∷ k.in_mild.placed) d (h.in_and.good d l.0)
      (good_word o (codes "not") _ d refl (good_word o (codes "in") _ d refl (k.in_mild.good d l.1)));
})

not_below : (x : Form) → nat_lt (level x) 0 ≡ false
not_below (form.words value) = refl
not_below (form.or_of forms) = refl
not_below (form.and_of forms) = refl
not_below (form.mild_not left right) = refl
not_below (form.not_of x) = refl
not_below (form.filtered x filter) = refl
not_below (form.with_options x options) = refl

filtered_again : (t : Tree) (f : Filter) → Everywhere (form_of t) → Everywhere (form_of (tree.filtered t f))
unfolding form_of symbols Fit
filtered_again t f h =
    let x = filter_printed f in
    from_selection (form.filtered (form_of t) f) 0 refl refl refl refl refl (record {
      placed = h.alone.placed ++ x.placed;
      tree = tree.filtered h.alone.tree f;
      spells = Selection.filtered h.alone.spells x.spells;
      written_so = parts.joined h.alone.placed x.placed _ (filter_symbols f) (h.alone.written_so ∙ ap (λ b. cond b (in_parentheses (symbols (form_of t))) (symbols (form_of t))) (sym (not_below (form_of t)))) x.is;
      is = ap (λ z. form.filtered z f) h.alone.is;
      once = once_filtered h.alone.tree f h.alone.once;
      good = λ d k. good_append h.alone.placed x.placed d (h.alone.good d k.0) (x.good d k.1);
    })

anded_again : (xs : List Tree) → NotEmpty xs → AllEverywhere xs → Everywhere (form_of (joined tree.and_of xs))
unfolding form_of symbols Fit
anded_again [] h all = absurd h
anded_again (t ∷ []) h all = all.0
anded_again (t ∷ next ∷ rest) h all =
    let x = several Mild Ands (codes "ftand") 3 (λ u t a. Ands.first_and a) (λ u v xs t a b. Ands.further_and a o b) (λ x k. k.in_and) refl t next rest all in
    from_anded (form.and_of (forms_of (trees_of (t ∷ next ∷ rest)))) refl (record {
      placed = x.placed;
      tree = tree.and_of (trees_of (x.one ∷ x.two ∷ x.rest));
      spells = record { operands = x.one ∷ x.two ∷ x.rest; spells = x.spells; is = refl };
      written_so = x.written_so;
      is = ap form.and_of x.is;
      once = once_and (x.one ∷ x.two ∷ x.rest) x.once;
      good = x.good;
    })

ors_first : (u : List Placed) (t : Tree) → Anded u t → Ors u (t ∷ [])
ors_first u t a = subst (λ z. Ors u (z ∷ [])) (sym a.is) (Ors.first_or a.spells)

ors_more : (u v : List Placed) (xs : List Tree) (t : Tree) → Ors u xs → Anded v t → Ors (u ++ name o (codes "ftor") ∷ v) (xs ++ t ∷ [])
ors_more u v xs t a b = subst (λ z. Ors (u ++ name o (codes "ftor") ∷ v) (xs ++ z ∷ [])) (sym b.is) (Ors.further_or a o b.spells)

ored_again : (xs : List Tree) → NotEmpty xs → AllEverywhere xs → Everywhere (form_of (joined tree.or_of xs))
unfolding form_of symbols Fit
ored_again [] h all = absurd h
ored_again (t ∷ []) h all = all.0
ored_again (t ∷ next ∷ rest) h all =
    let x = several Anded Ors (codes "ftor") 2 ors_first ors_more (λ x k. k.in_or) refl t next rest all in
    from_selection (form.or_of (forms_of (trees_of (t ∷ next ∷ rest)))) 1 refl refl refl refl refl (selection_up _ _ (record {
      placed = x.placed;
      tree = tree.or_of (trees_of (x.one ∷ x.two ∷ x.rest));
      spells = record { operands = x.one ∷ x.two ∷ x.rest; spells = x.spells; is = refl };
      written_so = x.written_so;
      is = ap form.or_of x.is;
      once = once_or (x.one ∷ x.two ∷ x.rest) x.once;
      good = x.good;
    }))

all_append : (xs : List Tree) (t : Tree) → AllEverywhere xs → Everywhere (form_of t) → AllEverywhere (xs ++ t ∷ [])
all_append [] t h k = (k, tt)
all_append (x ∷ xs) t h k = (h.0, all_append xs t h.1 k)

abbrev SomeEverywhere : List Tree → Type 0
SomeEverywhere xs = NotEmpty xs × AllEverywhere xs

one_further : (xs : List Tree) (t : Tree) → SomeEverywhere xs → Everywhere (form_of t) → SomeEverywhere (xs ++ t ∷ [])
one_further xs t h k = (not_empty xs t, all_append xs t h.1 k)

mutual
  operand_all : {u : List Placed} {x : Primary} → Operand u x → PrimaryAgain x
  operand_all (Operand.words a b c) = value_some a
  operand_all (Operand.parentheses p a q) = selection_all a

  unary_all : {u : List Placed} {t : Tree} → Unary u t → Everywhere (form_of t)
  unary_all (Unary.unary {n = n} {x = x} {os = os} a b c) = negated_again n (optioned x os) (optioned_again x os (operand_all b) (options_sound c) (λ first rest e. some_given c first rest e))

  mild_all : {u : List Placed} {t : Tree} → Mild u t → Everywhere (form_of t)
  mild_all (Mild.first_mild a) = unary_all a
  mild_all (Mild.further_mild {x = x} {y = y} a p q b) = mild_again x y (mild_all a) (unary_all b)

  ands_all : {u : List Placed} {xs : List Tree} → Ands u xs → SomeEverywhere xs
  ands_all (Ands.first_and a) = (tt, (mild_all a, tt))
  ands_all (Ands.further_and {xs = xs} {x = x} a p b) = one_further xs x (ands_all a) (mild_all b)

  ors_all : {u : List Placed} {xs : List Tree} → Ors u xs → SomeEverywhere xs
  ors_all (Ors.first_or {xs = xs} a) = let h = ands_all a in (tt, (anded_again xs h.0 h.1, tt))
  ors_all (Ors.further_or {xs = xs} {ys = ys} a p b) = let h = ands_all b in one_further xs (joined tree.and_of ys) (ors_all a) (anded_again ys h.0 h.1)

  pub selection_all : {u : List Placed} {t : Tree} → Selection u t → Everywhere (form_of t)
  selection_all (Selection.plain {xs = xs} a) = let h = ors_all a in ored_again xs h.0 h.1
  selection_all (Selection.filtered {x = x} {f = f} a b) = filtered_again x f (selection_all a)

pub printed_spells : (symbols' : List Placed) (t : Tree) → Selection symbols' t → PrintedSpells (form_of t)
printed_spells symbols' t a = let x = (selection_all a).alone in record { placed = x.placed; tree = x.tree; written = x.written_so; spells = x.spells; is = x.is }

pub faultless_spells : (symbols' : List Placed) (t : Tree) → Selection symbols' t → fault_of t ≡ None → FaultlessAgain (form_of t)
faultless_spells symbols' t a h = let x = (selection_all a).alone in record { spelled = record { placed = x.placed; tree = x.tree; written = x.written_so; spells = x.spells; is = x.is }; faultless = faultless_again t x.tree x.is x.once h }
