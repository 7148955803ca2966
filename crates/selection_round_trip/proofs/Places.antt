-- Symbols spell the same selection wherever they stand.
use Rattle.std.proofs.Common.{◌≡◌, ℕ, zero, suc, List, [], ◌∷◌, ◌++◌, map, Option, Some, None, refl, sym, ◌∙◌, ap, subst}
use Rattle.std.proofs.lemmas.List.{map-append}
use Rattle.std.specs.Prelude.{codes}
use Rattle.ft_base.specs.declared.options.StopSource.{StopSource}
use Rattle.ft_base.specs.declared.options.StopSource.TheVariants as source
use Rattle.ft_base.specs.declared.options.StopTerm.{StopTerm}
use Rattle.ft_base.specs.declared.options.ThesaurusUse.{ThesaurusUse}
use Rattle.ft_base.specs.declared.range.Range.{Range}
use Rattle.ft_base.specs.declared.filter.Filter.{Filter}
use Rattle.ft_base.specs.declared.words.Mode.{Mode}
use Rattle.selection_grammar.specs.declared.symbol.Symbol.TheVariants as S
use Rattle.selection_grammar.specs.declared.symbol.Placed.{Placed}
use Rattle.selection_grammar.specs.declared.parsed.PlacedOption.{PlacedOption}
use Rattle.selection_grammar.specs.declared.parsed.PlacedString.{PlacedString}
use Rattle.selection_grammar.specs.declared.parsed.PlacedTimes.{PlacedTimes}
use Rattle.selection_grammar.specs.Form.{form_of}
use Rattle.selection_grammar.specs.Grammar as g
use Rattle.selection_grammar.specs.Grammar.{Spot, at, name, string, joint, Strings, Value, Moded, Timed, Named, Thesaurus, Thesauri, Source, Terms, Given, Negation, Operand, Unary, Mild, Ands, Ors, Selection, texts_of}
use Rattle.selection_grammar.specs.Keywords.{filters, times, levels, plain_option, given}
use Rattle.selection_grammar.specs.Shapes.{Spelled}
use Rattle.selection_grammar.specs.Tree as tree
use Rattle.selection_grammar.specs.Tree.{Tree, joined, Primary, phrases, inner, optioned, negated}
use Rattle.selection_faults.specs.Options.{options_twice}
use Rattle.selection_round_trip.specs.Places.{symbols_in, SpelledThere}
use Rattle.selection_round_trip.proofs.Faultless.{same_fault}
use Rattle.selection_round_trip.proofs.Filters.{filters_same}
use Rattle.selection_round_trip.proofs.Marks.{has_some}
use Rattle.selection_round_trip.proofs.Placeless.{no_string, no_option, no_times, no_negation, placeless, no_place, placeless_optioned, placeless_negated, placeless_and, placeless_or, placeless_mild, placeless_filtered, texts_placeless, form_placeless, twice_placeless}
use Rattle.selection_round_trip.proofs.Shapes.{set, suffix, set_append, Same, SameRange, SameOption, spelled_there, times_alike, levels_alike, filters_alike, option_alike}

-- at other places, something that is the same without them
record Moved {A : Type 0} (Kind : List Placed → A → Type 0) (without : A → A) (u : List Placed) (a : A) : Type 0 where
  value : A
  spells : Kind u value
  same : without value ≡ without a

-- what is spelled by symbols before and those after
both : {A : Type 0} (Kind : List Placed → A → Type 0) (f : ℕ → Spot) (n : ℕ) (u v : List Placed) (a : A) → Kind (set f n u ++ set f (suffix n u) v) a → Kind (set f n (u ++ v)) a
both Kind f n u v a x = subst (λ w. Kind w a) (sym (set_append f n u v)) x

more : {A : Type 0} (without : A → A) (xs ys : List A) (x y : A) → map without xs ≡ map without ys → without x ≡ without y → map without (xs ++ x ∷ []) ≡ map without (ys ++ y ∷ [])
more without xs ys x y e k = map-append without xs (x ∷ []) ∙ (λ i. e i ++ k i ∷ []) ∙ sym (map-append without ys (y ∷ []))

texts_same : (xs ys : List PlacedString) → map no_string xs ≡ map no_string ys → texts_of xs ≡ texts_of ys
texts_same xs ys e = sym (texts_placeless xs) ∙ ap texts_of e ∙ texts_placeless ys

-- values
strings_moved : (f : ℕ → Spot) (n : ℕ) {u : List Placed} {xs : List PlacedString} → Strings u xs → Moved Strings (map no_string) (set f n u) xs
strings_moved f n (Strings.first p s) = record { value = g.placed (f n) s ∷ []; spells = Strings.first (f n) s; same = refl }
strings_moved f n (Strings.further {u = u} {xs = xs} a p q s) =
    let x = strings_moved f n a in
    let m = suffix n u in
    record {
      value = x.value ++ g.placed (f (suc m)) s ∷ [];
      spells = both Strings f n u (at p S.Comma ∷ string q s ∷ []) (x.value ++ g.placed (f (suc m)) s ∷ []) (Strings.further x.spells (f m) (f (suc m)) s);
      same = more no_string x.value xs (g.placed (f (suc m)) s) (g.placed q s) x.same refl;
    }

value_moved : (f : ℕ → Spot) (n : ℕ) {u : List Placed} {xs : List PlacedString} → Value u xs → Moved Value (map no_string) (set f n u) xs
value_moved f n (Value.one p s) = record { value = g.placed (f n) s ∷ []; spells = Value.one (f n) s; same = refl }
value_moved f n (Value.several {u = u} {xs = xs} p a q) =
    let x = strings_moved f (suc n) a in
    record {
      value = x.value;
      spells = both (λ w ys. Value (at (f n) S.OpenBrace ∷ w) ys) f (suc n) u (at q S.CloseBrace ∷ []) x.value (Value.several (f n) x.spells (f (suffix (suc n) u)));
      same = x.same;
    }

moded_moved : (f : ℕ → Spot) (n : ℕ) {u : List Placed} {m : Mode} → Moded u m → Moded (set f n u) m
moded_moved f n Moded.unwritten = Moded.unwritten
moded_moved f n (Moded.any p) = Moded.any (f n)
moded_moved f n (Moded.any_word p q) = Moded.any_word (f n) (f (suc n))
moded_moved f n (Moded.all p) = Moded.all (f n)
moded_moved f n (Moded.all_words p q) = Moded.all_words (f n) (f (suc n))
moded_moved f n (Moded.phrase p) = Moded.phrase (f n)

timed_moved : (f : ℕ → Spot) (n : ℕ) {u : List Placed} {t : Option PlacedTimes} → Timed u t → Moved Timed no_times (set f n u) t
timed_moved f n Timed.always = record { value = None; spells = Timed.always; same = refl }
timed_moved f n (Timed.some {u = u} {t = t} a) =
    let x = spelled_there SameRange f u n times times t times_alike a in
    record { value = Some x.value; spells = Timed.some x.spells; same = ap (λ (r : Range). Some (record { at = 0; range = r })) (sym x.same) }

-- options
named_moved : (f : ℕ → Spot) (n : ℕ) {u : List Placed} {s : List ℕ} {r : Option (List ℕ)} → Named u s r → Named (set f n u) s r
named_moved f n (Named.plain p q s) = Named.plain (f n) (f (suc n)) s
named_moved f n (Named.related p q r t s relationship) = Named.related (f n) (f (suc n)) (f (suc (suc n))) (f (suc (suc (suc n)))) s relationship

levels_moved : (f : ℕ → Spot) (n : ℕ) (v : List Placed) (range : Range) → Spelled levels v range → Spelled levels (set f n v) range
levels_moved f n v range a = let x = spelled_there Same f v n levels levels range levels_alike a in subst (Spelled levels (set f n v)) (sym x.same) x.spells

thesaurus_moved : (f : ℕ → Spot) (n : ℕ) {u : List Placed} {x : ThesaurusUse} → Thesaurus u x → Thesaurus (set f n u) x
thesaurus_moved f n (Thesaurus.all_levels a) = Thesaurus.all_levels (named_moved f n a)
thesaurus_moved f n (Thesaurus.some_levels {u = u} {v = v} {s = s} {r = r} {range = range} a b) =
    both Thesaurus f n u v (record { name = s; relationship = r; levels = Some range }) (Thesaurus.some_levels (named_moved f n a) (levels_moved f (suffix n u) v range b))

thesauri_moved : (f : ℕ → Spot) (n : ℕ) {u : List Placed} {xs : List ThesaurusUse} → Thesauri u xs → Thesauri (set f n u) xs
thesauri_moved f n (Thesauri.first a) = Thesauri.first (thesaurus_moved f n a)
thesauri_moved f n (Thesauri.further {u = u} {v = v} {xs = xs} {x = x} a p b) =
    both Thesauri f n u (at p S.Comma ∷ v) (xs ++ x ∷ []) (Thesauri.further (thesauri_moved f n a) (f (suffix n u)) (thesaurus_moved f (suc (suffix n u)) b))

source_moved : (f : ℕ → Spot) (n : ℕ) {u : List Placed} {x : StopSource} → Source u x → Source (set f n u) x
source_moved f n (Source.list p q s) = Source.list (f n) (f (suc n)) s
source_moved f n (Source.written {u = u} {xs = xs} p a q) =
    let x = strings_moved f (suc n) a in
    subst (λ (t : List (List ℕ)). Source (set f n (at p S.OpenParenthesis ∷ u ++ at q S.CloseParenthesis ∷ [])) (source.Written t)) (texts_same x.value xs x.same)
    (both (λ w ys. Source (at (f n) S.OpenParenthesis ∷ w) ys) f (suc n) u (at q S.CloseParenthesis ∷ []) (source.Written (texts_of x.value)) (Source.written (f n) x.spells (f (suffix (suc n) u))))

terms_moved : (f : ℕ → Spot) (n : ℕ) {u : List Placed} {xs : List StopTerm} → Terms u xs → Terms (set f n u) xs
terms_moved f n (Terms.first a) = Terms.first (source_moved f n a)
terms_moved f n (Terms.further {u = u} {v = v} {xs = xs} {x = x} a p except b) =
    both Terms f n u (name p (joint except) ∷ v) (xs ++ record { except = except; source = x } ∷ []) (Terms.further (terms_moved f n a) (f (suffix n u)) except (source_moved f (suc (suffix n u)) b))

given_moved : (f : ℕ → Spot) (n : ℕ) {u : List Placed} {o : PlacedOption} → Given u o → Moved Given no_option (set f n u) o
given_moved f n (Given.plain {u = u} {o = o} p a) =
    let x = spelled_there SameOption f u (suc n) (plain_option p.0) (plain_option (f n).0) o (option_alike p.0 (f n).0) a in
    record { value = x.value; spells = Given.plain (f n) x.spells; same = ap (given 0) (sym x.same) }
given_moved f n (Given.thesaurus {u = u} {x = x} p q a) = record { value = _; spells = Given.thesaurus (f n) (f (suc n)) (thesaurus_moved f (suc (suc n)) a); same = refl }
given_moved f n (Given.thesauri {u = u} {xs = xs} p q r a t) = record {
  value = _;
  spells = both (λ w o. Given (name (f n) (codes "using") ∷ name (f (suc n)) (codes "thesaurus") ∷ at (f (suc (suc n))) S.OpenParenthesis ∷ w) o) f (suc (suc (suc n))) u (at t S.CloseParenthesis ∷ []) _
      (Given.thesauri (f n) (f (suc n)) (f (suc (suc n))) (thesauri_moved f (suc (suc (suc n))) a) (f (suffix (suc (suc (suc n))) u)));
  same = refl;
}
given_moved f n (Given.stop_words {u = u} {xs = xs} p q r a) = record { value = _; spells = Given.stop_words (f n) (f (suc n)) (f (suc (suc n))) (terms_moved f (suc (suc (suc n))) a); same = refl }

options_moved : (f : ℕ → Spot) (n : ℕ) {u : List Placed} {os : List PlacedOption} → g.Options u os → Moved g.Options (map no_option) (set f n u) os
options_moved f n g.Options.none = record { value = []; spells = g.Options.none; same = refl }
options_moved f n (g.Options.further {u = u} {v = v} {os = os} {o = o} a b) =
    let x = options_moved f n a in
    let y = given_moved f (suffix n u) b in
    record {
      value = x.value ++ y.value ∷ [];
      spells = both g.Options f n u v (x.value ++ y.value ∷ []) (g.Options.further x.spells y.spells);
      same = more no_option x.value os y.value o x.same y.same;
    }

negation_moved : (f : ℕ → Spot) (n : ℕ) {u : List Placed} {m : Option ℕ} → Negation u m → Moved Negation no_negation (set f n u) m
negation_moved f n Negation.none = record { value = None; spells = Negation.none; same = refl }
negation_moved f n (Negation.some p) = record { value = Some (f n).0; spells = Negation.some (f n); same = refl }

-- trees that are put together
abbrev TreeMoved : (List Placed → Tree → Type 0) → List Placed → Tree → Type 0
TreeMoved Kind u t = Moved Kind placeless u t

abbrev TreesMoved : (List Placed → List Tree → Type 0) → List Placed → List Tree → Type 0
TreesMoved Kind u xs = Moved Kind (map placeless) u xs

unary_same : (m n : Option ℕ) (x y : Primary) (v w : List PlacedOption) → no_negation m ≡ no_negation n → no_place x ≡ no_place y → map no_option v ≡ map no_option w → placeless (negated m (optioned x v)) ≡ placeless (negated n (optioned y w))
unary_same m n x y v w e h k =
    placeless_negated m (optioned x v) ∙ ap (negated (no_negation m)) (placeless_optioned x v)
    ∙ (λ i. negated (e i) (optioned (h i) (k i)))
    ∙ sym (placeless_negated n (optioned y w) ∙ ap (negated (no_negation n)) (placeless_optioned y w))

mild_same : (x y v w : Tree) → placeless x ≡ placeless v → placeless y ≡ placeless w → placeless (tree.mild_not x y) ≡ placeless (tree.mild_not v w)
mild_same x y v w e k = placeless_mild x y ∙ (λ i. tree.mild_not (e i) (k i)) ∙ sym (placeless_mild v w)

and_same : (xs ys : List Tree) → map placeless xs ≡ map placeless ys → placeless (joined tree.and_of xs) ≡ placeless (joined tree.and_of ys)
and_same xs ys e = placeless_and xs ∙ ap (joined tree.and_of) e ∙ sym (placeless_and ys)

or_same : (xs ys : List Tree) → map placeless xs ≡ map placeless ys → placeless (joined tree.or_of xs) ≡ placeless (joined tree.or_of ys)
or_same xs ys e = placeless_or xs ∙ ap (joined tree.or_of) e ∙ sym (placeless_or ys)

filtered_same : (x y : Tree) (v w : Filter) → placeless x ≡ placeless y → v ≡ w → placeless (tree.filtered x v) ≡ placeless (tree.filtered y w)
filtered_same x y v w e k = placeless_filtered x v ∙ (λ i. tree.filtered (e i) (k i)) ∙ sym (placeless_filtered y w)

mutual
  operand_moved : (f : ℕ → Spot) {u : List Placed} {x : Primary} → Operand u x → (n : ℕ) → Moved Operand no_place (set f n u) x
  operand_moved f (Operand.words {u = u} {v = v} {w = w} {xs = xs} {mode = mode} {t = t} a b c) n =
      let x = value_moved f n a in
      let y = moded_moved f (suffix n u) b in
      let z = timed_moved f (suffix n (u ++ v)) c in
      record {
        value = phrases x.value mode z.value;
        spells = both Operand f n (u ++ v) w (phrases x.value mode z.value) (both (λ k p. Operand (k ++ set f (suffix n (u ++ v)) w) p) f n u v (phrases x.value mode z.value) (Operand.words x.spells y z.spells));
        same = λ i. phrases (x.same i) mode (z.same i);
      }
  operand_moved f (Operand.parentheses {u = u} {x = t} p a q) n =
      let x = selection_moved f a (suc n) in
      record {
        value = inner x.value;
        spells = both (λ w y. Operand (at (f n) S.OpenParenthesis ∷ w) y) f (suc n) u (at q S.CloseParenthesis ∷ []) (inner x.value) (Operand.parentheses (f n) x.spells (f (suffix (suc n) u)));
        same = ap inner x.same;
      }

  unary_moved : (f : ℕ → Spot) {u : List Placed} {t : Tree} → Unary u t → (n : ℕ) → TreeMoved Unary (set f n u) t
  unary_moved f (Unary.unary {u = u} {v = v} {w = w} {n = m} {x = x} {os = os} a b c) n =
      let i = negation_moved f n a in
      let j = operand_moved f b (suffix n u) in
      let k = options_moved f (suffix n (u ++ v)) c in
      let whole = negated i.value (optioned j.value k.value) in
      record {
        value = whole;
        spells = both Unary f n (u ++ v) w whole (both (λ l p. Unary (l ++ set f (suffix n (u ++ v)) w) p) f n u v whole (Unary.unary i.spells j.spells k.spells));
        same = unary_same i.value m j.value x k.value os i.same j.same k.same;
      }

  mild_moved : (f : ℕ → Spot) {u : List Placed} {t : Tree} → Mild u t → (n : ℕ) → TreeMoved Mild (set f n u) t
  mild_moved f (Mild.first_mild a) n = let x = unary_moved f a n in record { value = x.value; spells = Mild.first_mild x.spells; same = x.same }
  mild_moved f (Mild.further_mild {u = u} {v = v} {x = s} {y = t} a p q b) n =
      let x = mild_moved f a n in
      let m = suffix n u in
      let y = unary_moved f b (suc (suc m)) in
      record {
        value = tree.mild_not x.value y.value;
        spells = both Mild f n u (name p (codes "not") ∷ name q (codes "in") ∷ v) (tree.mild_not x.value y.value) (Mild.further_mild x.spells (f m) (f (suc m)) y.spells);
        same = mild_same x.value y.value s t x.same y.same;
      }

  ands_moved : (f : ℕ → Spot) {u : List Placed} {xs : List Tree} → Ands u xs → (n : ℕ) → TreesMoved Ands (set f n u) xs
  ands_moved f (Ands.first_and a) n = let x = mild_moved f a n in record { value = x.value ∷ []; spells = Ands.first_and x.spells; same = ap (λ t. t ∷ []) x.same }
  ands_moved f (Ands.further_and {u = u} {v = v} {xs = xs} {x = t} a p b) n =
      let x = ands_moved f a n in
      let y = mild_moved f b (suc (suffix n u)) in
      record {
        value = x.value ++ y.value ∷ [];
        spells = both Ands f n u (name p (codes "ftand") ∷ v) (x.value ++ y.value ∷ []) (Ands.further_and x.spells (f (suffix n u)) y.spells);
        same = more placeless x.value xs y.value t x.same y.same;
      }

  ors_moved : (f : ℕ → Spot) {u : List Placed} {xs : List Tree} → Ors u xs → (n : ℕ) → TreesMoved Ors (set f n u) xs
  ors_moved f (Ors.first_or {xs = xs} a) n = let x = ands_moved f a n in record { value = joined tree.and_of x.value ∷ []; spells = Ors.first_or x.spells; same = ap (λ t. t ∷ []) (and_same x.value xs x.same) }
  ors_moved f (Ors.further_or {u = u} {v = v} {xs = xs} {ys = ys} a p b) n =
      let x = ors_moved f a n in
      let y = ands_moved f b (suc (suffix n u)) in
      record {
        value = x.value ++ joined tree.and_of y.value ∷ [];
        spells = both Ors f n u (name p (codes "ftor") ∷ v) (x.value ++ joined tree.and_of y.value ∷ []) (Ors.further_or x.spells (f (suffix n u)) y.spells);
        same = more placeless x.value xs (joined tree.and_of y.value) (joined tree.and_of ys) x.same (and_same y.value ys y.same);
      }

  selection_moved : (f : ℕ → Spot) {u : List Placed} {t : Tree} → Selection u t → (n : ℕ) → TreeMoved Selection (set f n u) t
  selection_moved f (Selection.plain {xs = xs} a) n = let x = ors_moved f a n in record { value = joined tree.or_of x.value; spells = Selection.plain x.spells; same = or_same x.value xs x.same }
  selection_moved f (Selection.filtered {u = u} {v = v} {x = t} {f = filter} a b) n =
      let x = selection_moved f a n in
      let y = spelled_there Same f v (suffix n u) filters filters filter filters_alike b in
      record {
        value = tree.filtered x.value y.value;
        spells = both Selection f n u v (tree.filtered x.value y.value) (Selection.filtered x.spells y.spells);
        same = filtered_same x.value t y.value filter x.same (sym y.same);
      }

-- the places of symbols
abbrev spots : List Placed → ℕ → Spot
spots [] n = (0, 0)
spots (p ∷ rest) zero = (p.from, p.to)
spots (p ∷ rest) (suc n) = spots rest n

later : (f : ℕ → Spot) (u : List Placed) (n : ℕ) → set f (suc n) u ≡ set (λ k. f (suc k)) n u
later f [] n = refl
later f (p ∷ u) n = ap (λ w. at (f (suc n)) p.symbol ∷ w) (later f u (suc n))

set_back : (u v : List Placed) → symbols_in v ≡ symbols_in u → set (spots v) 0 u ≡ v
set_back [] [] e = refl
set_back [] (q ∷ v) e = cc
set_back (p ∷ u) [] e = cc
set_back (p ∷ u) (q ∷ v) e =
    let first : p.symbol ≡ q.symbol = cc in
    let rest : symbols_in v ≡ symbols_in u = cc in
    λ i. at (q.from, q.to) (first i) ∷ (later (spots (q ∷ v)) u 0 ∙ set_back u v rest) i

pub same_there : (u v : List Placed) (t : Tree) → Selection u t → symbols_in v ≡ symbols_in u → SpelledThere v t
same_there u v t a e =
    let x = selection_moved (spots v) a 0 in
    let is : form_of x.value ≡ form_of t = sym (form_placeless x.value) ∙ ap form_of x.same ∙ form_placeless t in
    record {
      tree = x.value;
      spells = subst (λ w. Selection w x.value) (set_back u v e) x.spells;
      is = is;
      faults = same_fault t x.value is (sym (twice_placeless x.value) ∙ ap (λ w. has_some (options_twice w)) x.same ∙ twice_placeless t);
      filters = filters_same t x.value is;
    }
