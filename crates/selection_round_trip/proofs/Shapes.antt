-- Where symbols lead from a shape doesn't depend on their places, but for the places that are kept in what is spelled.
use Rattle.std.proofs.Common.{◌≡◌, ℕ, suc, Bool, true, false, cond, List, [], ◌∷◌, ◌++◌, Option, Some, None, refl, ap, subst}
use Rattle.std.specs.Prelude.{codes}
use Rattle.ft_base.specs.declared.filter.Filter.TheVariants as F
use Rattle.ft_base.specs.declared.range.Range.{Range}
use Rattle.ft_base.specs.declared.unit.TextUnit.{TextUnit}
use Rattle.selection_grammar.specs.declared.symbol.Placed.{Placed}
use Rattle.selection_grammar.specs.declared.parsed.MatchOption.{MatchOption}
use Rattle.selection_grammar.specs.declared.parsed.PlacedOption.{PlacedOption}
use Rattle.selection_grammar.specs.declared.parsed.PlacedTimes.{PlacedTimes}
use Rattle.selection_grammar.specs.Grammar.{Spot, at}
use Rattle.selection_grammar.specs.Keywords.{key, unit, bound, two_bounds, range, window, distance, filters, times, levels, sensitivity, turned_off, plain_option}
use Rattle.selection_grammar.specs.Shapes as s
use Rattle.selection_grammar.specs.Shapes.{Mark, Shape, is_word, is_mark, number_of, text_of, number_leads, text_leads, step, run, Spelled, or_else, and_then}

-- symbols at places that a function tells, from a number on
abbrev pub set : (ℕ → Spot) → ℕ → List Placed → List Placed
set f n [] = []
set f n (p ∷ rest) = at (f n) p.symbol ∷ set f (suc n) rest

-- the number after symbols
abbrev pub suffix : ℕ → List Placed → ℕ
suffix n [] = n
suffix n (p ∷ rest) = suffix (suc n) rest

pub set_append : (f : ℕ → Spot) (n : ℕ) (u v : List Placed) → set f n (u ++ v) ≡ set f n u ++ set f (suffix n u) v
set_append f n [] v = refl
set_append f n (p ∷ u) v = ap (λ w. at (f n) p.symbol ∷ w) (set_append f (suc n) u v)

-- shapes that lead, wherever symbols stand, to ends in a relation
pub data Alike {A : Type 0} (R : A → A → Type 0) : Shape A → Shape A → Type 0 where
  whole : {a b : A} → R a b → Alike R (s.whole a) (s.whole b)
  nothing : Alike R s.nothing s.nothing
  word : {key : List ℕ} {to other : ℕ → Shape A} {rest left : Shape A} → ((p q : ℕ) → Alike R (to p) (other q)) → Alike R rest left → Alike R (s.word key to rest) (s.word key other left)
  number : {to other : ℕ → Shape A} {rest left : Shape A} → ((n : ℕ) → Alike R (to n) (other n)) → Alike R rest left → Alike R (s.number to rest) (s.number other left)
  text : {to other : ℕ → List ℕ → Shape A} {rest left : Shape A} → ((p q : ℕ) (t : List ℕ) → Alike R (to p t) (other q t)) → Alike R rest left → Alike R (s.text to rest) (s.text other left)
  mark : {m : Mark} {to other rest left : Shape A} → Alike R to other → Alike R rest left → Alike R (s.mark m to rest) (s.mark m other left)

data AlikeSome {A : Type 0} (R : A → A → Type 0) : Option (Shape A) → Option (Shape A) → Type 0 where
  none : AlikeSome R None None
  some : {x y : Shape A} → Alike R x y → AlikeSome R (Some x) (Some y)

by_test : {A : Type 0} (R : A → A → Type 0) (b : Bool) (x y v w : Option (Shape A)) → AlikeSome R x y → AlikeSome R v w → AlikeSome R (cond b x v) (cond b y w)
by_test R true x y v w h k = h
by_test R false x y v w h k = k

by_number : {A : Type 0} (R : A → A → Type 0) (n : Option ℕ) (to other : ℕ → Shape A) (v w : Option (Shape A)) → ((n : ℕ) → Alike R (to n) (other n)) → AlikeSome R v w → AlikeSome R (number_leads to v n) (number_leads other w n)
by_number R None to other v w h k = k
by_number R (Some n) to other v w h k = AlikeSome.some (h n)

by_text : {A : Type 0} (R : A → A → Type 0) (n : Option (List ℕ)) (to other : List ℕ → Shape A) (v w : Option (Shape A)) → ((n : List ℕ) → Alike R (to n) (other n)) → AlikeSome R v w → AlikeSome R (text_leads to v n) (text_leads other w n)
by_text R None to other v w h k = k
by_text R (Some n) to other v w h k = AlikeSome.some (h n)

step_alike : {A : Type 0} (R : A → A → Type 0) {x y : Shape A} → Alike R x y → (p : Placed) (q : Spot) → AlikeSome R (step x p) (step y (at q p.symbol))
step_alike R (Alike.whole h) p q = AlikeSome.none
step_alike R Alike.nothing p q = AlikeSome.none
step_alike R (Alike.word {key = key} {to = to} {other = other} {rest = rest} {left = left} h k) p q = by_test R (is_word key p.symbol) (Some (to p.from)) (Some (other q.0)) (step rest p) (step left (at q p.symbol)) (AlikeSome.some (h p.from q.0)) (step_alike R k p q)
step_alike R (Alike.number {to = to} {other = other} {rest = rest} {left = left} h k) p q = by_number R (number_of p.symbol) to other (step rest p) (step left (at q p.symbol)) h (step_alike R k p q)
step_alike R (Alike.text {to = to} {other = other} {rest = rest} {left = left} h k) p q = by_text R (text_of p.symbol) (to p.from) (other q.0) (step rest p) (step left (at q p.symbol)) (h p.from q.0) (step_alike R k p q)
step_alike R (Alike.mark {m = m} {to = to} {other = other} {rest = rest} {left = left} h k) p q = by_test R (is_mark m p.symbol) (Some to) (Some other) (step rest p) (step left (at q p.symbol)) (AlikeSome.some h) (step_alike R k p q)

run_alike : {A : Type 0} (R : A → A → Type 0) (f : ℕ → Spot) (u : List Placed) (n : ℕ) (x y : Option (Shape A)) → AlikeSome R x y → AlikeSome R (run x u) (run y (set f n u))
run_alike R f [] n None (Some y) h = elim h [ ]
run_alike R f [] n (Some x) None h = elim h [ ]
run_alike R f (p ∷ u) n None (Some y) h = elim h [ ]
run_alike R f (p ∷ u) n (Some x) None h = elim h [ ]
run_alike R f [] n None None AlikeSome.none = AlikeSome.none
run_alike R f [] n (Some x) (Some y) (AlikeSome.some h) = AlikeSome.some h
run_alike R f (p ∷ u) n None None AlikeSome.none = AlikeSome.none
run_alike R f (p ∷ u) n (Some x) (Some y) (AlikeSome.some h) = run_alike R f u (suc n) (step x p) (step y (at (f n) p.symbol)) (step_alike R h p (f n))

-- symbols at other places spell what is in the relation
pub record There {A : Type 0} (R : A → A → Type 0) (y : Shape A) (u : List Placed) (a : A) : Type 0 where
  pub value : A
  pub spells : Spelled y u value
  pub same : R a value

whole_ends : {A : Type 0} (R : A → A → Type 0) {x y : Shape A} → Alike R x y → (a : A) → x ≡ s.whole a → (b : A) × (y ≡ s.whole b) × R a b
whole_ends R (Alike.whole {a = c} {b = d} h) a e = let same : c ≡ a = cc in (d, refl, subst (λ z. R z d) same h)
whole_ends R Alike.nothing a e = cc
whole_ends R (Alike.word h k) a e = cc
whole_ends R (Alike.number h k) a e = cc
whole_ends R (Alike.text h k) a e = cc
whole_ends R (Alike.mark h k) a e = cc

ended : {A : Type 0} (R : A → A → Type 0) (x y : Option (Shape A)) (a : A) → AlikeSome R x y → x ≡ Some (s.whole a) → (b : A) × (y ≡ Some (s.whole b)) × R a b
ended R None None a h e = cc
ended R None (Some y) a h e = elim h [ ]
ended R (Some x) None a h e = elim h [ ]
ended R (Some x) (Some y) a (AlikeSome.some h) e = let same : x ≡ s.whole a = cc in let end = whole_ends R h a same in (end.0, ap Some end.1, end.2)

pub spelled_there : {A : Type 0} (R : A → A → Type 0) (f : ℕ → Spot) (u : List Placed) (n : ℕ) (x y : Shape A) (a : A) → Alike R x y → Spelled x u a → There R y (set f n u) a
spelled_there R f u n x y a h k = let e = ended R (run (Some x) u) (run (Some y) (set f n u)) a (run_alike R f u n (Some x) (Some y) (AlikeSome.some h)) k.runs in record { value = e.0; spells = record { runs = e.1 }; same = e.2 }

-- one shape, and after it another
then_alike : {A B : Type 0} (R : A → A → Type 0) (Q : B → B → Type 0) (f g : A → Shape B) → ((a b : A) → R a b → Alike Q (f a) (g b)) → {x y : Shape A} → Alike R x y → Alike Q (and_then x f) (and_then y g)
then_alike R Q f g h (Alike.whole {a = a} {b = b} k) = h a b k
then_alike R Q f g h Alike.nothing = Alike.nothing
then_alike R Q f g h (Alike.word k l) = Alike.word (λ p q. then_alike R Q f g h (k p q)) (then_alike R Q f g h l)
then_alike R Q f g h (Alike.number k l) = Alike.number (λ n. then_alike R Q f g h (k n)) (then_alike R Q f g h l)
then_alike R Q f g h (Alike.text k l) = Alike.text (λ p q t. then_alike R Q f g h (k p q t)) (then_alike R Q f g h l)
then_alike R Q f g h (Alike.mark k l) = Alike.mark (then_alike R Q f g h k) (then_alike R Q f g h l)

abbrev pub Same : {A : Type 0} → A → A → Type 0
Same a b = a ≡ b

key_alike : {A : Type 0} (R : A → A → Type 0) (name : List ℕ) (x y : Shape A) → Alike R x y → Alike R (key name x) (key name y)
key_alike R name x y h = Alike.word (λ p q. h) Alike.nothing

one_alike : {A : Type 0} (made : ℕ → A) → Alike Same (s.number (λ n. s.whole (made n)) s.nothing) (s.number (λ n. s.whole (made n)) s.nothing)
one_alike made = Alike.number (λ n. Alike.whole refl) Alike.nothing

bound_alike : Alike Same bound bound
bound_alike = Alike.word (λ p q. one_alike _) (Alike.word (λ p q. one_alike _) Alike.nothing)

two_alike : Alike Same two_bounds two_bounds
two_alike = Alike.number (λ low. key_alike Same _ _ _ (one_alike _)) Alike.nothing

range_alike : Alike Same range range
range_alike = Alike.word (λ p q. one_alike _) (Alike.word (λ p q. two_alike) (Alike.word (λ p q. bound_alike) Alike.nothing))

unit_alike : Alike Same unit unit
unit_alike = Alike.word (λ p q. Alike.whole refl) (Alike.word (λ p q. Alike.whole refl) (Alike.word (λ p q. Alike.whole refl) Alike.nothing))

abbrev pub SameRange : PlacedTimes → PlacedTimes → Type 0
SameRange a b = a.range ≡ b.range

pub times_alike : Alike SameRange times times
times_alike = Alike.word (λ p q. then_alike Same SameRange (λ r. key (codes "times") (s.whole (record { at = p; range = r }))) (λ r. key (codes "times") (s.whole (record { at = q; range = r }))) (λ a b e. key_alike SameRange _ _ _ (Alike.whole e)) range_alike) Alike.nothing

pub levels_alike : Alike Same levels levels
levels_alike = then_alike Same Same (λ (r : Range). key (codes "levels") (s.whole r)) (λ (r : Range). key (codes "levels") (s.whole r)) (λ a b e. key_alike Same _ _ _ (Alike.whole e)) range_alike

whole_alike : {A : Type 0} (a : A) → Alike Same (s.whole a) (s.whole a)
whole_alike a = Alike.whole refl

two_words_alike : {A : Type 0} (first second : List ℕ) (a b : A) → Alike Same (s.word first (λ p. s.whole a) (s.word second (λ p. s.whole b) s.nothing)) (s.word first (λ p. s.whole a) (s.word second (λ p. s.whole b) s.nothing))
two_words_alike first second a b = Alike.word (λ p q. whole_alike a) (Alike.word (λ p q. whole_alike b) Alike.nothing)

window_alike : Alike Same window window
window_alike = Alike.number (λ n. then_alike Same Same (λ (u : TextUnit). s.whole (F.Window n u)) (λ (u : TextUnit). s.whole (F.Window n u)) (λ a b e. Alike.whole (ap (F.Window n) e)) unit_alike) Alike.nothing

distance_alike : Alike Same distance distance
distance_alike =
    then_alike Same Same (λ (r : Range). and_then unit (λ u. s.whole (F.Distance r u))) (λ (r : Range). and_then unit (λ u. s.whole (F.Distance r u)))
    (λ a b e. then_alike Same Same (λ (u : TextUnit). s.whole (F.Distance a u)) (λ (u : TextUnit). s.whole (F.Distance b u)) (λ v w k. Alike.whole (λ i. F.Distance (e i) (k i))) unit_alike) range_alike

pub filters_alike : Alike Same filters filters
filters_alike =
    Alike.word (λ p q. whole_alike F.Ordered)
    (Alike.word (λ p q. window_alike)
    (Alike.word (λ p q. distance_alike)
    (Alike.word (λ p q. two_words_alike _ _ F.SameSentence F.SameParagraph)
    (Alike.word (λ p q. two_words_alike _ _ F.DifferentSentence F.DifferentParagraph)
    (Alike.word (λ p q. key_alike Same _ _ _ (whole_alike F.EntireContent))
    (Alike.word (λ p q. two_words_alike _ _ F.AtStart F.AtEnd) Alike.nothing))))))

-- options, but for their places
abbrev pub SameOption : PlacedOption → PlacedOption → Type 0
SameOption a b = a.option ≡ b.option

sensitivity_alike : (p q : ℕ) (x y : MatchOption) → Alike SameOption (sensitivity p x y) (sensitivity q x y)
sensitivity_alike p q x y = Alike.word (λ v w. Alike.whole refl) (Alike.word (λ v w. Alike.whole refl) Alike.nothing)

off_alike : (p q : ℕ) → Alike SameOption (turned_off p) (turned_off q)
off_alike p q =
    Alike.word (λ v w. Alike.whole refl) (Alike.word (λ v w. Alike.whole refl) (Alike.word (λ v w. Alike.whole refl)
    (Alike.word (λ v w. key_alike SameOption _ _ _ (Alike.whole refl)) Alike.nothing)))

pub option_alike : (p q : ℕ) → Alike SameOption (plain_option p) (plain_option q)
option_alike p q =
    Alike.word (λ v w. sensitivity_alike p q _ _)
    (Alike.word (λ v w. Alike.whole refl)
    (Alike.word (λ v w. Alike.whole refl)
    (Alike.word (λ v w. sensitivity_alike p q _ _)
    (Alike.word (λ v w. Alike.whole refl)
    (Alike.word (λ v w. Alike.whole refl)
    (Alike.word (λ v w. Alike.text (λ b c t. Alike.whole refl) Alike.nothing)
    (Alike.word (λ v w. off_alike p q) Alike.nothing)))))))
