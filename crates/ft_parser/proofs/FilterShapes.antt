-- What holds of every end of a shape, and of those that a first symbol leaves.
use Rattle.std.proofs.Common.{◌≡◌, ℕ, Bool, true, false, ◌&&◌, cond, List, Option, Some, None, refl, sym, subst}
use Rattle.std.specs.Prelude.{not, codes}
use Rattle.ft_base.specs.declared.filter.Filter.{Filter}
use Rattle.ft_base.specs.declared.filter.Filter.TheVariants as F
use Rattle.selection_grammar.specs.declared.symbol.Symbol.{Symbol}
use Rattle.selection_grammar.specs.declared.symbol.Symbol.TheVariants as S
use Rattle.selection_grammar.specs.declared.symbol.Placed.{Placed}
use Rattle.selection_grammar.specs.Keywords.{window, distance, scope, key, side, filters_without_at}
use Rattle.selection_grammar.specs.Shapes.{Shape, whole, nothing, word, number, text, mark, Mark, open_parenthesis, close_parenthesis, open_brace, close_brace, comma, is_word, is_mark, number_of, text_of, number_leads, text_leads, step, or_else, and_then}
use Rattle.selection_grammar.proofs.Words.{word_is, number_is, text_is, mark_is, symbol_of}
use Rattle.ft_parser.specs.Limits.{is_filter_word}

abbrev pub AllEnds : {A : Type 0} → (A → Type 0) → Shape A → Type 0
AllEnds P (whole a) = P a
AllEnds P nothing = Unit {0}
AllEnds P (word key to rest) = ((i : ℕ) → AllEnds P (to i)) × AllEnds P rest
AllEnds P (number to rest) = ((n : ℕ) → AllEnds P (to n)) × AllEnds P rest
AllEnds P (text to rest) = ((i : ℕ) (s : List ℕ) → AllEnds P (to i s)) × AllEnds P rest
AllEnds P (mark m to rest) = AllEnds P to × AllEnds P rest

pub all_and_then : {A B : Type 0} (P : B → Type 0) (t : Shape A) (k : A → Shape B) → ((a : A) → AllEnds P (k a)) → AllEnds P (and_then t k)
all_and_then P (whole a) k h = h a
all_and_then P nothing k h = tt
all_and_then P (word key to rest) k h = ((λ i. all_and_then P (to i) k h), all_and_then P rest k h)
all_and_then P (number to rest) k h = ((λ n. all_and_then P (to n) k h), all_and_then P rest k h)
all_and_then P (text to rest) k h = ((λ i s. all_and_then P (to i s) k h), all_and_then P rest k h)
all_and_then P (mark m to rest) k h = (all_and_then P to k h, all_and_then P rest k h)

by_test : {A : Type 0} (b : Bool) (x y : Option (Shape A)) (r : Shape A) (C : Type 0) → (b ≡ true → x ≡ Some r → C) → (y ≡ Some r → C) → cond b x y ≡ Some r → C
by_test true x y r C there past e = there refl e
by_test false x y r C there past e = past e

by_number : {A : Type 0} (o : Option ℕ) (to : ℕ → Shape A) (y : Option (Shape A)) (r : Shape A) (C : Type 0) → ((n : ℕ) → o ≡ Some n → to n ≡ r → C) → (y ≡ Some r → C) → number_leads to y o ≡ Some r → C
by_number None to y r C there past e = past e
by_number (Some n) to y r C there past e = there n refl (let same : to n ≡ r = cc in same)

by_text : {A : Type 0} (o : Option (List ℕ)) (to : List ℕ → Shape A) (y : Option (Shape A)) (r : Shape A) (C : Type 0) → ((s : List ℕ) → o ≡ Some s → to s ≡ r → C) → (y ≡ Some r → C) → text_leads to y o ≡ Some r → C
by_text None to y r C there past e = past e
by_text (Some n) to y r C there past e = there n refl (let same : to n ≡ r = cc in same)

pub all_step : {A : Type 0} (P : A → Type 0) (t r : Shape A) (p : Placed) → AllEnds P t → step t p ≡ Some r → AllEnds P r
all_step P (whole a) r p h e = cc
all_step P nothing r p h e = cc
all_step P (word key to rest) r p h e = by_test (is_word key p.symbol) (Some (to p.from)) (step rest p) r (AllEnds P r) (λ k l. let same : to p.from ≡ r = cc in subst (AllEnds P) same (h.0 p.from)) (λ k. all_step P rest r p h.1 k) e
all_step P (number to rest) r p h e = by_number (number_of p.symbol) to (step rest p) r (AllEnds P r) (λ n k l. subst (AllEnds P) l (h.0 n)) (λ k. all_step P rest r p h.1 k) e
all_step P (text to rest) r p h e = by_text (text_of p.symbol) (to p.from) (step rest p) r (AllEnds P r) (λ n k l. subst (AllEnds P) l (h.0 p.from n)) (λ k. all_step P rest r p h.1 k) e
all_step P (mark m to rest) r p h e = by_test (is_mark m p.symbol) (Some to) (step rest p) r (AllEnds P r) (λ k l. let same : to ≡ r = cc in subst (AllEnds P) same h.0) (λ k. all_step P rest r p h.1 k) e

-- The ends after a first symbol have a value: one after a keyword of a filter, the other after other symbols.
abbrev pub After : {A : Type 0} → (A → Bool) → Bool → Bool → Shape A → Type 0
After value old full t = AllEnds (λ a. value a ≡ (old && not full)) t

abbrev pub First : {A : Type 0} → (A → Bool) → Bool → Bool → Shape A → Type 0
First value old full (whole a) = Unit {0}
First value old full nothing = Unit {0}
First value old full (word key to rest) = ((i : ℕ) → After value old (is_filter_word (S.Name key) && full) (to i)) × First value old full rest
First value old full (number to rest) = ((n : ℕ) → After value old false (to n)) × First value old full rest
First value old full (text to rest) = ((i : ℕ) (s : List ℕ) → After value old false (to i s)) × First value old full rest
First value old full (mark m to rest) = After value old false to × First value old full rest

pub first_or_else : {A : Type 0} (value : A → Bool) (old full : Bool) (t r : Shape A) → First value old full t → First value old full r → First value old full (or_else t r)
first_or_else value old full (whole a) r h k = tt
first_or_else value old full nothing r h k = k
first_or_else value old full (word key to rest) r h k = (h.0, first_or_else value old full rest r h.1 k)
first_or_else value old full (number to rest) r h k = (h.0, first_or_else value old full rest r h.1 k)
first_or_else value old full (text to rest) r h k = (h.0, first_or_else value old full rest r h.1 k)
first_or_else value old full (mark m to rest) r h k = (h.0, first_or_else value old full rest r h.1 k)

no_filter_mark : (m : Mark) → is_filter_word (symbol_of m) ≡ false
no_filter_mark open_parenthesis = refl
no_filter_mark close_parenthesis = refl
no_filter_mark open_brace = refl
no_filter_mark close_brace = refl
no_filter_mark comma = refl

same_after : {A : Type 0} (value : A → Bool) (old full : Bool) (s s' : Symbol) (t r : Shape A) → s ≡ s' → t ≡ r → After value old (is_filter_word s' && full) t → After value old (is_filter_word s && full) r
same_after value old full s s' t r e k h = subst (After value old (is_filter_word s && full)) k (subst (λ z. After value old (is_filter_word z && full) t) (sym e) h)

pub first_step : {A : Type 0} (value : A → Bool) (old full : Bool) (t r : Shape A) (p : Placed) → First value old full t → step t p ≡ Some r → After value old (is_filter_word p.symbol && full) r
first_step value old full (whole a) r p h e = cc
first_step value old full nothing r p h e = cc
first_step value old full (word key to rest) r p h e = by_test (is_word key p.symbol) (Some (to p.from)) (step rest p) r _ (λ k l. let same : to p.from ≡ r = cc in same_after value old full p.symbol (S.Name key) (to p.from) r (word_is key p.symbol k) same (h.0 p.from)) (λ k. first_step value old full rest r p h.1 k) e
first_step value old full (number to rest) r p h e = by_number (number_of p.symbol) to (step rest p) r _ (λ n k l. same_after value old full p.symbol (S.Number n) (to n) r (number_is p.symbol n k) l (h.0 n)) (λ k. first_step value old full rest r p h.1 k) e
first_step value old full (text to rest) r p h e = by_text (text_of p.symbol) (to p.from) (step rest p) r _ (λ s k l. same_after value old full p.symbol (S.Text s) (to p.from s) r (text_is p.symbol s k) l (h.0 p.from s)) (λ k. first_step value old full rest r p h.1 k) e
first_step value old full (mark m to rest) r p h e = by_test (is_mark m p.symbol) (Some to) (step rest p) r _
    (λ k l. let same : to ≡ r = cc in same_after value old full p.symbol (symbol_of m) to r (mark_is m p.symbol k) same (subst (λ b. After value old (b && full) to) (sym (no_filter_mark m)) h.0)) (λ k. first_step value old full rest r p h.1 k) e

-- filters
abbrev pub whole_of : {A : Type 0} → (Filter → A) → Filter → Shape A
whole_of k f = whole (k f)

pub first_filters : {A : Type 0} (value : A → Bool) (old full : Bool) (k : Filter → A) (rest : Shape A) → ((f : Filter) → value (k f) ≡ (old && not full)) → First value old full rest → First value old full (or_else (and_then filters_without_at (whole_of k)) rest)
first_filters {A = A} value old full k rest e h = ((λ i. e F.Ordered), ((λ i. each window), ((λ i. each distance), ((λ i. each (scope F.SameSentence F.SameParagraph)), ((λ i. each (scope F.DifferentSentence F.DifferentParagraph)), ((λ i. each (key (codes "content") (whole F.EntireContent))), h))))))
  where
    each : (t : Shape Filter) → After value old full (and_then t (whole_of k))
    each t = all_and_then (λ a. value a ≡ (old && not full)) t (whole_of k) e

pub first_side : {A : Type 0} (value : A → Bool) (old full : Bool) (k : Filter → A) (rest : Shape A) → ((f : Filter) → value (k f) ≡ (old && not full)) → First value old full rest → First value old full (word (codes "at") (λ i. and_then side (whole_of k)) rest)
first_side value old full k rest e h = ((λ i. all_and_then (λ a. value a ≡ (old && not full)) side (whole_of k) e), h)
