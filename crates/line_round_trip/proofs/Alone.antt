-- Of the elements of a document one alone has the place of an element.
use Rattle.std.proofs.Common.{◌≡◌, ◌∙◌, sym, ap, subst, refl, ℕ, suc, zero, ◌<◌, Bool, true, false, true≢false, cond, ◌||◌, List, [], ◌∷◌, length, get_or, filter, AllPairs, Contains, arith}
use Rattle.std.proofs.lemmas.Slice.Eq.{bytes_eq-Decides}
use Rattle.path_meaning.specs.Elements.{Element, is_in, is_same, union}
use Rattle.path_meaning.specs.Order.{precedes, Before}

module _ (irreflexive : (place : List ℕ) → precedes place place ≡ false) where
  differs : (x y : Element) → Before x y → is_same x y ≡ false
  differs x y before = by (is_same x y) refl
    where
      by : (b : Bool) → is_same x y ≡ b → is_same x y ≡ false
      by true is =
          let same : x.place ≡ y.place = (bytes_eq-Decides x.place y.place).0 is in
          absurd (true≢false (sym before ∙ ap (precedes x.place) (sym same) ∙ irreflexive x.place))
      by false is = is

  differs-back : (x y : Element) → Before x y → is_same y x ≡ false
  differs-back x y before = by (is_same y x) refl
    where
      by : (b : Bool) → is_same y x ≡ b → is_same y x ≡ false
      by true is =
          let same : y.place ≡ x.place = (bytes_eq-Decides y.place x.place).0 is in
          absurd (true≢false (sym before ∙ ap (precedes x.place) same ∙ irreflexive x.place))
      by false is = is

  itself : (e : Element) → is_same e e ≡ true
  itself e = (bytes_eq-Decides e.place e.place).1 refl

  abbrev only : Element → Element → Bool
  only e x = is_in ((e ∷ []) ∷ []) x

  only-fails : (e x : Element) → is_same x e ≡ false → only e x ≡ false
  only-fails e x h = ap (λ b. (b || false) || false) h

  none : (e : Element) (xs : List Element) → ((k : ℕ) (d : Element) → k < length xs → only e (get_or xs k d) ≡ false) → filter (only e) xs ≡ []
  none e [] h = refl
  none e (x ∷ xs) h = ap (λ b. cond b (x ∷ filter (only e) xs) (filter (only e) xs)) (h 0 x (omega arith)) ∙ none e xs (λ k d within. h (suc k) d (omega (arith, within)))

  one : (e : Element) (xs : List Element) → AllPairs Before xs → (k : ℕ) → k < length xs → get_or xs k e ≡ e → filter (only e) xs ≡ e ∷ []
  one e [] pairs k within is = absurd (omega (arith, within))
  one e (x ∷ xs) pairs zero within is =
      ap (λ b. cond b (x ∷ filter (only e) xs) (filter (only e) xs)) (ap (only e) is ∙ ap (λ b. (b || false) || false) (itself e))
      ∙ ap (λ rest. x ∷ rest) (none e xs (λ k d inside. only-fails e (get_or xs k d) (differs-back e (get_or xs k d)
      (subst (λ y. Before y (get_or xs k d)) is (pairs zero (suc k) d (omega arith) (omega (arith, inside)))))))
      ∙ ap (λ y. y ∷ []) is
  one e (x ∷ xs) pairs (suc k) within is =
      let before : Before x e = subst (Before x) is (pairs zero (suc k) e (omega arith) (omega (arith, within))) in
      ap (λ b. cond b (x ∷ filter (only e) xs) (filter (only e) xs)) (only-fails e x (differs x e before))
      ∙ one e xs (λ i j d less inside. pairs (suc i) (suc j) d (omega (arith, less)) (omega (arith, inside))) k (omega (arith, within)) is

  -- one list of one element, in document order
  pub union-one : (all : List Element) → AllPairs Before all → (e : Element) → Contains all e → union all ((e ∷ []) ∷ []) ≡ e ∷ []
  union-one all pairs e there = one e all pairs there.0 there.1 there.2

-- a list of which each item passes a test is what the test leaves
pub filter-all : (p : Element → Bool) (xs : List Element) → ((x : Element) → p x ≡ true) → filter p xs ≡ xs
filter-all p [] h = refl
filter-all p (x ∷ xs) h = ap (λ b. cond b (x ∷ filter p xs) (filter p xs)) (h x) ∙ ap (λ rest. x ∷ rest) (filter-all p xs h)
