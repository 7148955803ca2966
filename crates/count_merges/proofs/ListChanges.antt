-- Lists whose elements are changed one after the other, and what is read off them.
use Rattle.std.proofs.Common.{◌≡◌, refl, sym, ap, ◌∙◌, ℕ, zero, suc, ◌+◌, ◌<◌, ◌≤◌, Bool, List, [], ◌∷◌, ◌++◌, map, length, get_or, set, take, drop, arith, length-set}
use Rattle.std.specs.List.{list_all, sum_by}
use Rattle.std.proofs.lemmas.List.{get_or-map, length-map, map-set}
use Rattle.std.proofs.lemmas.List.Folds.{list_all-map}
use Rattle.std.proofs.lemmas.List.Sums.{sum_by-cons}

-- ---- the first of some elements are changed

module _ {B : Type 0} (f : B → B) where
  abbrev pub changed : ℕ → List B → List B
  changed n xs = map f (take n xs) ++ drop n xs

  one_changed : (old : List B) (n : ℕ) (x : B) → n < length old → x ≡ get_or (changed n old) n x → set (changed n old) n (f x) ≡ changed (suc n) old
  one_changed [] n x h e = absurd (omega (arith, h))
  one_changed (z ∷ zs) zero x h e = λ i. f (e i) ∷ zs
  one_changed (z ∷ zs) (suc n) x h e = ap (λ xs. f z ∷ xs) (one_changed zs n x (omega (arith, h)) e)

  pub changed_on : (old : List B) (n : ℕ) (x : B) → n < length old → x ≡ get_or (changed n old) n x → set (changed n old) n (f x) ≡ changed (n + 1) old
  changed_on old n x h e = let next : suc n ≡ n + 1 = omega arith in one_changed old n x h e ∙ ap (λ k. changed k old) next

  pub all_changed : (old : List B) (n : ℕ) → length old ≤ n → changed n old ≡ map f old
  all_changed [] zero h = refl
  all_changed [] (suc n) h = refl
  all_changed (z ∷ zs) zero h = absurd (omega (arith, h))
  all_changed (z ∷ zs) (suc n) h = ap (λ xs. f z ∷ xs) (all_changed zs n (omega (arith, h)))

  pub changed_length : (old : List B) (n : ℕ) → length (changed n old) ≡ length old
  changed_length [] zero = refl
  changed_length [] (suc n) = refl
  changed_length (z ∷ zs) zero = refl
  changed_length (z ∷ zs) (suc n) = ap suc (changed_length zs n)

  pub goes_on : (old now : List B) (n : ℕ) (x y : B) → now ≡ changed n old → n < length now → x ≡ get_or now n x → y ≡ f x → set now n y ≡ changed (n + 1) old
  goes_on old now n x y is within read made =
      let long = ap length is ∙ changed_length old n in
      (λ i. set (is i) n (made i)) ∙ changed_on old n x (omega (arith, within, long)) (read ∙ ap (λ xs. get_or xs n x) is)

-- the same of a view of each element
pub record Changed {A B : Type 0} (view : A → B) (f : B → B) (old now : List A) (number : ℕ) : Type 0 where
  pub long : length now ≡ length old
  pub is : map view now ≡ changed f number (map view old)

module _ {A B : Type 0} (view : A → B) (f : B → B) where
  pub changes_on : (old now : List A) (number : ℕ) (x y : A) → Changed view f old now number → number < length now → x ≡ get_or now number x → view y ≡ f (view x)
      → Changed view f old (set now number y) (number + 1)
  changes_on old now number x y so_far within read made = record {
    long = length-set now number y ∙ so_far.long;
    is =
        map-set view now number y
        ∙ goes_on f (map view old) (map view now) number (view x) (view y) so_far.is (omega (arith, within, length-map now view))
        (ap view read ∙ sym (get_or-map view now number x (view x) within)) made;
  }

  pub changes_end : (old now : List A) (number : ℕ) → Changed view f old now number → length now ≤ number → map view now ≡ map f (map view old)
  changes_end old now number so_far h =
      let long = so_far.long in
      so_far.is ∙ all_changed f (map view old) number (omega (arith, h, long, length-map old view))

-- ---- what is read off a view of each element

pub map-map : {A B C : Type 0} (f : B → C) (g : A → B) (xs : List A) → map f (map g xs) ≡ map (λ x. f (g x)) xs
map-map f g [] = refl
map-map f g (x ∷ xs) = ap (λ ys. f (g x) ∷ ys) (map-map f g xs)

pub sum_by-map : {A B : Type 0} (f : B → ℕ) (g : A → B) (xs : List A) → sum_by f (map g xs) ≡ sum_by (λ x. f (g x)) xs
sum_by-map f g [] = refl
sum_by-map f g (x ∷ xs) = sum_by-cons f (g x) (map g xs) ∙ ap (λ n. f (g x) + n) (sum_by-map f g xs) ∙ sym (sum_by-cons (λ y. f (g y)) x xs)

module _ {A B : Type 0} (view : A → B) (f : B → B) (now old : List A) (is : map view now ≡ map f (map view old)) where
  pub map_through : {C : Type 0} (read : B → C) → map (λ a. read (view a)) now ≡ map (λ a. read (f (view a))) old
  map_through read =
      sym (map-map read view now)
      ∙ ap (map read) is
      ∙ map-map read f (map view old)
      ∙ map-map (λ b. read (f b)) view old

  pub all_through : (test : B → Bool) → list_all (λ a. test (view a)) now ≡ list_all (λ a. test (f (view a))) old
  all_through test =
      sym (list_all-map test view now)
      ∙ ap (list_all test) is
      ∙ list_all-map test f (map view old)
      ∙ list_all-map (λ b. test (f b)) view old

  pub sum_through : (much : B → ℕ) → sum_by (λ a. much (view a)) now ≡ sum_by (λ a. much (f (view a))) old
  sum_through much =
      sym (sum_by-map much view now)
      ∙ ap (sum_by much) is
      ∙ sum_by-map much f (map view old)
      ∙ sum_by-map (λ b. much (f b)) view old
