-- What moves leave: of one source after another, and of a list after one of its elements.
use Rattle.std.proofs.Common.{◌≡◌, ℕ, zero, suc, ◌<◌, Bool, true, ◌&&◌, ◌||◌, List, [], ◌∷◌, map, length, get_or, set, refl, sym, ap, ◌∙◌, arith}
use Rattle.std.specs.List.{list_any, list_all}
use Rattle.std.proofs.lemmas.Bool.{and_parts}
use Rattle.std.proofs.lemmas.List.Sums.{sum_by-set}
use Rattle.place_merges.specs.steps.Searching.{Shown, Moved, SameFrom, shown_all}

module _ {L : Type 0} where
  pub unmoved : (s : Shown L) (n : ℕ) → Moved s s n n
  unmoved s n = record { lists = refl; plain = refl; counted = λ h. omega arith; grown = omega arith }

  pub moved_on : (a b c : Shown L) (i j k : ℕ) → Moved a b i j → Moved b c j k → Moved a c i k
  moved_on a b c i j k first second = record {
    lists = second.lists ∙ first.lists;
    plain = second.plain ∙ first.plain;
    counted = λ h.
        let one = first.counted h in
        let two = second.counted (first.plain ∙ h) in
        omega (arith, one, two);
    grown = omega (arith, first.grown, second.grown);
  }

pub same_on : (place : ℕ) (a b c : ℕ → Bool) → SameFrom place b a → SameFrom place c b → SameFrom place c a
same_on place a b c first second = record { same = λ other h. second.same other h ∙ first.same other h }

-- a list with one element set, by a function that has the same value there
module _ {A B : Type 0} (f : A → B) where
  pub map_set : (xs : List A) (i : ℕ) (x y : A) → i < length xs → x ≡ get_or xs i x → f y ≡ f x → map f (set xs i y) ≡ map f xs
  map_set [] i x y h e same = absurd (omega arith)
  map_set (z ∷ xs) zero x y h e same = λ j. (same ∙ ap f e) j ∷ map f xs
  map_set (z ∷ xs) (suc i) x y h e same = λ j. f z ∷ map_set xs i x y (omega arith) e same j

module _ {A : Type 0} (p : A → Bool) where
  pub any_set : (xs : List A) (i : ℕ) (x y : A) → i < length xs → x ≡ get_or xs i x → p y ≡ p x → list_any p (set xs i y) ≡ list_any p xs
  any_set [] i x y h e same = absurd (omega arith)
  any_set (z ∷ xs) zero x y h e same = λ j. (same ∙ ap p e) j || list_any p xs
  any_set (z ∷ xs) (suc i) x y h e same = λ j. p z || any_set xs i x y (omega arith) e same j

  pub all_set : (xs : List A) (i : ℕ) (x y : A) → i < length xs → x ≡ get_or xs i x → p y ≡ p x → list_all p (set xs i y) ≡ list_all p xs
  all_set [] i x y h e same = absurd (omega arith)
  all_set (z ∷ xs) zero x y h e same = λ j. (same ∙ ap p e) j && list_all p xs
  all_set (z ∷ xs) (suc i) x y h e same = λ j. p z && all_set xs i x y (omega arith) e same j

  pub all_at : (xs : List A) (i : ℕ) (x : A) → i < length xs → x ≡ get_or xs i x → list_all p xs ≡ true → p x ≡ true
  all_at [] i x h e all = absurd (omega arith)
  all_at (z ∷ xs) zero x h e all = ap p e ∙ (and_parts (p z) (list_all p xs) all).0
  all_at (z ∷ xs) (suc i) x h e all = all_at xs i x (omega arith) e (and_parts (p z) (list_all p xs) all).1

  pub any_map : {B : Type 0} (f : B → A) (ys : List B) → list_any p (map f ys) ≡ list_any (λ y. p (f y)) ys
  any_map f [] = refl
  any_map f (y ∷ ys) = λ j. p (f y) || any_map f ys j

-- one element has moved
pub moved_in : {A L : Type 0} (shown : A → Shown L) (xs : List A) (i : ℕ) (x y : A) (start end : ℕ) → i < length xs → x ≡ get_or xs i x
    → Moved (shown x) (shown y) start end → Moved (shown_all shown xs) (shown_all shown (set xs i y)) start end
moved_in shown xs i x y start end h e moved = record {
  lists = map_set (λ a. (shown a).lists) xs i x y h e moved.lists;
  plain = all_set (λ a. (shown a).plain) xs i x y h e moved.plain;
  counted = λ all.
      let step = moved.counted (all_at (λ a. (shown a).plain) xs i x h e all) in
      let sum = sum_by-set (λ a. (shown a).left) xs i y x h in
      let here : (shown (get_or xs i x)).left ≡ (shown x).left = ap (λ a. (shown a).left) (sym e) in
      omega (arith, step, sum, here);
  grown = moved.grown;
}
