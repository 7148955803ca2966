-- Loops that change one element of a list after the other.
use Rattle.std.proofs.Common.{◌≡◌, refl, sym, ap, ◌∙◌, ℕ, zero, suc, ◌+◌, ◌<◌, ◌≤◌, List, [], ◌∷◌, map, length, get_or, set, arith}
use Rattle.std.proofs.Math.ListN.{get_or-map}
use Rattle.std.proofs.lemmas.List.{length-map, map-set}

module _ {S : Type 0} (f : S → S) where
  -- a list of which so many elements are changed
  abbrev pub changed : ℕ → List S → List S
  changed zero ss = ss
  changed (suc n) [] = []
  changed (suc n) (s ∷ ss) = f s ∷ changed n ss

  unchanged : (n : ℕ) (ss : List S) (d : S) → get_or (changed n ss) n d ≡ get_or ss n d
  unchanged zero ss d = refl
  unchanged (suc n) [] d = refl
  unchanged (suc n) (s ∷ ss) d = unchanged n ss d

  one_more : (n : ℕ) (ss : List S) (d : S) → n < length ss → set (changed n ss) n (f (get_or ss n d)) ≡ changed (suc n) ss
  one_more n [] d h = absurd (omega (arith, h))
  one_more zero (s ∷ ss) d h = refl
  one_more (suc n) (s ∷ ss) d h = ap (λ rest. f s ∷ rest) (one_more n ss d (omega (arith, h)))

  pub changed_all : (n : ℕ) (ss : List S) → length ss ≤ n → changed n ss ≡ map f ss
  changed_all n [] h = none n
    where
      none : (m : ℕ) → changed m [] ≡ []
      none zero = refl
      none (suc m) = refl
  changed_all zero (s ∷ ss) h = absurd (omega (arith, h))
  changed_all (suc n) (s ∷ ss) h = ap (λ rest. f s ∷ rest) (changed_all n ss (omega (arith, h)))

  long : (n : ℕ) (ss : List S) → length (changed n ss) ≡ length ss
  long zero ss = refl
  long (suc n) [] = refl
  long (suc n) (s ∷ ss) = ap suc (long n ss)

  module _ {A : Type 0} (view : A → S) where
    -- what the loop keeps of the list and of the steps
    pub record Changing (old now : List A) (number start end : ℕ) : Type 0 where
      pub stands : map view now ≡ changed number (map view old)
      pub grown : start ≤ end

    pub changing_count : (old now : List A) (number start end : ℕ) → Changing old now number start end → length now ≡ length old
    changing_count old now number start end so_far =
        sym (length-map now view) ∙ ap length so_far.stands ∙ long number (map view old) ∙ length-map old view

    -- the element at hand is as it was
    pub changing_at : (old now : List A) (number start end : ℕ) (x : A) → Changing old now number start end → x ≡ get_or now number x
        → view x ≡ get_or (map view old) number (view x)
    changing_at old now number start end x so_far read =
        ap view read ∙ sym (get_or-map view now number x) ∙ ap (λ (ss : List S). get_or ss number (view x)) so_far.stands ∙ unchanged number (map view old) (view x)

    pub changing_on : (old now : List A) (number start middle end : ℕ) (x y : A) → Changing old now number start middle → number < length now → x ≡ get_or now number x
        → view y ≡ f (view x) → middle ≤ end → Changing old (set now number y) (number + 1) start end
    changing_on old now number start middle end x y so_far h read is more = record {
      stands =
          map-set view now number y
          ∙ (λ i. set (so_far.stands i) number (is i))
          ∙ ap (λ (s : S). set (changed number (map view old)) number (f s)) (changing_at old now number start middle x so_far read)
          ∙ one_more number (map view old) (view x) (omega (arith, h, changing_count old now number start middle so_far, length-map old view))
          ∙ ap (λ n. changed n (map view old)) (next_number number);
      grown = omega (arith, so_far.grown, more);
    }
      where
        next_number : (n : ℕ) → suc n ≡ n + 1
        next_number n = omega arith

    pub changing_ends : (old now : List A) (number start end : ℕ) → Changing old now number start end → length now ≤ number → map view now ≡ map f (map view old)
    changing_ends old now number start end so_far h =
        so_far.stands ∙ changed_all number (map view old) (omega (arith, h, changing_count old now number start end so_far, length-map old view))

    -- and the changed one stands in its place among the changed
    pub changed_at : (old now : List A) (number start end : ℕ) (x y : A) → Changing old now number start end → x ≡ get_or now number x → view y ≡ f (view x)
        → view y ≡ get_or (map f (map view old)) number (view y)
    changed_at old now number start end x y so_far read is =
        is
        ∙ ap f (changing_at old now number start end x so_far read)
        ∙ sym (get_or-map f (map view old) number (view x))
        ∙ ap (λ s. get_or (map f (map view old)) number s) (sym is)
