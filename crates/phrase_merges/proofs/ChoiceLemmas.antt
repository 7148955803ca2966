-- Choices of one element of each list: what each of them passes, and what some of them does.
use Rattle.std.proofs.Common.{◌≡◌, refl, sym, ap, ◌∙◌, ◌<◌, Bool, true, ◌&&◌, ◌||◌, List, [], ◌∷◌, map, filter, cond, length, arith, inl, inr}
use Rattle.std.specs.Prelude.{nat_lt}
use Rattle.std.specs.List.{list_any, list_all}
use Rattle.std.proofs.Math.Bool.{and_assoc}
use Rattle.std.proofs.lemmas.Bool.{and_from, and_parts, cases_Bool, or_cases, or_left, or_right, lt-ltb}
use Rattle.all_matches.proofs.ListTests.{list_any-alike}
use Rattle.window_merges.specs.Choices.{some_choice}
use Rattle.window_merges.proofs.ChoiceTests.{choice_same}
use Rattle.window_merges.proofs.OrderLemmas.{choice_of_and}

module _ {A : Type 0} where
  -- an element that passes a test passes another, where it passes a third as all of them do
  pub any_with : (good p q : A → Bool) (xs : List A) → list_all good xs ≡ true → ((x : A) → good x ≡ true → p x ≡ true → q x ≡ true) → list_any p xs ≡ true → list_any q xs ≡ true
  any_with good p q [] h follows e = e
  any_with good p q (x ∷ xs) h follows e =
      let parts = and_parts (good x) (list_all good xs) h in
      elim (or_cases (p x) (list_any p xs) e) [
        | inl here ↦ or_left (q x) (list_any q xs) (follows x parts.0 here)
        | inr later ↦ or_right (q x) (list_any q xs) (any_with good p q xs parts.1 follows later)
      ]

  pub all_with : (p q : A → Bool) (xs : List A) → ((x : A) → p x ≡ true → q x ≡ true) → list_all p xs ≡ true → list_all q xs ≡ true
  all_with p q [] follows e = refl
  all_with p q (x ∷ xs) follows e =
      let parts = and_parts (p x) (list_all p xs) e in
      and_from (q x) (list_all q xs) (follows x parts.0) (all_with p q xs follows parts.1)

  pub all_sure : (p : A → Bool) (xs : List A) → ((x : A) → p x ≡ true) → list_all p xs ≡ true
  all_sure p [] sure = refl
  all_sure p (x ∷ xs) sure = and_from (p x) (list_all p xs) (sure x) (all_sure p xs sure)

  pub all_both : (p q r : A → Bool) (xs : List A) → ((x : A) → p x ≡ true → q x ≡ true → r x ≡ true) → list_all p xs ≡ true → list_all q xs ≡ true → list_all r xs ≡ true
  all_both p q r [] follows a b = refl
  all_both p q r (x ∷ xs) follows a b =
      let first = and_parts (p x) (list_all p xs) a in
      let second = and_parts (q x) (list_all q xs) b in
      and_from (r x) (list_all r xs) (follows x first.0 second.0) (all_both p q r xs follows first.1 second.1)

  -- whether each choice passes a test
  abbrev pub each_choice : (List A → Bool) → List (List A) → Bool
  each_choice test [] = test []
  each_choice test (xs ∷ lists) = list_all (λ x. each_choice (λ chosen. test (x ∷ chosen)) lists) xs

  pub each_sure : (p : List A → Bool) (lists : List (List A)) → ((chosen : List A) → p chosen ≡ true) → each_choice p lists ≡ true
  each_sure p [] sure = sure []
  each_sure p (xs ∷ lists) sure =
      all_sure (λ x. each_choice (λ chosen. p (x ∷ chosen)) lists) xs (λ x. each_sure (λ chosen. p (x ∷ chosen)) lists (λ chosen. sure (x ∷ chosen)))

  pub each_with : (p q : List A → Bool) (lists : List (List A)) → ((chosen : List A) → p chosen ≡ true → q chosen ≡ true) → each_choice p lists ≡ true → each_choice q lists ≡ true
  each_with p q [] follows e = follows [] e
  each_with p q (xs ∷ lists) follows e =
      all_with (λ x. each_choice (λ chosen. p (x ∷ chosen)) lists) (λ x. each_choice (λ chosen. q (x ∷ chosen)) lists) xs
      (λ x. each_with (λ chosen. p (x ∷ chosen)) (λ chosen. q (x ∷ chosen)) lists (λ chosen. follows (x ∷ chosen))) e

  pub each_both : (p q : List A → Bool) (lists : List (List A)) → each_choice p lists ≡ true → each_choice q lists ≡ true → each_choice (λ chosen. p chosen && q chosen) lists ≡ true
  each_both p q [] a b = and_from (p []) (q []) a b
  each_both p q (xs ∷ lists) a b =
      all_both (λ x. each_choice (λ chosen. p (x ∷ chosen)) lists) (λ x. each_choice (λ chosen. q (x ∷ chosen)) lists)
      (λ x. each_choice (λ chosen. p (x ∷ chosen) && q (x ∷ chosen)) lists) xs
      (λ x. each_both (λ chosen. p (x ∷ chosen)) (λ chosen. q (x ∷ chosen)) lists) a b

  -- what all elements pass, all of a choice do
  pub each_all : (good : A → Bool) (lists : List (List A)) → list_all (list_all good) lists ≡ true → each_choice (list_all good) lists ≡ true
  each_all good [] h = refl
  each_all good (xs ∷ lists) h =
      let parts = and_parts (list_all good xs) (list_all (list_all good) lists) h in
      all_with good (λ x. each_choice (λ chosen. good x && list_all good chosen) lists) xs
      (λ x one. each_with (list_all good) (λ chosen. good x && list_all good chosen) lists (λ chosen all. and_from (good x) (list_all good chosen) one all) (each_all good lists parts.1))
      parts.0

  -- a choice has an element where there is a list
  pub each_there : (lists : List (List A)) → 0 < length lists → each_choice (λ chosen. nat_lt 0 (length chosen)) lists ≡ true
  each_there [] some = absurd (omega (arith, some))
  each_there (xs ∷ lists) some =
      all_sure (λ x. each_choice (λ chosen. nat_lt 0 (length (x ∷ chosen))) lists) xs
      (λ x. each_sure (λ chosen. nat_lt 0 (length (x ∷ chosen))) lists (λ chosen. lt-ltb 0 (length (x ∷ chosen)) (omega arith)))

  -- a choice that passes a test passes another, where each choice passes a third
  pub choice_with : (good p q : List A → Bool) (lists : List (List A)) → each_choice good lists ≡ true → ((chosen : List A) → good chosen ≡ true → p chosen ≡ true → q chosen ≡ true)
      → some_choice p lists ≡ true → some_choice q lists ≡ true
  choice_with good p q [] h follows e = follows [] h e
  choice_with good p q (xs ∷ lists) h follows e =
      any_with (λ x. each_choice (λ chosen. good (x ∷ chosen)) lists) (λ x. some_choice (λ chosen. p (x ∷ chosen)) lists) (λ x. some_choice (λ chosen. q (x ∷ chosen)) lists) xs h
      (λ x one. choice_with (λ chosen. good (x ∷ chosen)) (λ chosen. p (x ∷ chosen)) (λ chosen. q (x ∷ chosen)) lists one (λ chosen. follows (x ∷ chosen))) e

  -- ---- lists of which some elements are left out

  pub any_filter : (p q : A → Bool) (xs : List A) → list_any p (filter q xs) ≡ list_any (λ x. q x && p x) xs
  any_filter p q [] = refl
  any_filter p q (x ∷ xs) = elim (cases_Bool (q x)) [
    | inl e ↦ ap (λ b. list_any p (cond b (x ∷ filter q xs) (filter q xs))) e ∙ (λ i. p x || any_filter p q xs i) ∙ ap (λ b. (b && p x) || list_any (λ y. q y && p y) xs) (sym e)
    | inr e ↦ ap (λ b. list_any p (cond b (x ∷ filter q xs) (filter q xs))) e ∙ any_filter p q xs ∙ ap (λ b. (b && p x) || list_any (λ y. q y && p y) xs) (sym e)
  ]

  pub choice_filter : (p : List A → Bool) (q : A → Bool) (lists : List (List A)) → some_choice p (map (filter q) lists) ≡ some_choice (λ chosen. list_all q chosen && p chosen) lists
  choice_filter p q [] = refl
  choice_filter p q (xs ∷ lists) =
      any_filter (λ x. some_choice (λ chosen. p (x ∷ chosen)) (map (filter q) lists)) q xs
      ∙ list_any-alike (λ x. q x && some_choice (λ chosen. p (x ∷ chosen)) (map (filter q) lists)) (λ x. some_choice (λ chosen. (q x && list_all q chosen) && p (x ∷ chosen)) lists) xs
      (λ x. ap (λ b. q x && b) (choice_filter (λ chosen. p (x ∷ chosen)) q lists)
      ∙ sym (choice_of_and (q x) (λ chosen. list_all q chosen && p (x ∷ chosen)) lists)
      ∙ choice_same (λ chosen. q x && (list_all q chosen && p (x ∷ chosen))) (λ chosen. (q x && list_all q chosen) && p (x ∷ chosen)) lists
      (λ chosen. sym (and_assoc (q x) (list_all q chosen) (p (x ∷ chosen)))))

  pub filter_all : (q : A → Bool) (xs : List A) → list_all q xs ≡ true → filter q xs ≡ xs
  filter_all q [] h = refl
  filter_all q (x ∷ xs) h =
      let parts = and_parts (q x) (list_all q xs) h in
      ap (λ b. cond b (x ∷ filter q xs) (filter q xs)) parts.0 ∙ ap (λ ys. x ∷ ys) (filter_all q xs parts.1)

  pub all_filter : (q : A → Bool) (xs : List A) → list_all q (filter q xs) ≡ true
  all_filter q [] = refl
  all_filter q (x ∷ xs) = elim (cases_Bool (q x)) [
    | inl e ↦ ap (λ b. list_all q (cond b (x ∷ filter q xs) (filter q xs))) e ∙ and_from (q x) (list_all q (filter q xs)) e (all_filter q xs)
    | inr e ↦ ap (λ b. list_all q (cond b (x ∷ filter q xs) (filter q xs))) e ∙ all_filter q xs
  ]

  -- of what one test leaves, another that asks for more leaves what it leaves of all
  pub filter_more : (p q : A → Bool) → ((x : A) → q x ≡ true → p x ≡ true) → (xs : List A) → filter q (filter p xs) ≡ filter q xs
  filter_more p q asks [] = refl
  filter_more p q asks (x ∷ xs) = elim (cases_Bool (q x)) [
    | inl e ↦
        ap (λ b. filter q (cond b (x ∷ filter p xs) (filter p xs))) (asks x e)
        ∙ (λ i. cond (q x) (x ∷ filter_more p q asks xs i) (filter_more p q asks xs i))
    | inr e ↦ elim (cases_Bool (p x)) [
      | inl f ↦
          ap (λ b. filter q (cond b (x ∷ filter p xs) (filter p xs))) f
          ∙ (λ i. cond (q x) (x ∷ filter_more p q asks xs i) (filter_more p q asks xs i))
      | inr f ↦
          ap (λ b. filter q (cond b (x ∷ filter p xs) (filter p xs))) f
          ∙ filter_more p q asks xs
          ∙ ap (λ b. cond b (x ∷ filter q xs) (filter q xs)) (sym e)
    ]
  ]
