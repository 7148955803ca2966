-- The part of two joined lists from one number up to another.
use Rattle.std.proofs.Common.{◌≡◌, ℕ, ◌+◌, ◌-◌, ◌<◌, ◌≤◌, List, [], ◌∷◌, ◌++◌, length, take, drop, get_or, ap, sym, subst, ◌∙◌, arith, inl, inr, length-drop, drop_of_length-le}
use Rattle.std.specs.Prelude.{slice_range}
use Rattle.std.proofs.Math.Seq.{drop-append-add, drop-append-le, take-append-add, take-append-le, take-nil}
use Rattle.std.proofs.lemmas.Bool.{cases_lt}
use Rattle.std.proofs.lemmas.List.{append-nil, take-append-drop, take_all, take_more}
use Rattle.std.proofs.lemmas.List.Concat.{flat_map-append}
use Rattle.index_document.specs.Terms.{Leaf, words_of}

module _ (xs ys : List ℕ) (a b : ℕ) where
  within : a ≤ length xs → length xs ≤ b → slice_range (xs ++ ys) a b ≡ slice_range xs a b ++ slice_range ys (a - length xs) (b - length xs)
  within first last =
      let left = length-drop a xs in
      let many : b - a ≡ length (drop a xs) + (b - length xs) = omega (arith, left, first, last) in
      let whole = take_all (b - a) (drop a xs) (omega (arith, left, last)) in
      let rest : slice_range ys (a - length xs) (b - length xs) ≡ take (b - length xs) ys =
      let from : a - length xs ≡ 0 = omega (arith, first) in
      let size : (b - length xs) - 0 ≡ b - length xs = omega arith in
      ap (λ n. slice_range ys n (b - length xs)) from ∙ ap (λ n. take n ys) size in
      ap (take (b - a)) (drop-append-le a xs ys first)
      ∙ ap (λ n. take n (drop a xs ++ ys)) many
      ∙ take-append-add (drop a xs) ys (b - length xs)
      ∙ (λ i. sym whole i ++ sym rest i)

  past : length xs ≤ a → slice_range (xs ++ ys) a b ≡ slice_range xs a b ++ slice_range ys (a - length xs) (b - length xs)
  past first =
      let at : a ≡ length xs + (a - length xs) = omega (arith, first) in
      let many : b - a ≡ (b - length xs) - (a - length xs) = omega (arith, first) in
      let none : slice_range xs a b ≡ [] = ap (take (b - a)) (drop_of_length-le xs first) ∙ take-nil (b - a) in
      (λ i. take (many i) (drop (at i) (xs ++ ys)))
      ∙ ap (take ((b - length xs) - (a - length xs))) (drop-append-add xs ys (a - length xs))
      ∙ ap (λ zs. zs ++ slice_range ys (a - length xs) (b - length xs)) (sym none)

  pub range-append : length xs ≤ b → slice_range (xs ++ ys) a b ≡ slice_range xs a b ++ slice_range ys (a - length xs) (b - length xs)
  range-append last = elim (cases_lt a (length xs)) [
    | inl less ↦ within (omega (arith, less)) last
    | inr more ↦ past (omega (arith, more))
  ]

  -- one that ends in the first list
  pub range-prefix : b ≤ length xs → slice_range (xs ++ ys) a b ≡ slice_range xs a b
  range-prefix last = elim (cases_lt a (length xs)) [
    | inl less ↦
        let left = length-drop a xs in
        ap (take (b - a)) (drop-append-le a xs ys (omega (arith, less))) ∙ take-append-le (b - a) (drop a xs) ys (omega (arith, left, last, less))
    | inr more ↦
        let none : b - a ≡ 0 = omega (arith, more, last) in
        ap (λ n. take n (drop a (xs ++ ys))) none ∙ ap (λ n. take n (drop a xs)) (sym none)
  ]

-- the words of leaves up to a number, and of one leaf more
module _ (leaves : List Leaf) (number from to : ℕ) where
  abbrev words : List ℕ
  words = words_of (take number leaves)

  pub range-of-leaves : to ≤ length words → slice_range words from to ≡ slice_range (words_of leaves) from to
  range-of-leaves last =
      sym (range-prefix words (words_of (drop number leaves)) from to last)
      ∙ ap (λ ws. slice_range ws from to) (sym (flat_map-append (λ (leaf : Leaf). leaf.words) (take number leaves) (drop number leaves))
      ∙ ap words_of (take-append-drop number leaves))

  pub range-of-one-more : (leaf : Leaf) → number < length leaves → leaf ≡ get_or leaves number leaf → length words ≤ to
      → slice_range (words_of (take (number + 1) leaves)) from to ≡ slice_range words from to ++ slice_range leaf.words (from - length words) (to - length words)
  range-of-one-more leaf there is last =
      ap (λ ls. slice_range (words_of ls) from to) (take_more leaves number leaf there ∙ ap (λ (l : Leaf). take number leaves ++ l ∷ []) (sym is))
      ∙ ap (λ ws. slice_range ws from to) (flat_map-append (λ (l : Leaf). l.words) (take number leaves) (leaf ∷ []) ∙ ap (λ ws. words ++ ws) (append-nil leaf.words))
      ∙ range-append words leaf.words from to last
