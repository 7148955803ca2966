-- Lists whose elements are apart in pairs, and their parts.
use Rattle.std.proofs.Common.{suc, List, [], ◌∷◌, ◌++◌, map, get_or, subst, arith}
use Rattle.std.specs.List.{All, AllPairs}
use Rattle.std.proofs.lemmas.List.{get_or-map, length-map}
use Rattle.std.proofs.lemmas.List.Elements.{All-nil, All-cons, All-head, All-tail, All-append}
use Rattle.std.proofs.lemmas.List.Kept.{AllPairs-cons}
use Rattle.ordered_tree.proofs.SlotsLemmas.{All-left, All-right}

module _ {X : Type 0} (R : X → X → Type 0) where
  pub AllPairs-nil : AllPairs R []
  AllPairs-nil i j d lt more = absurd (omega (arith, more))

  pub AllPairs-head : (x : X) (xs : List X) → AllPairs R (x ∷ xs) → All (R x) xs
  AllPairs-head x xs h k d lt = h 0 (suc k) d (omega arith) (omega (arith, lt))

  pub AllPairs-tail : (x : X) (xs : List X) → AllPairs R (x ∷ xs) → AllPairs R xs
  AllPairs-tail x xs h i j d lt more = h (suc i) (suc j) d (omega (arith, lt)) (omega (arith, more))

  pub AllPairs-left : (xs ys : List X) → AllPairs R (xs ++ ys) → AllPairs R xs
  AllPairs-left [] ys h = AllPairs-nil
  AllPairs-left (x ∷ xs) ys h =
      AllPairs-cons R x xs (All-left (R x) xs ys (AllPairs-head x (xs ++ ys) h)) (AllPairs-left xs ys (AllPairs-tail x (xs ++ ys) h))

  pub AllPairs-right : (xs ys : List X) → AllPairs R (xs ++ ys) → AllPairs R ys
  AllPairs-right [] ys h = h
  AllPairs-right (x ∷ xs) ys h = AllPairs-right xs ys (AllPairs-tail x (xs ++ ys) h)

  pub AllPairs-between : (xs ys : List X) → AllPairs R (xs ++ ys) → All (λ x. All (R x) ys) xs
  AllPairs-between [] ys h = All-nil (λ x. All (R x) ys)
  AllPairs-between (x ∷ xs) ys h =
      All-cons (λ z. All (R z) ys) x xs (All-right (R x) xs ys (AllPairs-head x (xs ++ ys) h)) (AllPairs-between xs ys (AllPairs-tail x (xs ++ ys) h))

  pub AllPairs-append : (xs ys : List X) → AllPairs R xs → AllPairs R ys → All (λ x. All (R x) ys) xs → AllPairs R (xs ++ ys)
  AllPairs-append [] ys left right between = right
  AllPairs-append (x ∷ xs) ys left right between =
      AllPairs-cons R x (xs ++ ys)
      (All-append (R x) xs ys (AllPairs-head x xs left) (All-head (λ z. All (R z) ys) x xs between))
      (AllPairs-append xs ys (AllPairs-tail x xs left) right (All-tail (λ z. All (R z) ys) x xs between))

  -- what holds of the images of a map
  pub AllPairs-before_map : {Y : Type 0} (f : Y → X) (ys : List Y) → AllPairs R (map f ys) → AllPairs (λ a b. R (f a) (f b)) ys
  AllPairs-before_map f ys h i j d lt more =
      subst (λ x. R x (f (get_or ys j d))) (get_or-map f ys i d (f d) (omega (arith, lt, more)))
      (subst (R (get_or (map f ys) i (f d))) (get_or-map f ys j d (f d) more) (h i j (f d) lt (omega (arith, more, length-map ys f))))

pub All-before_map : {X Y : Type 0} (P : X → Type 0) (f : Y → X) (ys : List Y) → All P (map f ys) → All (λ y. P (f y)) ys
All-before_map P f ys h k d lt = subst P (get_or-map f ys k d (f d) lt) (h k (f d) (omega (arith, lt, length-map ys f)))
