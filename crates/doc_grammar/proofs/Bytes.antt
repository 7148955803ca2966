-- Lists of bytes: when a test says that they are equal, or that one begins with the other.
use Rattle.std.proofs.Common.{◌≡◌, ℕ, true, List, [], ◌∷◌, ◌++◌, length, take, drop, refl, ◌∙◌, ap}
use Rattle.std.proofs.lemmas.Bool.{eqb-true, and_parts}
use Rattle.std.proofs.lemmas.List.{take-append-drop}
use Rattle.std.proofs.Math.Seq.{take-append_seam}
use Rattle.std.specs.Prelude.{nat_eq}
use Rattle.std.specs.List.{starts_with}
use Rattle.std.specs.Cmp.Lexicographic.{pointwise}
use Rattle.ft_base.proofs.Truth.{pointwise_refl}

pub pointwise_same : (xs ys : List ℕ) → pointwise nat_eq xs ys ≡ true → xs ≡ ys
pointwise_same [] [] h = refl
pointwise_same [] (y ∷ ys) h = cc
pointwise_same (x ∷ xs) [] h = cc
pointwise_same (x ∷ xs) (y ∷ ys) h = let two = and_parts _ _ h in ap (λ z. z ∷ xs) (eqb-true x y two.0) ∙ ap (λ zs. y ∷ zs) (pointwise_same xs ys two.1)

pub starts_with-true : (xs prefix : List ℕ) → starts_with nat_eq xs prefix ≡ true → prefix ++ drop (length prefix) xs ≡ xs
starts_with-true xs prefix h = ap (λ z. z ++ drop (length prefix) xs) (pointwise_same prefix (take (length prefix) xs) h) ∙ take-append-drop (length prefix) xs

pub starts_with-append : (prefix xs : List ℕ) → starts_with nat_eq (prefix ++ xs) prefix ≡ true
starts_with-append prefix xs = ap (λ z. pointwise nat_eq prefix z) (take-append_seam prefix xs) ∙ pointwise_refl prefix
