-- Lists of hits in the order of their places, from a hit on.
use Rattle.std.proofs.Common.{◌≡◌, refl, ap, ◌∙◌, sym, ℕ, suc, ◌-◌, ◌<◌, ◌≤◌, List, [], ◌∷◌, true, false, drop, length, arith}
use Rattle.std.specs.Prelude.{nat_lt}
use Rattle.std.proofs.lemmas.Bool.Decides.{nat_tests}
use Rattle.std.proofs.lemmas.List.{drop_all, length-drop}
use Rattle.ft_base.specs.declared.hit.Hit.{Hit}
use Rattle.best_hits.specs.Least.{comes_before}

-- where the others end
none_behind : (hits : List Hit) → 0 < length hits → false ≡ comes_before hits []
none_behind [] h = absurd (omega (arith, h))
none_behind (hit ∷ rest) h = refl

pub before_none : (hits others : List Hit) (n : ℕ) → n < length hits → length others ≤ n → false ≡ comes_before (drop n hits) (drop n others)
before_none hits others n h k = none_behind (drop n hits) (omega (arith, h, length-drop n hits)) ∙ sym (ap (comes_before (drop n hits)) (drop_all n others k))

some_more : (n : ℕ) → nat_lt 0 (suc n) ≡ true
some_more n = grind (arith, nat_tests)

-- where the hits end
none_before : (others : List Hit) → nat_lt 0 (length others) ≡ comes_before [] others
none_before [] = refl
none_before (other ∷ rest) = some_more (length rest)

less_left : (a b n : ℕ) → b ≡ a - n → n ≤ a → nat_lt n a ≡ nat_lt 0 b
less_left a b n h k = grind (arith, nat_tests)

pub before_end : (hits others : List Hit) → length hits ≤ length others → nat_lt (length hits) (length others) ≡ comes_before (drop (length hits) hits) (drop (length hits) others)
before_end hits others h =
    less_left (length others) (length (drop (length hits) others)) (length hits) (length-drop (length hits) others) h
    ∙ none_before (drop (length hits) others)
    ∙ sym (ap (λ l. comes_before l (drop (length hits) others)) (drop_all (length hits) hits (omega arith)))
