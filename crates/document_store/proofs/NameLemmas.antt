-- No two documents have one name.
use Rattle.std.proofs.Common.{◌≡◌, ◌∙◌, subst, sym, ap, ℕ, ◌+◌, ◌<◌, true, false, true≢false, cond, List, [], ◌∷◌, ◌++◌, length, take, drop, get_or, refl, inl, inr}
use Rattle.std.specs.List.{list_any, AllByRecursion, IsDistinct}
use Rattle.std.specs.Str.{bytes_eq}
use Rattle.std.proofs.lemmas.Bool.{cases_Bool, or_from}
use Rattle.std.proofs.lemmas.List.{drop_more, take-append-drop, take_more}
use Rattle.std.proofs.lemmas.Slice.Eq.{bytes_eq-Decides}
use Rattle.indexmap.specs.IndexSet.{insert_key}

pub all-at : {X : Type 0} (P : X → Type 0) (xs : List X) (y : X) (ys : List X) → AllByRecursion P (xs ++ y ∷ ys) → P y
all-at P [] y ys all = all.0
all-at P (x ∷ xs) y ys all = all-at P xs y ys all.1

pub distinct-none : IsDistinct bytes_eq []
unfolding IsDistinct
distinct-none = tt

differs-turned : (a b : List ℕ) → bytes_eq a b ≡ false → bytes_eq b a ≡ false
differs-turned a b differs = elim (cases_Bool (bytes_eq b a)) [
  | inl same ↦ let is : b ≡ a = (bytes_eq-Decides b a).0 same in let no : true ≡ false = sym (subst (λ c. bytes_eq c a ≡ true) is same) ∙ subst (λ c. bytes_eq a c ≡ false) is differs in absurd (true≢false no)
  | inr differs ↦ differs
]

-- a name that stands after others isn't one of them, where no name stands twice
new-name : (names : List (List ℕ)) (name : List ℕ) (rest : List (List ℕ)) → IsDistinct bytes_eq (names ++ name ∷ rest) → list_any (bytes_eq name) names ≡ false
unfolding IsDistinct
new-name [] name rest apart = refl
new-name (other ∷ names) name rest apart =
    or_from (bytes_eq name other) (list_any (bytes_eq name) names) (differs-turned other name (all-at (λ n. bytes_eq other n ≡ false) names name rest apart.0))
    (new-name names name rest apart.1)

-- the next name is put after those that were put already
pub put-next : (all done done' : List (List ℕ)) (at : ℕ) (next name : List ℕ) → IsDistinct bytes_eq all → done ≡ take at all → at < length all → next ≡ get_or all at next → name ≡ next
    → done' ≡ insert_key bytes_eq done name → done' ≡ take (at + 1) all
put-next all done done' at next name apart before there chosen same made =
    let split : all ≡ take at all ++ next ∷ drop (at + 1) all =
    sym (take-append-drop at all) ∙ ap (λ r. take at all ++ r) (drop_more all at next there ∙ ap (λ n. n ∷ drop (at + 1) all) (sym chosen)) in
    let none : list_any (bytes_eq next) (take at all) ≡ false = new-name (take at all) next (drop (at + 1) all) (subst (IsDistinct bytes_eq) split apart) in
    made ∙ (ap (λ ns. insert_key bytes_eq ns name) before
    ∙ (ap (insert_key bytes_eq (take at all)) same
    ∙ (ap (λ t. cond t (take at all) (take at all ++ next ∷ [])) none
    ∙ sym (take_more all at next there ∙ ap (λ n. take at all ++ n ∷ []) (sym chosen)))))

-- a new name is put after the others
pub put-new : (names done done' : List (List ℕ)) (name : List ℕ) → done ≡ names → list_any (bytes_eq name) names ≡ false → done' ≡ insert_key bytes_eq done name → done' ≡ names ++ name ∷ []
put-new names done done' name same none made = made ∙ (ap (λ ns. insert_key bytes_eq ns name) same ∙ ap (λ t. cond t names (names ++ name ∷ [])) none)
