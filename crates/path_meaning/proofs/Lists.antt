-- Filters and tests of lists of elements.
use Rattle.std.proofs.Common.{◌≡◌, refl, ap, ◌∙◌, zero, suc, Bool, true, false, ◌&&◌, ◌||◌, cond, List, [], ◌∷◌, filter, All, arith}
use Rattle.std.specs.List.{list_any}
use Rattle.path_meaning.specs.Elements.{Element}

one_more : (q : Element → Bool) (e : Element) (items : List Element) (b c : Bool) → q e ≡ c
    → filter q (cond b (e ∷ items) items) ≡ cond (b && c) (e ∷ filter q items) (filter q items)
one_more q e items true c h = ap (λ d. cond d (e ∷ filter q items) (filter q items)) h
one_more q e items false c h = refl

pub filter-filter : (p q : Element → Bool) (items : List Element) → filter q (filter p items) ≡ filter (λ e. p e && q e) items
filter-filter p q [] = refl
filter-filter p q (e ∷ items) =
    one_more q e (filter p items) (p e) (q e) refl ∙ ap (λ rest. cond (p e && q e) (e ∷ rest) rest) (filter-filter p q items)

-- two tests that answer alike for all elements of a list
pub filter-alike : (p q : Element → Bool) (items : List Element) → All (λ x. p x ≡ q x) items → filter p items ≡ filter q items
filter-alike p q [] same = refl
filter-alike p q (x ∷ items) same =
    ap (λ b. cond b (x ∷ filter p items) (filter p items)) (same zero x (omega arith))
    ∙ ap (λ rest. cond (q x) (x ∷ rest) rest) (filter-alike p q items (λ k d within. same (suc k) d (omega arith)))

pub list_any-alike : (p q : Element → Bool) (items : List Element) → All (λ x. p x ≡ q x) items → list_any p items ≡ list_any q items
list_any-alike p q [] same = refl
list_any-alike p q (x ∷ items) same =
    ap (λ b. b || list_any p items) (same zero x (omega arith))
    ∙ ap (λ b. q x || b) (list_any-alike p q items (λ k d within. same (suc k) d (omega arith)))

-- the tests that pass all and none
pub filter-true : (items : List Element) → filter (λ e. true) items ≡ items
filter-true [] = refl
filter-true (e ∷ items) = ap (λ rest. e ∷ rest) (filter-true items)

pub filter-none : (items : List Element) → filter (λ e. false) items ≡ []
filter-none [] = refl
filter-none (e ∷ items) = filter-none items

list_any-one : (q : Element → Bool) (e : Element) (items : List Element) (b : Bool) → list_any q (cond b (e ∷ items) items) ≡ ((b && q e) || list_any q items)
list_any-one q e items true = refl
list_any-one q e items false = refl

pub list_any-filter : (q p : Element → Bool) (items : List Element) → list_any q (filter p items) ≡ list_any (λ x. p x && q x) items
list_any-filter q p [] = refl
list_any-filter q p (e ∷ items) = list_any-one q e (filter p items) (p e) ∙ ap (λ b. (p e && q e) || b) (list_any-filter q p items)

-- a part of the test that doesn't look at the element
pub list_any-and : (c : Bool) (p : Element → Bool) (items : List Element) → list_any (λ x. c && p x) items ≡ (c && list_any p items)
list_any-and true p items = refl
list_any-and false p [] = refl
list_any-and false p (x ∷ items) = list_any-and false p items
