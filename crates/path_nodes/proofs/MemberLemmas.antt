-- Lists of elements with the same members.
use Rattle.std.proofs.Common.{◌≡◌, Bool, true, false, not, ◌||◌, ◌&&◌, List, [], ◌∷◌, map, filter, get_or, refl, sym, ap, ◌∙◌}
use Rattle.std.specs.List.{All, Contains, list_any}
use Rattle.std.proofs.lemmas.Bool.{or_left, or_right, true_from_ne_false}
use Rattle.std.proofs.lemmas.List.Folds.{list_any_none, list_any_at}
use Rattle.plain_tree.specs.Document.{Node}
use Rattle.path_meaning.specs.Elements.{Element, elements, is_same, is_in}
use Rattle.path_meaning.proofs.Lists.{filter-alike, list_any-filter}
use Rattle.path_nodes.specs.steps.Members.{HaveSame}
use Rattle.path_nodes.specs.steps.Regions.{at_or_below}
use Rattle.path_nodes.specs.steps.Within.{is_prefix, AtOrBelow}
use Rattle.path_nodes.proofs.ChosenLemmas.{prefix-further, tail-of}
use Rattle.path_nodes.proofs.PrefixLemmas.{region}

any-map : (p : List Element → Bool) (f : Element → List Element) (xs : List Element) → list_any p (map f xs) ≡ list_any (λ x. p (f x)) xs
any-map p f [] = refl
any-map p f (x ∷ xs) = ap (λ b. p (f x) || b) (any-map p f xs)

-- lists with the same members offer the same elements
pub same-offered : (f : Element → List Element) (xs ys all : List Element) → HaveSame xs ys → filter (is_in (map f xs)) all ≡ filter (is_in (map f ys)) all
same-offered f xs ys all same =
    filter-alike (is_in (map f xs)) (is_in (map f ys)) all
    (λ k d within. let e = get_or all k d in any-map (list_any (is_same e)) f xs ∙ same (λ x. list_any (is_same e) (f x)) ∙ sym (any-map (list_any (is_same e)) f ys))

pub same-inside : (base : Element) (xs ys : List Element) → HaveSame xs ys → All (AtOrBelow base) ys → All (AtOrBelow base) xs
same-inside base xs ys same h k d within =
    let p : Element → Bool = λ e. not (is_prefix base.place e.place) in
    let none : list_any p ys ≡ false = list_any_none p ys (λ i o more. ap not (h i o more)) in
    true_from_ne_false (is_prefix base.place (get_or xs k d).place)
    (λ f. let some : list_any p xs ≡ true = list_any_at p xs k d within (ap not f) in let e : true ≡ false = sym some ∙ same p ∙ none in cc)

-- ---- regions in regions

pub or-cases : (a b c : Bool) → (a || b) ≡ true → (a ≡ true → c ≡ true) → (b ≡ true → c ≡ true) → c ≡ true
or-cases true b c h f g = f refl
or-cases false b c h f g = g h

any-wider : (p q : Element → Bool) (xs : List Element) → ((x : Element) → p x ≡ true → q x ≡ true) → list_any p xs ≡ true → list_any q xs ≡ true
any-wider p q [] f h = h
any-wider p q (x ∷ xs) f h =
    or-cases (p x) (list_any p xs) (q x || list_any q xs) h
    (λ first. or_left (q x) (list_any q xs) (f x first))
    (λ further. or_right (q x) (list_any q xs) (any-wider p q xs f further))

and-wider : (a b c : Bool) → (a ≡ true → c ≡ true) → (a && b) ≡ true → (c && b) ≡ true
and-wider true b c f h = ap (λ d. d && b) (f refl) ∙ h
and-wider false b c f h = cc

-- what is at or below an element that is at or below another is at or below that one
pub region-has : (root : Node) (h e : Element) → Contains (elements root) h → Contains (elements root) e → AtOrBelow h e → (p : Element → Bool)
    → list_any p (at_or_below e) ≡ true → list_any p (at_or_below h) ≡ true
region-has root h e x y prefix p some =
    let all = elements root in
    let in-e : Element → Bool = λ z. is_prefix e.place z.place in
    let in-h : Element → Bool = λ z. is_prefix h.place z.place in
    sym (ap (list_any p) (region [] root h x))
    ∙ list_any-filter p in-h all
    ∙ any-wider (λ z. in-e z && p z) (λ z. in-h z && p z) all
    (λ z both. and-wider (in-e z) (p z) (in-h z) (λ f. prefix-further h e z prefix (tail-of e.place z.place f)) both)
    (sym (list_any-filter p in-e all) ∙ ap (list_any p) (region [] root e y) ∙ some)
