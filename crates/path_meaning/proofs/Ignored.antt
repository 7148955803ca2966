-- What is ignored of an element, whatever the order of the paths.
use Rattle.std.proofs.Common.{◌≡◌, refl, ℕ, Bool, true, false, ◌||◌, List, [], ◌∷◌, AllPairs, slice_index_or, arith}
use Rattle.std.specs.List.{list_any}
use Rattle.std.proofs.lemmas.List.Kept.{AllPairs-filter}
use Rattle.plain_tree.specs.Document.{Node}
use Rattle.path_grammar.specs.Form.{Steps, Paths, no_paths, path_then}
use Rattle.path_meaning.specs.Elements.{Element, elements, is_same, is_in}
use Rattle.path_meaning.specs.Meaning.{led, led_by_each, ignored}
use Rattle.path_meaning.specs.Order.{Before}
use Rattle.path_meaning.proofs.InOrder.{ordered-from}
use Rattle.path_meaning.proofs.Lists.{filter-alike}

pub ignored_in_order : (satisfies : ℕ → List Element → Element → Bool) (root : Node) (paths : Paths) (e : Element) → AllPairs Before (ignored satisfies (elements root) paths e)
unfolding ignored
ignored_in_order satisfies root no_paths e = λ i j d less within. absurd (omega arith)
ignored_in_order satisfies root (path_then path rest) e =
    AllPairs-filter Before (is_in (led satisfies (elements root) path (e ∷ []) ∷ led_by_each satisfies (elements root) rest e)) (elements root) (ordered-from [] root)

turned : (a b : Bool) → (a || (b || false)) ≡ (b || (a || false))
turned true true = refl
turned true false = refl
turned false true = refl
turned false false = refl

pub either_order : (satisfies : ℕ → List Element → Element → Bool) (all : List Element) (a b : Steps) (e : Element)
    → ignored satisfies all (path_then a (path_then b no_paths)) e ≡ ignored satisfies all (path_then b (path_then a no_paths)) e
unfolding ignored led_by_each
either_order satisfies all a b e =
    let first = led satisfies all a (e ∷ []) in
    let second = led satisfies all b (e ∷ []) in
    filter-alike (is_in (first ∷ second ∷ [])) (is_in (second ∷ first ∷ [])) all
    (λ k d within. let x = slice_index_or all k d in turned (list_any (is_same x) first) (list_any (is_same x) second))
