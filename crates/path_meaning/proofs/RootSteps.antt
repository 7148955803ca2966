-- What a step from a document to its root selects.
use Rattle.std.proofs.Common.{◌≡◌, refl, ap, ◌∙◌, ℕ, Bool, false, ◌&&◌, cond, List, [], ◌∷◌, filter, map, slice_index_or, bytes_eq}
use Rattle.std.specs.List.{list_any, list_all}
use Rattle.plain_tree.specs.Document.{Node, element, text, Nodes}
use Rattle.path_grammar.specs.declared.path.NameTest.{NameTest}
use Rattle.path_meaning.specs.Elements.{Element, placed, element_at, elements, elements_below, is_same, is_in}
use Rattle.path_grammar.specs.Form.{step, steps, holds, predicates, Condition}
use Rattle.path_meaning.specs.Meaning.{is_named, is_true, stepped, led, selected}
use Rattle.path_meaning.proofs.DeepSteps.{wanted, kept, in_one}
use mathlib.Core.Bool.{and-true, and-false, or-false}
use Rattle.path_meaning.proofs.Lists.{filter-alike, filter-none}
use Rattle.path_meaning.proofs.Traced.{below_root}

-- only the root is the same as the root
root_alone : (p : Element → Bool) (root : Node) (kids : Nodes)
    → filter (λ e. p (placed [] root) && is_same e (placed [] root)) (placed [] root ∷ elements_below [] 1 kids) ≡ filter p (placed [] root ∷ [])
root_alone p root kids =
    let e = placed [] root in
    let others : filter (λ x. p e && is_same x e) (elements_below [] 1 kids) ≡ [] =
    filter-alike (λ x. p e && is_same x e) (λ x. false) (elements_below [] 1 kids)
    (λ k d within. let b = below_root kids k d within in ap (λ place. p e && bytes_eq place []) b.2 ∙ and-false (p e))
    ∙ filter-none (elements_below [] 1 kids) in
    ap (λ b. cond b (e ∷ filter (λ x. p e && is_same x e) (elements_below [] 1 kids)) (filter (λ x. p e && is_same x e) (elements_below [] 1 kids))) (and-true (p e))
    ∙ ap (λ rest. cond (p e) (e ∷ rest) rest) others

pub root_step : (satisfies : ℕ → List Element → Element → Bool) (test : NameTest) (conditions : List Condition) (root : Node)
    → selected satisfies (steps (step false test (predicates (map holds conditions)) ∷ [])) root
    ≡ filter (λ e. is_named test e.node && list_all (λ c. is_true satisfies (elements root) c e) conditions) (element_at [] root)
unfolding selected stepped led
root_step satisfies test conditions (text bytes) = refl
root_step satisfies test conditions (element name attributes kids) =
    let root = element name attributes kids in
    let p = wanted satisfies (elements root) test conditions in
    let e = placed [] root in
    filter-alike (is_in (kept satisfies (elements root) test conditions (e ∷ []) ∷ [])) (λ x. p e && is_same x e) (elements root)
    (λ k d within. let x = slice_index_or (elements root) k d in
    or-false (list_any (is_same x) (kept satisfies (elements root) test conditions (e ∷ [])))
    ∙ in_one satisfies (elements root) test conditions x (e ∷ [])
    ∙ or-false (p e && is_same x e))
    ∙ root_alone p root kids
