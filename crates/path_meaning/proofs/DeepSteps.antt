-- What a deep step from a document selects.
use Rattle.std.proofs.Common.{◌≡◌, refl, sym, ap, ◌∙◌, ℕ, zero, suc, Bool, true, false, ◌&&◌, ◌||◌, List, [], ◌∷◌, ◌++◌, filter, map, flat_map, slice_index_or, All, arith}
use Rattle.std.specs.List.{list_any, list_all}
use Rattle.std.proofs.lemmas.List.Elements.{All-nil, All-append}
use Rattle.std.proofs.lemmas.List.Folds.{list_any-append}
use Rattle.std.proofs.lemmas.Slice.Eq.{bytes_eq-Decides}
use Rattle.plain_tree.specs.Document.{Node}
use Rattle.path_grammar.specs.declared.path.NameTest.{NameTest}
use Rattle.path_meaning.specs.Elements.{Element, placed, element_at, element_children, elements, is_same, is_in, node_at}
use Rattle.path_grammar.specs.Form.{step, steps, holds, predicates, Condition}
use Rattle.path_meaning.specs.Meaning.{item, children, is_named, stepped, led, filtered, filtered_by, is_true, selected}
use Rattle.path_meaning.proofs.Traced.{or_else, Placed, elements_placed, root_placed, children_placed, offered, all_offered}
use mathlib.Core.Bool.{and-true, and-false}
use Rattle.path_meaning.proofs.Lists.{filter-true, filter-filter, filter-alike, list_any-filter, list_any-alike, list_any-and}

-- whether all conditions are true of an element
abbrev pub meets : (ℕ → List Element → Element → Bool) → List Element → List Condition → Element → Bool
meets satisfies all conditions e = list_all (λ c. is_true satisfies all c e) conditions

by_conditions : (satisfies : ℕ → List Element → Element → Bool) (all : List Element) (conditions : List Condition) (items : List Element)
    → filtered satisfies all (predicates (map holds conditions)) items ≡ filter (meets satisfies all conditions) items
unfolding filtered filtered_by
by_conditions satisfies all [] items = sym (filter-true items)
by_conditions satisfies all (c ∷ conditions) items =
    by_conditions satisfies all conditions (filter (is_true satisfies all c) items) ∙ filter-filter (is_true satisfies all c) (meets satisfies all conditions) items

abbrev pub wanted : (ℕ → List Element → Element → Bool) → List Element → NameTest → List Condition → Element → Bool
wanted satisfies all test conditions e = is_named test e.node && meets satisfies all conditions e

abbrev pub kept : (ℕ → List Element → Element → Bool) → List Element → NameTest → List Condition → List Element → List Element
kept satisfies all test conditions items = filtered satisfies all (predicates (map holds conditions)) (filter (λ e. is_named test e.node) items)

kept_wanted : (satisfies : ℕ → List Element → Element → Bool) (all : List Element) (test : NameTest) (conditions : List Condition) (items : List Element)
    → kept satisfies all test conditions items ≡ filter (wanted satisfies all test conditions) items
kept_wanted satisfies all test conditions items =
    by_conditions satisfies all conditions (filter (λ e. is_named test e.node) items) ∙ filter-filter (λ e. is_named test e.node) (meets satisfies all conditions) items

-- an element is in a step's list where an item that is offered is wanted and is the same
module _ (satisfies : ℕ → List Element → Element → Bool) (all : List Element) (test : NameTest) (conditions : List Condition) where
  abbrev p : Element → Bool
  p = wanted satisfies all test conditions

  pub in_one : (e : Element) (items : List Element) → list_any (is_same e) (kept satisfies all test conditions items) ≡ list_any (λ x. p x && is_same e x) items
  in_one e items = ap (list_any (is_same e)) (kept_wanted satisfies all test conditions items) ∙ list_any-filter (is_same e) p items

  in_some : (e : Element) (items : List Element) → is_in (map (kept satisfies all test conditions) (map children (map item items) ++ [])) e
      ≡ list_any (λ x. p x && is_same e x) (flat_map element_children items)
  in_some e [] = refl
  in_some e (g ∷ items) =
      ap (λ b. b || is_in (map (kept satisfies all test conditions) (map children (map item items) ++ [])) e) (in_one e (element_children g))
      ∙ ap (λ b. list_any (λ x. p x && is_same e x) (element_children g) || b) (in_some e items)
      ∙ sym (list_any-append (λ x. p x && is_same e x) (element_children g) (flat_map element_children items))

-- two elements of one place
one_place : (root : Node) (e x : Element) → Placed root e → Placed root x → is_same e x ≡ true → e ≡ x
one_place root e x he hx h =
    let same : e.place ≡ x.place = (bytes_eq-Decides e.place x.place).0 h in
    ap (λ place. placed place e.node) same
    ∙ ap (λ n. placed x.place (or_else e.node n)) (sym he ∙ ap (node_at root) same ∙ hx)

of_it : (root : Node) (p : Element → Bool) (e x : Element) → Placed root e → Placed root x → (b : Bool) → is_same e x ≡ b → (p x && is_same e x) ≡ (p e && is_same e x)
of_it root p e x he hx true h = ap (λ y. p y && is_same e x) (sym (one_place root e x he hx h))
of_it root p e x he hx false h =
    ap (λ b. p x && b) h ∙ and-false (p x) ∙ sym (and-false (p e)) ∙ ap (λ b. p e && b) (sym h)

children_of_placed : (root : Node) (items : List Element) → All (Placed root) items → All (Placed root) (flat_map element_children items)
children_of_placed root [] h = All-nil (Placed root)
children_of_placed root (e ∷ items) h =
    All-append (Placed root) (element_children e) (flat_map element_children items)
    (children_placed root e (h zero e (omega arith)))
    (children_of_placed root items (λ k d within. h (suc k) d (omega arith)))

offered_placed : (root : Node) → All (Placed root) (offered root)
offered_placed root =
    All-append (Placed root) (element_at [] root) (flat_map element_children (elements root)) (root_placed root) (children_of_placed root (elements root) (elements_placed root))

wanted_alone : (root : Node) (p : Element → Bool) (e : Element) → Placed root e → list_any (is_same e) (offered root) ≡ true
    → list_any (λ x. p x && is_same e x) (offered root) ≡ p e
wanted_alone root p e he h =
    list_any-alike (λ x. p x && is_same e x) (λ x. p e && is_same e x) (offered root)
    (λ k d within. let x = slice_index_or (offered root) k d in of_it root p e x he (offered_placed root k d within) (is_same e x) refl)
    ∙ list_any-and (p e) (is_same e) (offered root)
    ∙ ap (λ b. p e && b) h
    ∙ and-true (p e)

pub deep_step : (satisfies : ℕ → List Element → Element → Bool) (test : NameTest) (conditions : List Condition) (root : Node)
    → selected satisfies (steps (step true test (predicates (map holds conditions)) ∷ [])) root
    ≡ filter (λ e. is_named test e.node && list_all (λ c. is_true satisfies (elements root) c e) conditions) (elements root)
unfolding selected stepped led
deep_step satisfies test conditions root =
    filter-alike
    (is_in (kept satisfies (elements root) test conditions (element_at [] root) ∷ map (kept satisfies (elements root) test conditions) (map children (map item (elements root)) ++ [])))
    (wanted satisfies (elements root) test conditions) (elements root)
    (λ k d within. let e = slice_index_or (elements root) k d in let p = wanted satisfies (elements root) test conditions in
    ap (λ b. b || is_in (map (kept satisfies (elements root) test conditions) (map children (map item (elements root)) ++ [])) e)
    (in_one satisfies (elements root) test conditions e (element_at [] root))
    ∙ ap (λ b. list_any (λ x. p x && is_same e x) (element_at [] root) || b) (in_some satisfies (elements root) test conditions e (elements root))
    ∙ sym (list_any-append (λ x. p x && is_same e x) (element_at [] root) (flat_map element_children (elements root)))
    ∙ wanted_alone root p e (elements_placed root k d within) (all_offered root k d within))
