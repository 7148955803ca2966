-- What walks over a document by its links may rest on.
use Rattle.std.proofs.Common.{◌≡◌, suc, ◌<◌, List, [], ◌∷◌, ◌++◌, length, get_or, sym, ap, ◌∙◌, arith, inl, inr}
use Rattle.std.specs.List.{All, AllPairs, Contains}
use Rattle.std.proofs.Math.Logic.{◌≢◌}
use Rattle.std.proofs.lemmas.Bool.{cases_lt}
use Rattle.std.proofs.lemmas.List.{get_or-map, get_or_default, length-map}
use Rattle.std.proofs.lemmas.List.Elements.{All-nil, All-cons, All-append, All-weaker, All-contains_itself, Contains-append_left, Contains-append_right}
use Rattle.ordered_tree.specs.Numbered.{Numbered, element_at, text_at, Children, no_children, child_then, reference, first_of}
use Rattle.ordered_tree.specs.Stands.{Stand, round_root, round_first, round_next, stands, child_stands, stands_in, references}
use Rattle.ordered_tree.specs.declared.around.Around.{Around}

-- ---- a reference names one node

module _ (root : Numbered) (apart : AllPairs (λ a b. a ≢ b) (references root)) where
  -- the reference at a place of the list
  at : (s : Stand) (c : Contains (stands_in root) s) → get_or (references root) c.0 (reference s.node) ≡ reference s.node
  at s (k, more, is) = get_or-map (λ x. reference x.node) (stands_in root) k s (reference s.node) more ∙ ap (λ x. reference x.node) is

  not-before : (s t : Stand) (c : Contains (stands_in root) s) (d : Contains (stands_in root) t) → reference s.node ≡ reference t.node → c.0 < d.0 → ⊥
  not-before s t c d same less =
      let long = length-map (stands_in root) (λ x. reference x.node) in
      let more : d.0 < length (references root) = omega (arith, d.1, long) in
      let before : c.0 < length (references root) = omega (arith, c.1, long) in
      apart c.0 d.0 (reference s.node) less more
      (at s c ∙ same ∙ sym (at t d) ∙ get_or_default (references root) d.0 (reference t.node) (reference s.node) more)

  pub one-node : (s t : Stand) → Contains (stands_in root) s → Contains (stands_in root) t → reference s.node ≡ reference t.node → s ≡ t
  one-node s t c d same =
      elim (cases_lt c.0 d.0) [
        | inl less ↦ absurd (not-before s t c d same less)
        | inr rest ↦ elim (cases_lt d.0 c.0) [
          | inl less ↦ absurd (not-before t s d c (sym same) less)
          | inr other ↦
              let e : c.0 ≡ d.0 = omega (arith, rest, other) in
              sym c.2 ∙ get_or_default (stands_in root) c.0 s t c.1 ∙ ap (λ k. get_or (stands_in root) k t) e ∙ d.2
        ]
      ]

-- ---- what is below a node is in the document

Contains-cons : (x : Stand) (xs : List Stand) (t : Stand) → Contains xs t → Contains (x ∷ xs) t
Contains-cons x xs t (k, more, is) = (suc k, (omega (arith, more)), is)

abbrev Closed : List Stand → List Stand → Type 0
Closed xs zs = All (λ s. All (Contains xs) (stands s.around s.node)) zs

Closed-wider : (xs ys zs : List Stand) → ((t : Stand) → Contains xs t → Contains ys t) → Closed xs zs → Closed ys zs
Closed-wider xs ys zs wider h =
    All-weaker (λ s. All (Contains xs) (stands s.around s.node)) (λ s. All (Contains ys) (stands s.around s.node))
    (λ s i. All-weaker (Contains xs) (Contains ys) wider (stands s.around s.node) i) zs h

mutual
  unfolding stands child_stands

  closed : (n : Numbered) (a : Around) → Closed (stands a n) (stands a n)
  closed (element_at r name attrs kids) a =
      let all : List Stand = stands a (element_at r name attrs kids) in
      let first : Stand = record { node = element_at r name attrs kids; around = a } in
      let below : List Stand = child_stands (round_first a.before r) kids in
      All-cons (λ s. All (Contains all) (stands s.around s.node)) first below (All-contains_itself all)
      (Closed-wider below all below (Contains-cons first below) (closed-children kids (round_first a.before r)))
  closed (text_at r bytes) a =
      let all : List Stand = stands a (text_at r bytes) in
      All-cons (λ s. All (Contains all) (stands s.around s.node)) (record { node = text_at r bytes; around = a }) [] (All-contains_itself all) (All-nil (λ s. All (Contains all) (stands s.around s.node)))

  closed-children : (ns : Children) (a : Around) → Closed (child_stands a ns) (child_stands a ns)
  closed-children no_children a = All-nil (λ s. All (Contains (child_stands a no_children)) (stands s.around s.node))
  closed-children (child_then n ns) a =
      let first : List Stand = stands (record a { next = first_of ns }) n in
      let rest : List Stand = child_stands (round_next a n) ns in
      All-append (λ s. All (Contains (first ++ rest)) (stands s.around s.node)) first rest
      (Closed-wider first (first ++ rest) first (Contains-append_left first rest) (closed n (record a { next = first_of ns })))
      (Closed-wider rest (first ++ rest) rest (Contains-append_right first rest) (closed-children ns (round_next a n)))

pub below : (root : Numbered) → All (λ s. All (Contains (stands_in root)) (stands s.around s.node)) (stands_in root)
below root = closed root round_root
