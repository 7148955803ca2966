-- Elements of which predicates keep what they keep of others: some more of both, and those that are left out.
use Rattle.std.proofs.Common.{◌≡◌, ◌≤◌, ℕ, Bool, true, false, List, [], ◌∷◌, ◌++◌, filter, get_or, refl, sym, ap, ◌∙◌, subst, arith}
use Rattle.std.specs.List.{All, Contains}
use Rattle.std.proofs.lemmas.List.Elements.{All-nil, All-cons, All-filter, All-contains, All-contains_itself, Contains-get_or, filter-append}
use Rattle.ft_base.specs.declared.span.Span.{Span}
use Rattle.ordered_tree.specs.Numbered.{Numbered, plain}
use Rattle.ordered_tree.specs.Stands.{OnNode, span}
use Rattle.ft_base.specs.declared.ids.NodeRef.{NodeRef}
use Rattle.path_grammar.specs.Form.{Predicates}
use Rattle.path_meaning.specs.Elements.{Element, elements}
use Rattle.path_meaning.specs.Meaning.{filtered}
use Rattle.path_nodes.specs.Prices.{predicates_price}
use Rattle.path_nodes.specs.References.{element_of, IsElement}
use Rattle.path_nodes.specs.Says.{Meaning, satisfied}
use Rattle.path_nodes.specs.steps.Kept.{offered, offered_from, passes, some_number}
use Rattle.path_nodes.specs.steps.Regions.{at_or_below, below}
use Rattle.path_nodes.specs.steps.RuledOut.{StandsWithin, KeepNothing, KeepNoneUnder, Suffice}
use Rattle.path_nodes.proofs.AlikeLemmas.{children-from}
use Rattle.path_nodes.proofs.OfferedLemmas.{filtered-passes, price-parts}
use Rattle.path_nodes.proofs.PlaceLemmas.{element-is}
use Rattle.path_nodes.proofs.RegionLemmas.{opened}
use Rattle.path_nodes.proofs.SpanLemmas.{below-within}
use Rattle.path_nodes.proofs.SpotLemmas.{Contains-cons, spot-stand}

module _ (root : Numbered) (m : Meaning) (ps : Predicates) where
  abbrev keeps : List Element → List Element
  keeps = filtered (satisfied root m) (elements (plain root)) ps

  abbrev costs : List Element → ℕ
  costs = predicates_price root m ps

  pub suffice-same : (xs ys : List Element) → xs ≡ ys → Suffice root m ps xs ys
  suffice-same xs ys e = record { kept = ap keeps e; price = let same = ap costs e in omega (arith, same) }

  pub suffice-further : (xs ys zs : List Element) → Suffice root m ps xs ys → Suffice root m ps ys zs → Suffice root m ps xs zs
  suffice-further xs ys zs a b = record { kept = a.kept ∙ b.kept; price = let first = a.price in let second = b.price in omega (arith, first, second) }

  module _ (none : some_number ps ≡ false) where
    pub kept-parts : (xs ys : List Element) → keeps (xs ++ ys) ≡ keeps xs ++ keeps ys
    kept-parts xs ys =
        let sat = satisfied root m in
        let every = elements (plain root) in
        filtered-passes sat every ps none (xs ++ ys)
        ∙ filter-append (passes sat every ps) xs ys
        ∙ ap (λ l. l ++ filter (passes sat every ps) ys) (sym (filtered-passes sat every ps none xs))
        ∙ ap (λ l. keeps xs ++ l) (sym (filtered-passes sat every ps none ys))

    pub suffice-behind : (left xs : List Element) → keeps left ≡ [] → Suffice root m ps xs (left ++ xs)
    suffice-behind left xs nothing = record {
      kept = sym (kept-parts left xs ∙ ap (λ l. l ++ keeps xs) nothing);
      price = let parts = price-parts root m ps none left xs in omega (arith, parts);
    }

-- ---- what is skipped

offered-inside : (root : Numbered) (r : NodeRef) → IsElement root r → (deep : Bool) → All (Contains (at_or_below (element_of root r))) (offered_from deep (element_of root r))
offered-inside root r x true = All-contains_itself (at_or_below (element_of root r))
offered-inside root r x false =
    let e = element_of root r in
    subst (λ l. All (Contains l) (e ∷ [])) (sym (opened root r x)) (All-cons (Contains (e ∷ below e)) e [] (0, omega arith, refl) (All-nil (Contains (e ∷ below e))))

offers-inside : (root : Numbered) (r : NodeRef) → IsElement root r → (deep : Bool) → All (Contains (at_or_below (element_of root r))) (offered deep (element_of root r))
offers-inside root r x true = λ k d within.
    let e = element_of root r in
    subst (λ l. Contains l (get_or (below e) k d)) (sym (opened root r x)) (Contains-cons e (below e) (get_or (below e) k d) (Contains-get_or (below e) k d within))
offers-inside root r x false = let e = element_of root r in children-from e.place e.node

module _ (root : Numbered) (m : Meaning) (ps : Predicates) (r : NodeRef) (x : IsElement root r) (h : KeepNoneUnder root m ps (element_of root r)) (name : Element → Bool) (deep : Bool) where
  pub none-offered : filtered (satisfied root m) (elements (plain root)) ps (filter name (offered_from deep (element_of root r))) ≡ []
  none-offered =
      let e = element_of root r in
      h (filter name (offered_from deep e)) (All-filter name (Contains (at_or_below e)) (offered_from deep e) (offered-inside root r x deep))

  pub none-offers : filtered (satisfied root m) (elements (plain root)) ps (filter name (offered deep (element_of root r))) ≡ []
  none-offers =
      let e = element_of root r in
      h (filter name (offered deep e)) (All-filter name (Contains (at_or_below e)) (offered deep e) (offers-inside root r x deep))

-- an element between whose ends a stretch's lie
element-within : (root : Numbered) (r : NodeRef) → IsElement root r → (from to : ℕ) (s : Span) → OnNode root r (λ x. s ≡ span x) → from ≤ s.from → s.to ≤ to → StandsWithin root from to (element_of root r)
element-within root r x from to s tells low high =
    let is : s ≡ span x.spot.stand = tells x.spot.stand (spot-stand root x.spot x.among) x.refers in
    let from-is = ap (λ y. y.from) is in
    let to-is = ap (λ y. y.to) is in
    record {
      spot = x.spot;
      among = x.among;
      element = x.element;
      is = sym (element-is root r x);
      after = omega (arith, low, from-is);
      ends_before = omega (arith, high, to-is);
    }

-- predicates that keep nothing of a stretch keep none of what is at or below an element in it
pub none-under : (root : Numbered) (m : Meaning) (ps : Predicates) (r : NodeRef) → IsElement root r → (from to : ℕ) (s : Span) → OnNode root r (λ x. s ≡ span x) → from ≤ s.from → s.to ≤ to
    → KeepNothing root m from to ps → KeepNoneUnder root m ps (element_of root r)
none-under root m ps r x from to s tells low high h = λ items inside.
    let e = element_of root r in
    let w = element-within root r x from to s tells low high in
    h items (λ k d within. All-contains (StandsWithin root from to) (at_or_below e) (get_or items k d) (below-within root from to e w) (inside k d within))
