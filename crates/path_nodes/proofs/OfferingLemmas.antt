-- A walk that stops at one element more, and one that goes past an element.
use Rattle.std.proofs.Common.{◌≡◌, ◌<◌, ◌+◌, ℕ, suc, Bool, true, false, List, [], ◌∷◌, ◌++◌, map, filter, flat_map, if◌then◌else◌, refl, sym, ap, ◌∙◌, subst, arith, append_assoc, append-nil}
use Rattle.std.specs.List.{All, sum_by}
use Rattle.std.proofs.lemmas.List.{map-append, reverse-append}
use Rattle.std.proofs.lemmas.List.Elements.{All-nil, All-cons, filter-append}
use Rattle.std.proofs.lemmas.List.Sums.{sum_by-append, sum_by-cons}
use Rattle.ft_base.specs.declared.ids.NodeRef.{NodeRef}
use Rattle.ordered_tree.specs.Numbered.{Numbered, plain}
use Rattle.path_grammar.specs.Form.{Predicates}
use Rattle.path_meaning.specs.Elements.{Element, elements, element_children}
use Rattle.path_meaning.specs.Meaning.{filtered}
use Rattle.plain_tree.specs.Document.{Node, element, text}
use Rattle.std.specs.Borrow.{MutBor}
use Rattle.path_nodes.specs.Prices.{predicates_price}
use Rattle.path_nodes.specs.References.{IsElement, element_of}
use Rattle.path_nodes.specs.Says.{Meaning, satisfied}
use Rattle.path_nodes.specs.declared.offering.Stop.{Stop}
use Rattle.path_nodes.specs.steps.Found.{Spends, SpendsOf}
use Rattle.path_nodes.specs.steps.Kept.{offered, offered_from, passes, some_number}
use Rattle.path_nodes.specs.steps.Offered.{itself, offered_at, to_come}
use Rattle.path_nodes.specs.steps.RuledOut.{KeepNoneUnder, Suffice}
use Rattle.path_nodes.specs.steps.Weights.{weight, weight_at, weights_at}
use Rattle.path_nodes.proofs.ListLemmas.{flat-more}
use Rattle.path_nodes.proofs.MeaningLemmas.{filtered-none}
use Rattle.path_nodes.proofs.OfferedLemmas.{filtered-passes, price-parts}
use Rattle.path_nodes.proofs.RegionLemmas.{below-children, opened, children-weigh}
use Rattle.path_nodes.proofs.SufficeLemmas.{kept-parts, none-offered, none-offers, suffice-behind, suffice-same}

-- ---- what is offered

alone : (xs : List Element) → flat_map (offered_from false) xs ≡ xs
alone [] = refl
alone (x ∷ xs) = ap (λ l. x ∷ l) (alone xs)

-- what an element offers is what it offers by its children
offered-children : (deep : Bool) (e : Element) → flat_map (offered_from deep) (element_children e) ≡ offered deep e
offered-children true e = below-children e
offered-children false e = alone (element_children e)

pub flat-of : {A B C : Type 0} (f : B → List C) (g : A → B) (xs : List A) → flat_map f (map g xs) ≡ flat_map (λ x. f (g x)) xs
flat-of f g [] = refl
flat-of f g (x ∷ xs) = ap (λ l. f (g x) ++ l) (flat-of f g xs)

module _ (root : Numbered) (deep : Bool) where
  pub one-pushed : (left new : List Stop) (stop : Stop) → new ≡ left ++ stop ∷ [] → to_come root deep new ≡ offered_at root deep stop ++ to_come root deep left
  one-pushed left new stop put = ap (to_come root deep) put ∙ ap (flat_map (offered_at root deep)) (reverse-append left (stop ∷ []))

  -- a node is taken from the end of some and stopped at
  pub one-moved : (f : NodeRef → Stop) (nodes rest : List NodeRef) (node : NodeRef) (left new : List Stop) (all : List Element) → nodes ≡ rest ++ node ∷ [] → new ≡ left ++ f node ∷ []
      → flat_map (λ r. offered_at root deep (f r)) nodes ++ to_come root deep left ≡ all
      → flat_map (λ r. offered_at root deep (f r)) rest ++ to_come root deep new ≡ all
  one-moved f nodes rest node left new all taken put before =
      let offers : NodeRef → List Element = λ r. offered_at root deep (f r) in
      ap (λ l. flat_map offers rest ++ l) (one-pushed left new (f node) put)
      ∙ sym (append_assoc (flat_map offers rest) (offers node) (to_come root deep left))
      ∙ ap (λ l. l ++ to_come root deep left) (sym (flat-more offers rest node))
      ∙ ap (λ l. flat_map offers l ++ to_come root deep left) (sym taken)
      ∙ before

  -- past a stop, at the children of its element
  pub past-context : (stop : Stop) → stop.context ≡ true → (rest : List Element)
      → itself root stop ++ (flat_map (offered_from deep) (element_children (element_of root stop.node)) ++ rest) ≡ offered_at root deep stop ++ rest
  past-context stop is rest =
      let e = element_of root stop.node in
      ap (λ b. (if b then [] else e ∷ []) ++ (flat_map (offered_from deep) (element_children e) ++ rest)) is
      ∙ ap (λ l. l ++ rest) (offered-children deep e)
      ∙ sym (ap (λ b. (if b then offered deep e else offered_from deep e) ++ rest) is)

  pub past-element : (stop : Stop) → stop.context ≡ false → deep ≡ true → IsElement root stop.node → (rest : List Element)
      → itself root stop ++ (flat_map (offered_from deep) (element_children (element_of root stop.node)) ++ rest) ≡ offered_at root deep stop ++ rest
  past-element stop is down x rest =
      let e = element_of root stop.node in
      ap (λ b. (if b then [] else e ∷ []) ++ (flat_map (offered_from deep) (element_children e) ++ rest)) is
      ∙ ap (λ b. e ∷ (flat_map (offered_from b) (element_children e) ++ rest)) down
      ∙ ap (λ l. e ∷ (l ++ rest)) (below-children e)
      ∙ ap (λ l. l ++ rest) (sym (opened root stop.node x))
      ∙ sym (ap (λ b. offered_from b e ++ rest) down)
      ∙ sym (ap (λ b. (if b then offered deep e else offered_from deep e) ++ rest) is)

  pub past-child : (stop : Stop) → stop.context ≡ false → deep ≡ false → (rest : List Element) → itself root stop ++ rest ≡ offered_at root deep stop ++ rest
  past-child stop is down rest =
      let e = element_of root stop.node in
      ap (λ b. (if b then [] else e ∷ []) ++ rest) is
      ∙ sym (ap (λ b. offered_from b e ++ rest) down)
      ∙ sym (ap (λ b. (if b then offered deep e else offered_from deep e) ++ rest) is)

-- ---- how much is left

pub heavy : (n : Node) → 0 < weight n
heavy (element name attributes kids) = omega arith
heavy (text bytes) = omega arith

module _ (root : Numbered) where
  pub weigh-more : (left new : List Stop) (stop : Stop) → new ≡ left ++ stop ∷ [] → weights_at root new ≡ weight_at root stop + weights_at root left
  weigh-more left new stop put =
      let same = ap (weights_at root) put in
      let parts = sum_by-append (weight_at root) left (stop ∷ []) in
      let one = sum_by-cons (weight_at root) stop [] in
      omega (arith, same, parts, one)

  abbrev node_weight : NodeRef → ℕ
  node_weight r = weight (element_of root r).node

  pub weigh-less : (nodes rest : List NodeRef) (node : NodeRef) → nodes ≡ rest ++ node ∷ [] → sum_by node_weight nodes ≡ node_weight node + sum_by node_weight rest
  weigh-less nodes rest node taken =
      let same = ap (sum_by node_weight) taken in
      let parts = sum_by-append node_weight rest (node ∷ []) in
      let one = sum_by-cons node_weight node [] in
      omega (arith, same, parts, one)

  weigh-map : (rs : List NodeRef) → sum_by (λ e. weight e.node) (map (element_of root) rs) ≡ sum_by node_weight rs
  weigh-map [] = refl
  weigh-map (r ∷ rs) =
      sum_by-cons (λ (e : Element). weight e.node) (element_of root r) (map (element_of root) rs)
      ∙ ap (λ n. node_weight r + n) (weigh-map rs)
      ∙ sym (sum_by-cons node_weight r rs)

  pub children-lighter : (node : NodeRef) (children : List NodeRef) → map (element_of root) children ≡ element_children (element_of root node) → sum_by node_weight children < node_weight node
  children-lighter node children are =
      let all = sym (weigh-map children) ∙ ap (sum_by (λ (e : Element). weight e.node)) are in
      let less = children-weigh (element_of root node) in
      omega (arith, all, less)

-- ---- what is taken

module _ (root : Numbered) (m : Meaning) (ps : Predicates) (none : some_number ps ≡ false) (name : Element → Bool) (deep : Bool) (stop : Stop) (left : List Element) where
  abbrev all-named : List Element
  all-named = filter name (offered_at root deep stop ++ left)

  -- what is at a stop that is skipped can be left out
  pub skipped-stop : IsElement root stop.node → KeepNoneUnder root m ps (element_of root stop.node) → Suffice root m ps (filter name left) all-named
  skipped-stop x h =
      let nothing : (context : Bool) → filtered (satisfied root m) (elements (plain root)) ps (filter name (if context then offered deep (element_of root stop.node) else offered_from deep (element_of root stop.node))) ≡ [] =
      λ context. elim context as (λ b. filtered (satisfied root m) (elements (plain root)) ps (filter name (if b then offered deep (element_of root stop.node) else offered_from deep (element_of root stop.node))) ≡ []) [
        | true ↦ none-offers root m ps stop.node x h name deep
        | false ↦ none-offered root m ps stop.node x h name deep
      ] in
      subst (Suffice root m ps (filter name left)) (sym (filter-append name (offered_at root deep stop) left))
      (suffice-behind root m ps none (filter name (offered_at root deep stop)) (filter name left) (nothing stop.context))

  module _ (new : List Element) (past : itself root stop ++ new ≡ offered_at root deep stop ++ left) where
    pub passed-context : stop.context ≡ true → Suffice root m ps (filter name new) all-named
    passed-context is =
        let e = element_of root stop.node in
        suffice-same root m ps (filter name new) all-named (sym (ap (λ b. filter name ((if b then [] else e ∷ []) ++ new)) is) ∙ ap (filter name) past)

    pub passed-element : stop.context ≡ false → (b : Bool) → b ≡ name (element_of root stop.node) → Suffice root m ps ((if b then element_of root stop.node ∷ [] else []) ++ filter name new) all-named
    passed-element is b tells =
        let e = element_of root stop.node in
        suffice-same root m ps ((if b then e ∷ [] else []) ++ filter name new) all-named
        (ap (λ t. (if t then e ∷ [] else []) ++ filter name new) tells
        ∙ sym (filter-append name (e ∷ []) new)
        ∙ sym (ap (λ t. filter name ((if t then [] else e ∷ []) ++ new)) is)
        ∙ ap (filter name) past)

-- ---- what is kept of what is taken

module _ (root : Numbered) (m : Meaning) (ps : Predicates) (none : some_number ps ≡ false) where
  abbrev keeps : List Element → List Element
  keeps = filtered (satisfied root m) (elements (plain root)) ps

  abbrev costs : List Element → ℕ
  costs = predicates_price root m ps

  one-map : (b : Bool) (r : NodeRef) → map (element_of root) (if b then r ∷ [] else []) ≡ (if b then element_of root r ∷ [] else [])
  one-map true r = refl
  one-map false r = refl

  keeps-one : (e : Element) → keeps (e ∷ []) ≡ (if passes (satisfied root m) (elements (plain root)) ps e then e ∷ [] else [])
  keeps-one e = filtered-passes (satisfied root m) (elements (plain root)) ps none (e ∷ [])

  module _ (here : NodeRef) (rest before : List Element) (enough : Suffice root m ps (element_of root here ∷ rest) before) where
    pub kept-next : (found new : List NodeRef) (wanted : Bool) (total : List Element) → new ≡ found ++ (if wanted then here ∷ [] else []) → wanted ≡ passes (satisfied root m) (elements (plain root)) ps (element_of root here)
        → map (element_of root) found ++ keeps before ≡ total → map (element_of root) new ++ keeps rest ≡ total
    kept-next found new wanted total put is done =
        let e = element_of root here in
        ap (λ l. map (element_of root) l ++ keeps rest) put
        ∙ ap (λ l. l ++ keeps rest) (map-append (element_of root) found (if wanted then here ∷ [] else []))
        ∙ ap (λ l. (map (element_of root) found ++ l) ++ keeps rest) (one-map wanted here ∙ ap (λ b. if b then e ∷ [] else []) is ∙ sym (keeps-one e))
        ∙ append_assoc (map (element_of root) found) (keeps (e ∷ [])) (keeps rest)
        ∙ ap (λ l. map (element_of root) found ++ l) (sym (kept-parts root m ps none (e ∷ []) rest) ∙ enough.kept)
        ∙ done

    pub cost-here : {T : Type 0} {cost : T → ℕ} {first now end : MutBor T} {bound : ℕ} → Spends cost now end (costs (element_of root here ∷ [])) → SpendsOf cost first now (costs before) bound → SpendsOf cost first end (costs rest) bound
    cost-here spent done =
        let parts = price-parts root m ps none (element_of root here ∷ []) rest in
        let less = enough.price in
        record { same = spent.same ∙ done.same; within = omega arith }

  pub kept-last : (before : List Element) → Suffice root m ps [] before → (found : List NodeRef) (total : List Element) → map (element_of root) found ++ keeps before ≡ total → map (element_of root) found ≡ total
  kept-last before enough found total done =
      sym (append-nil (map (element_of root) found))
      ∙ ap (λ l. map (element_of root) found ++ l) (sym (filtered-none (satisfied root m) (elements (plain root)) ps) ∙ enough.kept)
      ∙ done

-- ---- the last of a list, and those before it

pub all-last : {X : Type 0} (P : X → Type 0) (xs : List X) (x : X) → All P (xs ++ x ∷ []) → P x
all-last P [] x h = h 0 x (omega arith)
all-last P (y ∷ ys) x h = all-last P ys x (λ k d lt. h (suc k) d (omega (arith, lt)))

pub all-front : {X : Type 0} (P : X → Type 0) (xs : List X) (x : X) → All P (xs ++ x ∷ []) → All P xs
all-front P [] x h = All-nil P
all-front P (y ∷ ys) x h = All-cons P y ys (h 0 y (omega arith)) (all-front P ys x (λ k d lt. h (suc k) d (omega (arith, lt))))
